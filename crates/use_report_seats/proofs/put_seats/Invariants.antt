-- The loop's invariant: the lines of the first p seats are put.
use Rattle.std.proofs.Common.{take}
use Rattle.model_report.specs.Report.{seat_lines}
use Rattle.use_text.specs.Page.{Put}
use Rattle.use_report_seats.proofs.put_seats.Given as goal

abbrev pub invariant-loop-p : goal.invariant-loop-p
invariant-loop-p l = Put l.fn.page (seat_lines 0 (take l.p l.seats)) l.page
