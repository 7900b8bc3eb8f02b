use Rattle.std.proofs.Common.{◌≡◌, ap, take}
use Rattle.model.specs.Board.{idle}
use Rattle.model_report.specs.Report.{seat_lines}
use Rattle.use_text.specs.Page.{same}
use Rattle.use_report_laws.specs.Seats.{seat_put, seats_lent}
use Rattle.use_report_seats.proofs.put_seats.Goals as goal

-- One seat's line more is put.
pub loop-p-preserved : goal.loop-p-preserved
loop-p-preserved c =
    seat_put (take c.min.result c.args.s.now.processes) idle c.loop-p.p c.loop-p-test.true c.loop-p.invariant
    c.put_fields.ensures c.put_status.ensures

-- No seat is left.
pub returns : goal.returns
returns c =
    let s = c.args.s.now in
    let all : take c.loop-p.p (take c.min.result s.processes) ≡ take s.n s.processes =
    seats_lent s.processes c.loop-p.p s.n c.min.result c.loop-p-test.false c.min.ensures in
    same (ap (λ l. seat_lines 0 l) all) c.loop-p.invariant
