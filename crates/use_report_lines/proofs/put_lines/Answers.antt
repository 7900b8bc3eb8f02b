use Rattle.std.proofs.Common.{arith, refl}
use Rattle.std.specs.Prelude.{Err}
use Rattle.model.specs.Answers.{told_run}
use Rattle.model.specs.Board.{opened}
use Rattle.use_report_laws.specs.Room.{report_low}
use Rattle.use_report_lines.proofs.put_lines.Goals as goal

pub returns-in-Ok : goal.returns-in-Ok
returns-in-Ok c = rw c.in-Ok.is (record { lines = c.put_run.ensures.lines; fits = c.put_run.ensures.fits })

-- No session is made, and the one that stands for it has the records of any.
pub returns-in-Err-clause-fits : goal.returns-in-Err-clause-fits
unfolding opened
returns-in-Err-clause-fits c = rw c.in-Err.is (omega (arith, report_low (told_run (Err c.in-Err.refusal)) refl))
