use Rattle.std.proofs.Common.{rules, arith, ◌≡◌, ap, length}
use Rattle.base.specs.Arrays.{length_mapped}
use Rattle.model.specs.Answers.{told_ran}
use Rattle.model_report.specs.Report.{outcome_line}
use Rattle.use_text.specs.Page.{after, same}
use Rattle.use_report_laws.specs.Cases.{ended_lines}
use Rattle.use_report_laws.specs.Room.{report_low}
use Rattle.use_report_lines.proofs.put_run.Goals as goal

-- The outcome is that of the run's ending. The other lines stand behind it.
pub returns-clause-lines : goal.returns-clause-lines
returns-clause-lines c =
    let run = c.args.run.now in
    after (same (ap (λ e. outcome_line e run.carried) c.numbered.ensures) c.put_outcome.ensures)
    (same (ended_lines run.ended run.session run.counts) c.put_more.ensures)

-- The records are 64, as the session's own type has it.
pub returns-clause-fits : goal.returns-clause-fits
returns-clause-fits c =
    let long : length c.args.run.now.session.processes ≡ 64 = search (rules, length_mapped) in
    omega (arith, report_low (told_ran c.args.run.now) long)
