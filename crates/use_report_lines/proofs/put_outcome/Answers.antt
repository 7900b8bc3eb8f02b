use Rattle.std.proofs.Common.{◌≡◌, ◌++◌, refl}
use Rattle.base.specs.Prelude.{⊎_elim}
use Rattle.model_report.specs.Report.{bytes, field, newline, outcome_line}
use Rattle.use_text.specs.Page.{same}
use Rattle.use_report_lines.specs.declared.Ending.TheVariants.{Finished, BudgetEnded}
use Rattle.use_report_lines.specs.Numbered.{told_ending}
use Rattle.use_report_lines.proofs.put_outcome.Goals as goal

-- A run that ended its budget has the same line.
pub returns-in-Finished : goal.returns-in-Finished
returns-in-Finished c =
    let e = c.args.ending in
    let line : bytes "outcome finished" ++ field c.args.carried ++ newline ≡ outcome_line (told_ending e) c.args.carried =
    ⊎_elim (λ (is : e ≡ Finished). rw is refl) (λ (is : e ≡ BudgetEnded). rw is refl) c.in-Finished.is in
    same line c.put_line-in-Finished.ensures
