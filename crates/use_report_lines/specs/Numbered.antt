-- What a run with any numbers says, in the words of the definitions.
use Rattle.model.specs.Answers as A
use Rattle.use_report_lines.specs.declared.Ending.{Ending}
use Rattle.use_report_lines.specs.declared.Ending.TheVariants.{Finished, Refused, BudgetEnded, Rejected}
use Rattle.use_report_lines.specs.declared.Ran.{Ran}

-- How it ended.
abbrev pub told_ending : Ending → A.Ending
told_ending Finished = A.Finished
told_ending (Refused number index) = A.Refused number index
told_ending BudgetEnded = A.BudgetEnded
told_ending (Rejected number) = A.Rejected number

-- What it gave.
abbrev pub told_numbered : Ran → A.Ran
told_numbered r = record { carried = r.carried; session = r.session; counts = r.counts; ending = told_ending r.ending }
