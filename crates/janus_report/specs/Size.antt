-- A report has 16 bytes or more, so 15 is never a size.
use Rattle.std.specs.Prelude.{◌≤◌}
use Rattle.base.specs.Prelude.{ℕ, arith, List, length, length-append, ltb}
use Rattle.base.specs.Bools.{cond_cases}
use Rattle.model.specs.Answers.{Ending, Finished, Refused, BudgetEnded, Rejected}
use Rattle.model.specs.declared.Caller.TheVariants.{Server}
use Rattle.model.specs.Runner.{run}
use Rattle.model_report.specs.Report.{decimal, digits, outcome_line, report, report_budget}

-- A number has a digit.
some_digit : (v : ℕ) → 1 ≤ length (decimal v)
unfolding digits
some_digit v =
    cond_cases (λ (d : List ℕ). 1 ≤ length d) (ltb v 10) (λ e. omega arith) (λ e. simp length-append (omega arith))

-- The shortest first line is that of a refused sheet.
pub outcome_long : (e : Ending) (k : ℕ) → 16 ≤ length (outcome_line e k)
outcome_long Finished k = simp length-append (omega (arith, some_digit k))
outcome_long (Refused c i) k = simp length-append (omega (arith, some_digit c, some_digit i))
outcome_long BudgetEnded k = simp length-append (omega (arith, some_digit k))
outcome_long (Rejected c) k = simp length-append (omega (arith, some_digit c))

pub report_long : (s : List ℕ) → 16 ≤ length (report s)
unfolding report
report_long s =
    let r = run Server s report_budget in
    simp length-append (omega (arith, outcome_long r.ending r.carried))
