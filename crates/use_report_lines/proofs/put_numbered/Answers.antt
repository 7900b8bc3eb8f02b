use Rattle.std.proofs.Common.{rules, arith, ℕ, ◌≡◌, ◌≤◌, ◌++◌, ◌⊎◌, refl, take, length}
use Rattle.base.specs.Prelude.{⊎_elim}
use Rattle.base.specs.Arrays.{length_mapped}
use Rattle.model.specs.declared.Session.{Session}
use Rattle.model.specs.declared.Counts.{Counts}
use Rattle.model_report.specs.Report.{tally_line, board_line, seat_lines, more_lines, report_of}
use Rattle.use_text.specs.Page.{page_size, after, same}
use Rattle.use_report_laws.specs.Room.{report_low}
use Rattle.use_report_lines.specs.declared.Ending.{Ending}
use Rattle.use_report_lines.specs.declared.Ending.TheVariants.{Finished, Refused, BudgetEnded}
use Rattle.use_report_lines.specs.declared.Ran.{Ran}
use Rattle.use_report_lines.specs.Numbered.{told_ending, told_numbered}
use Rattle.use_report_lines.proofs.put_numbered.Goals as goal

-- The report of any ending but a refused sheet's has all of the lines.
all_lines : (e : Ending) (s : Session) (c : Counts)
    → (e ≡ Finished) ⊎ (((n : ℕ) × (i : ℕ) × (e ≡ Refused n i)) ⊎ (e ≡ BudgetEnded))
    → tally_line c ++ board_line s ++ seat_lines 0 (take s.n s.processes) ≡ more_lines (told_ending e) s c
all_lines e s c h =
    ⊎_elim (λ (is : e ≡ Finished). rw is refl)
    (λ (other : ((n : ℕ) × (i : ℕ) × (e ≡ Refused n i)) ⊎ (e ≡ BudgetEnded)).
    ⊎_elim (λ (is : (n : ℕ) × (i : ℕ) × (e ≡ Refused n i)). rw is.2 refl) (λ (is : e ≡ BudgetEnded). rw is refl) other)
    h

-- The report fits, since a session has 64 records.
low : (r : Ran) → length r.session.processes ≡ 64 → length (report_of (told_numbered r)) ≤ page_size
low r long = omega (arith, report_low (told_numbered r) long)

pub returns-in-Rejected-clause-fits : goal.returns-in-Rejected-clause-fits
returns-in-Rejected-clause-fits c = low c.args.ran.now (search (rules, length_mapped))

pub returns-in-Finished : goal.returns-in-Finished
returns-in-Finished c =
    let ran = c.args.ran.now in
    let lines = same (all_lines ran.ending ran.session ran.counts c.in-Finished.is) c.put_more.ensures in
    record { lines = after c.put_outcome.ensures lines; fits = low ran (search (rules, length_mapped)) }
