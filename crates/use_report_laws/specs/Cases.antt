-- The endings and phases that an arm of a `match` stands for, by their tags.
use Rattle.std.specs.Prelude.{◌≡◌, ◌∷◌, ◌++◌, ◌⊎◌}
use Prim.{tt}
use Rattle.base.specs.Prelude.{ℕ, refl, List, [], take, ⊎_elim}
use denote.Enum.Declared.{tag_of}
use types.Run.{OneOf, hit, miss}
use Rattle.model.specs.declared.Phase.{Phase}
use Rattle.model.specs.declared.Phase.TheVariants.{Idle, Waiting, Write, Scan, Adopt, Compare, Flag, CheckMark}
use Rattle.model.specs.declared.Phase.TheVariants.{CheckValue, Commit, Exhausted, Crashed, Decided, HasCommitted, HasAdopted}
use Rattle.model.specs.contracts.Phase.{the_type as phase-type}
use Rattle.model.specs.declared.refusal.Refusal.{Refusal}
use Rattle.model.specs.declared.Session.{Session}
use Rattle.model.specs.declared.Counts.{Counts}
use Rattle.model.specs.declared.Ended.{Ended}
use Rattle.model.specs.declared.Ended.TheVariants as E
use Rattle.model.specs.Answers.{Ending, Finished, Refused, BudgetEnded, Rejected, told_ended}
use Rattle.model.specs.Numbers.{number}
use Rattle.model_report.specs.Report.{bytes, field, newline, outcome_line, tally_line, board_line, status_words, seat_lines, more_lines}

-- The tag of an ending: its place among them.
abbrev pub ending_tag : Ending → ℕ
ending_tag Finished = 0
ending_tag (Refused k i) = 1
ending_tag BudgetEnded = 2
ending_tag (Rejected k) = 3

pub outcome_finished : (e : Ending) (k : ℕ) → OneOf (0 ∷ 2 ∷ []) (ending_tag e)
    → bytes "outcome finished" ++ field k ++ newline ≡ outcome_line e k
outcome_finished Finished k h = refl
outcome_finished (Refused c i) k h = absurd (miss (0 ∷ 2 ∷ []) 1 tt h)
outcome_finished BudgetEnded k h = refl
outcome_finished (Rejected c) k h = absurd (miss (0 ∷ 2 ∷ []) 3 tt h)

pub more_lines_law : (e : Ending) (s : Session) (c : Counts) → OneOf (0 ∷ 1 ∷ 2 ∷ []) (ending_tag e)
    → tally_line c ++ board_line s ++ seat_lines 0 (take s.n s.processes) ≡ more_lines e s c
more_lines_law Finished s c h = refl
more_lines_law (Refused k i) s c h = refl
more_lines_law BudgetEnded s c h = refl
more_lines_law (Rejected k) s c h = absurd (miss (0 ∷ 1 ∷ 2 ∷ []) 3 tt h)

-- ---- of the endings that the code has

-- No entry was refused.
pub ended_finished : (e : Ended) (k : ℕ) → (e ≡ E.Finished) ⊎ (e ≡ E.BudgetEnded)
    → bytes "outcome finished" ++ field k ++ newline ≡ outcome_line (told_ended e) k
ended_finished e k h =
    outcome_finished (told_ended e) k
    (⊎_elim (λ (is : e ≡ E.Finished). rw is (hit (0 ∷ 2 ∷ []) 0 tt)) (λ (is : e ≡ E.BudgetEnded). rw is (hit (0 ∷ 2 ∷ []) 2 tt)) h)

-- An entry was: with the refusal's number.
pub ended_refused : (e : Ended) (r : Refusal) (i k : ℕ) {n : ℕ} → e ≡ E.Refused r i → n ≡ number r
    → bytes "outcome refused" ++ field n ++ field i ++ newline ≡ outcome_line (told_ended e) k
ended_refused e r i k is en = rw (is, en) refl

-- None of them is that of a refused sheet.
ended_tag : (e : Ended) → OneOf (0 ∷ 1 ∷ 2 ∷ []) (ending_tag (told_ended e))
ended_tag E.Finished = hit (0 ∷ 1 ∷ 2 ∷ []) 0 tt
ended_tag (E.Refused r i) = hit (0 ∷ 1 ∷ 2 ∷ []) 1 tt
ended_tag E.BudgetEnded = hit (0 ∷ 1 ∷ 2 ∷ []) 2 tt

pub ended_lines : (e : Ended) (s : Session) (c : Counts)
    → tally_line c ++ board_line s ++ seat_lines 0 (take s.n s.processes) ≡ more_lines (told_ended e) s c
ended_lines e s c = more_lines_law (told_ended e) s c (ended_tag e)

-- ---- phases

abbrev working : List ℕ
working = 1 ∷ 2 ∷ 3 ∷ 4 ∷ 5 ∷ 6 ∷ 7 ∷ 8 ∷ 9 ∷ 13 ∷ 14 ∷ []

pub status_working : (f : Phase) (r e : ℕ) → OneOf working (tag_of phase-type f)
    → bytes " working" ++ field r ++ field e ++ newline ≡ status_words f r e ++ newline
status_working Idle r e h = absurd (miss working 0 tt h)
status_working Waiting r e h = refl
status_working Write r e h = refl
status_working (Scan k) r e h = refl
status_working (Adopt k) r e h = refl
status_working (Compare i) r e h = refl
status_working (Flag i) r e h = refl
status_working (CheckMark i) r e h = refl
status_working (CheckValue i) r e h = refl
status_working Commit r e h = refl
status_working Exhausted r e h = absurd (miss working 10 tt h)
status_working Crashed r e h = absurd (miss working 11 tt h)
status_working Decided r e h = absurd (miss working 12 tt h)
status_working HasCommitted r e h = refl
status_working HasAdopted r e h = refl
