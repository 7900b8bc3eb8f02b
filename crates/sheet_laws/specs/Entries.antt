-- One entry as the runner's code takes it: a work turn has a path of its own, and of the others each is a refusal, a register operation
-- and, where the record changes, what the process becomes. The laws say that this is what the machine does.
use Rattle.std.specs.Prelude.{◌<◌, ◌≤◌, ◌≡◌, Some, None, Option}
use Rattle.base.specs.Prelude.{ℕ, refl, ◌∙◌, ap, Bool, true, false, cond, not, true≢false, List, set, leb, eqb}
use Rattle.base.specs.Prelude.{le-leb, lt-leb, not-false}
use Rattle.std.proofs.Math.Seq.{set-get_or}
use Rattle.model_laws.specs.Types.{Phase, Waiting, Crashed, Access, Nothing, ReadDecision, Process, Session, Counts, Operation, Propose}
use Rattle.model_laws.specs.Types.{Step, Learn, Crash, Ending, BudgetEnded, Refused}
use Rattle.model.specs.Board.{process_at, with, with_process, idle}
use Rattle.model.specs.Step.{access, next, learnt, found, stored, turn, counted, process}
use Rattle.model.specs.Numbers.{no_such_process}
use Rattle.model.specs.Refusal.{refusal, tests, step_tests}
use Rattle.model.specs.Machine.{access_of, becomes, after, counts_after, process_of}
use Rattle.model.specs.Sound.{sound_for}
use Rattle.model_laws.specs.Accepted.{own_tests, tests_are}
use Rattle.model_laws.specs.Operations.{access_in_arrays}
use Rattle.model_laws.specs.Registers.{value_in, mark_in, values_after, marks_after, decision_after, counted_is, worked_is}

-- Whether it is a work turn.
abbrev pub is_step : Operation → Bool
is_step (Propose p v) = false
is_step (Step p leader) = true
is_step (Learn p) = false
is_step (Crash p) = false

-- How the run ends at an entry that is refused with this number, or is past the budget.
abbrev pub halt_of : (budget k code : ℕ) → Ending
halt_of budget k code = cond (leb budget k) BudgetEnded (Refused code k)

-- ---- entries that are no work turn

-- Whether the record of the process changes, by the decision register D.
abbrev pub changes_of : (D : ℕ) → Operation → Bool
changes_of D (Propose p v) = true
changes_of D (Step p leader) = false
changes_of D (Learn p) = not (eqb D 0)
changes_of D (Crash p) = true

-- To what, where it does. (Where it does not, any record will do.)
abbrev pub moved_to : Process → (D : ℕ) → Operation → Process
moved_to q D (Propose p v) = process Waiting q.round v
moved_to q D (Step p leader) = process Crashed q.round q.estimate
moved_to q D (Learn p) = learnt q D
moved_to q D (Crash p) = process Crashed q.round q.estimate

-- The record that is stored then; none where it does not change.
abbrev pub becoming : Process → (D : ℕ) → Operation → Option Process
becoming q D o = cond (changes_of D o) (Some (moved_to q D o)) None

-- The one register operation.
abbrev pub other_access : Operation → Access
other_access (Propose p v) = Nothing
other_access (Step p leader) = Nothing
other_access (Learn p) = ReadDecision
other_access (Crash p) = Nothing

-- ---- the refusal

module _ (s : Session) (c : Counts) (o : Operation) where
  -- Of a process below n.
  pub entry_refusal : process_of o < s.n → refusal (tests s c o) ≡ refusal (own_tests s.closed (process_at s (process_of o)).phase c o)
  entry_refusal low = rw (tests_are s c o, lt-leb s.n (process_of o) low)

  -- A process n or above is refused by its number.
  pub number_refusal : s.n ≤ process_of o → refusal (tests s c o) ≡ no_such_process
  number_refusal high = rw (tests_are s c o, le-leb s.n (process_of o) high)

-- The refusal of a work turn.
pub step_refusal : (closed : Bool) (φ : Phase) (c : Counts) {o : Operation} {p : ℕ} {leader : Bool} → o ≡ Step p leader →
    refusal (step_tests φ c) ≡ refusal (own_tests closed φ c o)
step_refusal closed φ c told = rw told

-- What the code leaves after a work turn of a sound session, register by register.
pub step_leaves : (W : ℕ) (s : Session) (p : ℕ)
    (leader : Bool) {o : Operation} {m v x y : ℕ} {a : Access} {values : List ℕ} {marks : List Bool} {q : Process} →
    sound_for W s ≡ true →
    o ≡ Step m leader →
    p ≡ process_of o →
    a ≡ access s.limit (process_at s p) leader →
    v ≡ value_in s.values a →
    x ≡ mark_in v s.marks a →
    values ≡ values_after s.values a (process_at s p).estimate →
    marks ≡ marks_after s.marks a →
    y ≡ decision_after s.decision a (process_at s p).estimate →
    q ≡ next W s.limit (process_at s p) leader x →
    with s values marks y (set s.processes p q) ≡ after W s o
step_leaves W s p leader {m = m} t told named ea er ex ev em ey eq =
    rw told
    (worked_is s m leader (access_in_arrays W s (Step m leader) t) (named ∙ ap process_of told) ea er ex W ev em ey eq)

-- And what it counts.
pub step_counts : (W : ℕ) (s : Session) (p : ℕ) (leader : Bool) (c : Counts) {o : Operation} {m v x : ℕ} {a : Access} →
    sound_for W s ≡ true →
    o ≡ Step m leader →
    p ≡ process_of o →
    a ≡ access s.limit (process_at s p) leader →
    v ≡ value_in s.values a →
    x ≡ mark_in v s.marks a →
    counted a x c ≡ counts_after s c o
step_counts W s p leader c {m = m} t told named ea er ex =
    rw told (counted_is s m leader (access_in_arrays W s (Step m leader) t) (named ∙ ap process_of told) ea er ex c)

-- ---- what an entry that is no work turn leaves

module _ (W : ℕ) (s : Session) (p : ℕ) where
  -- Where the record changes.
  pub other_changes : (o : Operation) {q : Process} → is_step o ≡ false → p ≡ process_of o →
      changes_of s.decision o ≡ true → q ≡ moved_to (process_at s p) s.decision o → with_process s p q ≡ after W s o
  unfolding after access_of becomes turn stored found
  other_changes (Propose m v) not_step named h eq = rw (eq, named)
  other_changes (Step m leader) not_step named h eq = absurd (true≢false not_step)
  other_changes (Learn m) not_step named h eq = rw (eq, named)
  other_changes (Crash m) not_step named h eq = rw (eq, named)

  -- And where it does not: a look at a blank D.
  pub other_stays : (o : Operation) → is_step o ≡ false →
      changes_of s.decision o ≡ false → s ≡ after W s o
  unfolding after access_of becomes turn stored found learnt
  other_stays (Propose m v) not_step h = absurd (true≢false h)
  other_stays (Step m leader) not_step h = absurd (true≢false not_step)
  other_stays (Learn m) not_step h = rw (not-false (eqb s.decision 0) h, set-get_or s.processes m idle)
  other_stays (Crash m) not_step h = absurd (true≢false h)

-- By the record that is stored: one is, where the record changes, and none where it does not.
one_stored : (b : Bool) {x y : Process} → cond b (Some x) None ≡ Some y → (b ≡ true) × (y ≡ x)
one_stored true e = (refl, cc)
one_stored false e = absurd (cc)

none_stored : (b : Bool) (x : Process) → cond b (Some x) None ≡ None → b ≡ false
none_stored true x e = absurd (cc)
none_stored false x e = refl

module _ (W : ℕ) (s : Session) (p : ℕ) where
  pub becoming_changes : (o : Operation) {q : Process} → is_step o ≡ false → p ≡ process_of o →
      becoming (process_at s p) s.decision o ≡ Some q → with_process s p q ≡ after W s o
  becoming_changes o not_step named e =
      let stored = one_stored (changes_of s.decision o) e in other_changes W s p o not_step named stored.0 stored.1

  pub becoming_stays : (o : Operation) → is_step o ≡ false → becoming (process_at s p) s.decision o ≡ None → s ≡ after W s o
  becoming_stays o not_step e = other_stays W s p o not_step (none_stored (changes_of s.decision o) _ e)

-- What it counts: its register operation is no flag write, so that any x will do for what it found.
pub other_counts : (s : Session) (c : Counts) (o : Operation) (x : ℕ) → is_step o ≡ false → counted (other_access o) x c ≡ counts_after s c o
unfolding counts_after access_of counted
other_counts s c (Propose m v) x not_step = refl
other_counts s c (Step m leader) x not_step = absurd (true≢false not_step)
other_counts s c (Learn m) x not_step = refl
other_counts s c (Crash m) x not_step = refl
