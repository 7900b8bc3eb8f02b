-- The registers one by one: what an access reads and leaves in each, and the turn made of them.
use Rattle.std.specs.Prelude.{◌+◌, ◌-◌, ◌%◌, ◌≤◌, ◌≡◌}
use Rattle.base.specs.Prelude.{ℕ, arith, refl, sym, ap, Bool, true, false, List, get_or, set}
use Rattle.model_laws.specs.Types.{Phase, Idle, Waiting, Write, Scan, Adopt, Compare, Flag, CheckMark, CheckValue, Commit, Exhausted}
use Rattle.model_laws.specs.Types.{Crashed, Decided, HasCommitted, HasAdopted, Access, Nothing, ReadValue, WriteValue, ReadMark}
use Rattle.model_laws.specs.Types.{SetMark, ReadDecision, WriteDecision, Process, Session, Counts, Step}
use Rattle.model.specs.Board.{process_at, with, max_rounds}
use Rattle.model.specs.Step.{phase_access, access, next, bit, found, stored, turn, counted}
use Rattle.model.specs.Machine.{access_of, becomes, after, counts_after}
use Rattle.model_laws.specs.Ranges.{InRange}
use Rattle.model_laws.specs.WaitingRules.{waiting_cases}

-- The index of the register of round r, r - 1 for the rounds 1 to 256; for any other number, which no turn of a sound process has, some
-- index.
abbrev pub slot : ℕ → ℕ
slot r = (r % 256 + 255) % 256

-- The value read from T; 0 where none is.
abbrev pub value_in : List ℕ → Access → ℕ
value_in values Nothing = 0
value_in values (ReadValue r) = get_or values (slot r) 0
value_in values (WriteValue r) = 0
value_in values (ReadMark r) = 0
value_in values (SetMark r) = 0
value_in values ReadDecision = 0
value_in values WriteDecision = 0

-- The mark found in C, read or set; v where there is none.
abbrev pub mark_in : (v : ℕ) → List Bool → Access → ℕ
mark_in v marks Nothing = v
mark_in v marks (ReadValue r) = v
mark_in v marks (WriteValue r) = v
mark_in v marks (ReadMark r) = bit (get_or marks (slot r) false)
mark_in v marks (SetMark r) = bit (get_or marks (slot r) false)
mark_in v marks ReadDecision = v
mark_in v marks WriteDecision = v

-- The value registers after an access that may write e.
abbrev pub values_after : List ℕ → Access → (e : ℕ) → List ℕ
values_after values Nothing e = values
values_after values (ReadValue r) e = values
values_after values (WriteValue r) e = set values (slot r) e
values_after values (ReadMark r) e = values
values_after values (SetMark r) e = values
values_after values ReadDecision e = values
values_after values WriteDecision e = values

-- The marks after it.
abbrev pub marks_after : List Bool → Access → List Bool
marks_after marks Nothing = marks
marks_after marks (ReadValue r) = marks
marks_after marks (WriteValue r) = marks
marks_after marks (ReadMark r) = marks
marks_after marks (SetMark r) = set marks (slot r) true
marks_after marks ReadDecision = marks
marks_after marks WriteDecision = marks

-- The decision register after it.
abbrev pub decision_after : ℕ → Access → (e : ℕ) → ℕ
decision_after decision Nothing e = decision
decision_after decision (ReadValue r) e = decision
decision_after decision (WriteValue r) e = decision
decision_after decision (ReadMark r) e = decision
decision_after decision (SetMark r) e = decision
decision_after decision ReadDecision e = decision
decision_after decision WriteDecision e = e

-- A register of the rounds 1 to 256 stands at its round less 1.
slot_is : (r : ℕ) → 1 ≤ r → r ≤ max_rounds → slot r ≡ r - 1
slot_is r some low = omega arith

-- The access is no look.
abbrev pub NoLook : Access → Type 0
NoLook Nothing = Unit {0}
NoLook (ReadValue r) = Unit {0}
NoLook (WriteValue r) = Unit {0}
NoLook (ReadMark r) = Unit {0}
NoLook (SetMark r) = Unit {0}
NoLook ReadDecision = ⊥
NoLook WriteDecision = Unit {0}

-- What an access other than a look finds in the registers, where it is one of them.
pub read_is : (s : Session) (a : Access) → NoLook a → InRange max_rounds a → mark_in (value_in s.values a) s.marks a ≡ found s a
unfolding found
read_is s Nothing look ok = refl
read_is s (ReadValue r) look ok = rw (slot_is r ok.0 ok.1)
read_is s (WriteValue r) look ok = refl
read_is s (ReadMark r) look ok = rw (slot_is r ok.0 ok.1)
read_is s (SetMark r) look ok = rw (slot_is r ok.0 ok.1)
read_is s ReadDecision look ok = absurd look
read_is s WriteDecision look ok = refl

-- A turn, register by register, where its access is one of the registers.
pub turn_is : (s : Session) (p : ℕ) (a : Access) (becomes : ℕ → Process) → InRange max_rounds a →
    turn s p a becomes
    ≡ with s (values_after s.values a (process_at s p).estimate) (marks_after s.marks a)
    (decision_after s.decision a (process_at s p).estimate) (set s.processes p (becomes (found s a)))
unfolding turn stored
turn_is s p Nothing becomes ok = refl
turn_is s p (ReadValue r) becomes ok = refl
turn_is s p (WriteValue r) becomes ok = rw (slot_is r ok.0 ok.1)
turn_is s p (ReadMark r) becomes ok = refl
turn_is s p (SetMark r) becomes ok = rw (slot_is r ok.0 ok.1)
turn_is s p ReadDecision becomes ok = refl
turn_is s p WriteDecision becomes ok = refl

-- A work turn makes no look.
pub step_no_look : (L r : ℕ) (φ : Phase) (leader : Bool) → NoLook (phase_access L r φ leader)
unfolding phase_access
step_no_look L r Idle leader = tt
step_no_look L r Waiting leader = waiting_cases NoLook L r leader (λ e. tt) tt (λ b. tt)
step_no_look L r Write leader = tt
step_no_look L r (Scan k) leader = tt
step_no_look L r (Adopt k) leader = tt
step_no_look L r (Compare i) leader = tt
step_no_look L r (Flag i) leader = tt
step_no_look L r (CheckMark i) leader = tt
step_no_look L r (CheckValue i) leader = tt
step_no_look L r Commit leader = tt
step_no_look L r Exhausted leader = tt
step_no_look L r Crashed leader = tt
step_no_look L r Decided leader = tt
step_no_look L r HasCommitted leader = tt
step_no_look L r HasAdopted leader = tt

-- ---- a turn of process p, whose access in the machine is b; i is the index of the process in the code, and a the code's access

module _ (s : Session) (p : ℕ) {i v x : ℕ} {a : Access} (b : Process → Access) (look : NoLook (b (process_at s p)))
    (ok : InRange max_rounds (b (process_at s p))) (ei : i ≡ p) (ea : a ≡ b (process_at s i)) (er : v ≡ value_in s.values a)
    (ex : x ≡ mark_in v s.marks a) where
  -- What the code counts, by what it found, is what the machine counts.
  pub turn_counts_law : (c : Counts) → counted a x c ≡ counted (b (process_at s p)) (found s (b (process_at s p))) c
  turn_counts_law c = rw (ex, er, ea, ei) (ap (λ x. counted (b (process_at s p)) x c) (read_is s (b (process_at s p)) look ok))

  -- What the code leaves in each register, and the record that it makes by the value read, are what the machine leaves.
  pub turn_leaves : {y : ℕ} {values : List ℕ} {marks : List Bool} {q : Process} (becomes : Process → ℕ → Process) →
      values ≡ values_after s.values a (process_at s i).estimate →
      marks ≡ marks_after s.marks a →
      y ≡ decision_after s.decision a (process_at s i).estimate →
      q ≡ becomes (process_at s i) x →
      with s values marks y (set s.processes i q) ≡ turn s p (b (process_at s p)) (becomes (process_at s p))
  turn_leaves becomes ev em ey eq =
      let r = process_at s p in
      rw (eq, ev, em, ey, ex, er, ea, ei, read_is s (b r) look ok) (sym (turn_is s p (b r) (becomes r) ok))

-- ---- a work turn of a session

-- What the code counts, and what it leaves, are what the machine counts and leaves after a work turn of a sound session.
module _ (s : Session) (p : ℕ) (leader : Bool) {i v x : ℕ} {a : Access}
    (ok : InRange max_rounds (access_of s.limit (process_at s p) (Step p leader)))
    (ei : i ≡ p) (ea : a ≡ access s.limit (process_at s i) leader) (er : v ≡ value_in s.values a) (ex : x ≡ mark_in v s.marks a) where
  abbrev accessed : Process → Access
  accessed q = access s.limit q leader

  no_look : NoLook (accessed (process_at s p))
  unfolding access
  no_look = let q = process_at s p in step_no_look s.limit q.round q.phase leader

  pub counted_is : (c : Counts) → counted a x c ≡ counts_after s c (Step p leader)
  unfolding counts_after access_of
  counted_is c = turn_counts_law s p accessed no_look ok ei ea er ex c

  pub worked_is : (W : ℕ) {y : ℕ} {values : List ℕ} {marks : List Bool} {q : Process} →
      values ≡ values_after s.values a (process_at s i).estimate →
      marks ≡ marks_after s.marks a →
      y ≡ decision_after s.decision a (process_at s i).estimate →
      q ≡ next W s.limit (process_at s i) leader x →
      with s values marks y (set s.processes i q) ≡ after W s (Step p leader)
  unfolding after access_of becomes
  worked_is W ev em ey eq = turn_leaves s p accessed no_look ok ei ea er ex (λ q. next W s.limit q leader) ev em ey eq
