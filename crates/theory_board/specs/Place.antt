-- What the phase, round and estimate of a process tell of the past.
use Rattle.std.specs.Prelude.{◌+◌, ◌≤◌, ◌<◌, ◌≡◌}
use Rattle.base.specs.Prelude.{ℕ, suc, false, List}
use Rattle.model_laws.specs.Types.{Phase, Idle, Waiting, Write, Scan, Adopt, Compare, Flag, CheckMark, CheckValue, Commit, Exhausted}
use Rattle.model_laws.specs.Types.{Crashed, Decided, HasCommitted, HasAdopted, Process, Access, Nothing, ReadValue, WriteValue, ReadMark}
use Rattle.model_laws.specs.Types.{SetMark, ReadDecision, WriteDecision}
use Rattle.model.specs.Refusal.{status, is_outside}
use Rattle.model_rule.specs.Event.{Event, commit, Happened, Proposed, Written, DecidedOn}
use Rattle.theory_board.specs.Epoch.{top, last, Wrote, Flagged, ComparedBy, PassedBy}
use Rattle.theory_board.specs.Lawful.{Unflagged, IsCommitted}

-- What the value x that an access found tells of the past.
abbrev pub Found : List Event → Access → (x : ℕ) → Type 0
Found h Nothing x = Unit {0}
Found h (ReadValue j) x = x ≡ last h j
Found h (WriteValue j) x = Unit {0}
Found h (ReadMark j) x = x ≡ 0 → (e : ℕ) → Flagged j e h → ⊥
Found h (SetMark j) x = Unit {0}
Found h ReadDecision x = (x ≡ 0 → ⊥) → IsCommitted x h
Found h WriteDecision x = Unit {0}

-- In round r, v stands or stood in register r; process p compared the last m rounds up to r with v while r was the highest round. A round
-- whose whole window was compared is over.
pub record Walked (m p r v : ℕ) (h : List Event) : Type 0 where
  pub written : Written r v h
  pub compared : top h ≡ r → (j : ℕ) → 1 ≤ j → j ≤ r → r < j + m → ComparedBy p r j v h

-- What each phase tells, for process p in round r with estimate v.
abbrev pub Placed : (W p r v : ℕ) → Phase → List Event → Type 0
Placed W p r v Idle h = Unit {0}
Placed W p r v Waiting h = 1 ≤ r → Walked W p r v h
Placed W p r v Write h =
    (r ≤ top h + 1)
    × ((r' v' e' : ℕ) → Wrote p r' v' e' h → e' < r)
    × ((i : ℕ) → r ≡ suc i → 1 ≤ i → PassedBy W p i v h)
Placed W p r v (Scan k) h = k ≤ top h + 1
Placed W p r v (Adopt k) h = k ≤ top h
Placed W p r v (Compare i) h = Walked i p r v h
Placed W p r v (Flag i) h = Walked i p r v h
Placed W p r v (CheckMark i) h = Walked W p r v h × Unflagged i r h
Placed W p r v (CheckValue i) h = Walked W p r v h × Unflagged (suc i) r h
Placed W p r v Commit h = Walked W p r v h × Unflagged W r h
Placed W p r v Exhausted h = Unit {0}
Placed W p r v Crashed h = Unit {0}
Placed W p r v Decided h = DecidedOn p v h
Placed W p r v HasCommitted h = Happened (commit r v) h
Placed W p r v HasAdopted h = Written r v h

-- What a process that has proposed tells by its phase, round and estimate: the estimate was proposed, too.
abbrev pub RecordPlaced : (W p : ℕ) → Process → List Event → Type 0
RecordPlaced W p q h = Proposed q.estimate h × Placed W p q.round q.estimate q.phase h

-- And one that has decided is at Decided and holds that value.
pub record Stands (W p : ℕ) (q : Process) (h : List Event) : Type 0 where
  pub placed : is_outside (status q.phase) ≡ false → RecordPlaced W p q h
  pub decided : (v : ℕ) → DecidedOn p v h → (q.phase ≡ Decided) × (q.estimate ≡ v)
