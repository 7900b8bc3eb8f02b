-- What the machine did so far, as a list of events, newest first. Document 01, "The agreement rule", has the words: proposed, written to
-- the register of round r, committed in round R, decided. A flag write is recorded too.
use Rattle.std.specs.Prelude.{ℕ, suc, zero, ◌-◌, List, [], ◌∷◌}
use Rattle.model.specs.declared.Phase.{Phase}
use Rattle.model.specs.declared.Phase.TheVariants.{Idle, Waiting, Write, Scan, Adopt, Compare, Flag, CheckMark}
use Rattle.model.specs.declared.Phase.TheVariants.{CheckValue, Commit, Exhausted, Crashed, Decided, HasCommitted, HasAdopted}
use Rattle.model.specs.declared.Process.{Process}
use Rattle.model.specs.declared.Operation.{Operation}
use Rattle.model.specs.declared.Operation.TheVariants.{Propose, Step, Learn, Crash}
use Rattle.model.specs.declared.Session.{Session}
use Rattle.model.specs.Board.{process_at}
use Rattle.model.specs.Machine.{Command, acts, closes, process_of}

pub data Event : Type 0 where
  proposal : (value : ℕ) → Event
  write : (process round value : ℕ) → Event
  flag : (round : ℕ) → Event
  commit : (round value : ℕ) → Event
  decision : (process value : ℕ) → Event

-- ---- what an accepted operation adds to the past

-- "Written to the register of round r: the own value, at an accepted work turn taken at put in round r." "Committed in round R: the own
-- value, at an accepted work turn taken at commit in round R." And the flag writes.
abbrev pub step_events : (p r v : ℕ) → Phase → List Event
step_events p r v Idle = []
step_events p r v Waiting = []
step_events p r v Write = write p r v ∷ []
step_events p r v (Scan k) = []
step_events p r v (Adopt k) = []
step_events p r v (Compare i) = []
step_events p r v (Flag i) = flag (r - i) ∷ []
step_events p r v (CheckMark i) = []
step_events p r v (CheckValue i) = []
step_events p r v Commit = commit r v ∷ []
step_events p r v Exhausted = []
step_events p r v Crashed = []
step_events p r v Decided = []
step_events p r v HasCommitted = []
step_events p r v HasAdopted = []

-- "Decided: a seat whose accepted look found D filled; it holds the number read."
abbrev pub look_events : (p : ℕ) → (found : ℕ) → List Event
look_events p zero = []
look_events p (suc v) = decision p (suc v) ∷ []

-- By the record q of the process and the number found in D. "Proposed: the number of an accepted proposal."
abbrev pub events_of : Process → (D : ℕ) → Operation → List Event
events_of q D (Propose p v) = proposal v ∷ []
events_of q D (Step p leader) = step_events p q.round q.estimate q.phase
events_of q D (Learn p) = look_events p D
events_of q D (Crash p) = []

-- Of a command: a close (02, wish 10) adds nothing.
abbrev pub command_events : Session → Command → List Event
command_events s (acts o) = events_of (process_at s (process_of o)) s.decision o
command_events s closes = []

-- ---- what stands in a past

-- h' is an older part of h, or h itself. (Of calls too: in Past (c ∷ before) cs the call c stands in cs, after the calls `before`.)
pub data Past {A : Type 0} (h' : List A) : List A → Type 0 where
  here : Past h' h'
  there : {e : A} {h : List A} → Past h' h → Past h' (e ∷ h)

-- The event x stands in h.
pub record Happened (x : Event) (h : List Event) : Type 0 where
  pub before : List Event
  pub past : Past (x ∷ before) h

abbrev pub Proposed : (v : ℕ) → List Event → Type 0
Proposed v h = Happened (proposal v) h

-- The numbers that were proposed, newest first.
abbrev pub proposals : List Event → List ℕ
proposals [] = []
proposals (proposal v ∷ h) = v ∷ proposals h
proposals (write p r v ∷ h) = proposals h
proposals (flag r ∷ h) = proposals h
proposals (commit r v ∷ h) = proposals h
proposals (decision p v ∷ h) = proposals h

-- Some process wrote v to the register of round r.
abbrev pub Written : (r v : ℕ) → List Event → Type 0
Written r v h = (p : ℕ) × Happened (write p r v) h

abbrev pub Committed : (r v : ℕ) → List Event → Type 0
Committed r v h = Happened (commit r v) h

-- Process p decided v.
abbrev pub DecidedOn : (p v : ℕ) → List Event → Type 0
DecidedOn p v h = Happened (decision p v) h
