-- The highest written round, the registers, and what happened in which epoch of a past: the epoch of an event is the highest written
-- round just after it.
use Rattle.std.specs.Prelude.{◌+◌, ◌≤◌, ◌<◌, ◌≡◌, ◌∷◌, ◌⊎◌}
use Rattle.base.specs.Prelude.{ℕ, max, cond, List, [], eqb}
use Rattle.model_rule.specs.Event.{Event, proposal, write, flag, commit, decision, Past}

-- The highest round that was written to; 0 for none.
abbrev pub top : List Event → ℕ
top [] = 0
top (proposal v ∷ h) = top h
top (write p r v ∷ h) = max r (top h)
top (flag j ∷ h) = top h
top (commit r v ∷ h) = top h
top (decision p v ∷ h) = top h

-- What register j holds: the value of the newest write to it; 0 for none.
abbrev pub last : List Event → ℕ → ℕ
last [] j = 0
last (proposal v ∷ h) j = last h j
last (write p r v ∷ h) j = cond (eqb r j) v (last h j)
last (flag i ∷ h) j = last h j
last (commit r v ∷ h) j = last h j
last (decision p v ∷ h) j = last h j

-- The event x happened in epoch e.
pub record HappenedIn (e : ℕ) (x : Event) (h : List Event) : Type 0 where
  pub before : List Event
  pub past : Past (x ∷ before) h
  pub epoch : top (x ∷ before) ≡ e

-- Process p wrote v to register r in epoch e.
abbrev pub Wrote : (p r v e : ℕ) → List Event → Type 0
Wrote p r v e h = HappenedIn e (write p r v) h

-- Some process did.
abbrev pub WrittenIn : (r v e : ℕ) → List Event → Type 0
WrittenIn r v e h = (p : ℕ) × Wrote p r v e h

-- Round j was flagged in epoch e.
abbrev pub Flagged : (j e : ℕ) → List Event → Type 0
Flagged j e h = HappenedIn e (flag j) h

-- At some moment of epoch i register j held v.
pub record Held (i j v : ℕ) (h : List Event) : Type 0 where
  pub moment : List Event
  pub past : Past moment h
  pub epoch : top moment ≡ i
  pub holds : last moment j ≡ v

-- Round j was flagged in an epoch up to i.
abbrev pub Contested : (i j : ℕ) → List Event → Type 0
Contested i j h = (e : ℕ) × (e ≤ i) × Flagged j e h

-- Round j was compared with v in epoch i: it held v, or it was flagged.
abbrev pub Compared : (i j v : ℕ) → List Event → Type 0
Compared i j v h = Contested i j h ⊎ Held i j v h

-- At some moment of epoch i register j held v, and what process p wrote until now it had written by that moment.
pub record HeldBy (p i j v : ℕ) (h : List Event) : Type 0 where
  pub moment : List Event
  pub past : Past moment h
  pub epoch : top moment ≡ i
  pub holds : last moment j ≡ v
  pub own : (r w : ℕ) (b : List Event) → Past (write p r w ∷ b) h → Past (write p r w ∷ b) moment

-- Process p compared round j with v in epoch i, after its own writes: it held v, or it was flagged.
abbrev pub ComparedBy : (p i j v : ℕ) → List Event → Type 0
ComparedBy p i j v h = Contested i j h ⊎ HeldBy p i j v h

-- Round i was walked with the estimate v while no round above it was written: v was written to register i in epoch i, and
-- each of the W rounds up to i was compared with v in epoch i.
pub record Passed (W i v : ℕ) (h : List Event) : Type 0 where
  pub written : WrittenIn i v i h
  pub compared : (j : ℕ) → 1 ≤ j → j ≤ i → i < j + W → Compared i j v h

-- The same of process p, which walked round i after its own writes.
pub record PassedBy (W p i v : ℕ) (h : List Event) : Type 0 where
  pub written : WrittenIn i v i h
  pub compared : (j : ℕ) → 1 ≤ j → j ≤ i → i < j + W → ComparedBy p i j v h
