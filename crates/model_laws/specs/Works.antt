-- What a turn makes of a process that works, whatever it finds: it works on, or at the round limit it is spent.
use Rattle.std.specs.Prelude.{◌+◌, ◌≤◌, ◌≡◌}
use Rattle.base.specs.Prelude.{ℕ, min, refl, Bool, leb, ltb, eqb, arith}
use Rattle.base.specs.Bools.{cond_cases}
use Rattle.model_laws.specs.Types.{Phase, Idle, Waiting, Write, Scan, Adopt, Compare, Flag, CheckMark, CheckValue, Commit, Exhausted}
use Rattle.model_laws.specs.Types.{Crashed, Decided, HasCommitted, HasAdopted, Process}
use Rattle.model.specs.declared.Status.TheVariants.{Active}
use Rattle.model.specs.Refusal.{status}
use Rattle.model.specs.Step.{go_on, phase_next, next}
use Rattle.model_laws.specs.WaitingRules.{waiting_cases}

-- P holds of every phase of a process that works (and of a spent one, where it waits in the last round).
module _ (P : Phase → Type 0) (works : (φ : Phase) → status φ ≡ Active → P φ) (W L r e : ℕ) where
  go_on_works : (i : ℕ) → P (go_on W r i)
  unfolding go_on
  go_on_works i =
      cond_cases P (ltb (i + 1) (min r W)) (λ t. works _ refl) (λ t. cond_cases P (leb W r) (λ u. works _ refl) (λ u. works _ refl))

  phase_works : (φ : Phase) (leader : Bool) (x : ℕ) → (φ ≡ Waiting → L ≤ r → P Exhausted) → status φ ≡ Active →
      P (phase_next W L r e φ leader x).phase
  unfolding phase_next
  phase_works Idle leader x spent a = let z : ◌≡◌ {A = ℕ} 0 1 = cc in absurd (omega arith)
  phase_works Waiting leader x spent a =
      waiting_cases (λ (q : Process). P q.phase) L r leader (spent refl) (works _ refl)
      (λ t. cond_cases P (eqb x 0) (λ u. works _ refl) (λ u. cond_cases P (ltb (r + 1) L) (λ y. works _ refl) (λ y. works _ refl)))
  phase_works Write leader x spent a = works _ refl
  phase_works (Scan k) leader x spent a =
      cond_cases P (eqb x 0) (λ u. works _ refl) (λ u. cond_cases P (ltb k L) (λ y. works _ refl) (λ y. works _ refl))
  phase_works (Adopt k) leader x spent a = works _ refl
  phase_works (Compare i) leader x spent a = cond_cases P (eqb x e) (λ u. go_on_works i) (λ u. works _ refl)
  phase_works (Flag i) leader x spent a = go_on_works i
  phase_works (CheckMark i) leader x spent a = cond_cases P (eqb x 0) (λ u. works _ refl) (λ u. works _ refl)
  phase_works (CheckValue i) leader x spent a =
      cond_cases P (eqb x e) (λ u. cond_cases P (ltb (i + 1) W) (λ y. works _ refl) (λ y. works _ refl)) (λ u. works _ refl)
  phase_works Commit leader x spent a = works _ refl
  phase_works Exhausted leader x spent a = let z : ◌≡◌ {A = ℕ} 0 1 = cc in absurd (omega arith)
  phase_works Crashed leader x spent a = let z : ◌≡◌ {A = ℕ} 0 1 = cc in absurd (omega arith)
  phase_works Decided leader x spent a = let z : ◌≡◌ {A = ℕ} 0 1 = cc in absurd (omega arith)
  phase_works HasCommitted leader x spent a = let z : ◌≡◌ {A = ℕ} 0 1 = cc in absurd (omega arith)
  phase_works HasAdopted leader x spent a = let z : ◌≡◌ {A = ℕ} 0 1 = cc in absurd (omega arith)

pub next_works : (P : Phase → Type 0) (W L : ℕ) (q : Process) (leader : Bool) (x : ℕ) → ((φ : Phase) → status φ ≡ Active → P φ) →
    (q.phase ≡ Waiting → L ≤ q.round → P Exhausted) → status q.phase ≡ Active → P (next W L q leader x).phase
unfolding next
next_works P W L q leader x works spent a = phase_works P works W L q.round q.estimate q.phase leader x spent a
