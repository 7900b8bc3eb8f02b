-- A step of a sound process leaves a sound process.
use Rattle.std.specs.Prelude.{◌+◌, ◌≤◌, ◌<◌, ◌≡◌}
use Rattle.base.specs.Prelude.{ℕ, min, arith, refl, Bool, true, false, leb, ltb, eqb, leb-true, ltb-true}
use Rattle.base.specs.Prelude.{ltb-false, eqb-false, lt-ltb}
use Rattle.model_laws.specs.Types.{Phase, Idle, Waiting, Write, Scan, Adopt, Compare, Flag, CheckMark, CheckValue, Commit, Exhausted}
use Rattle.model_laws.specs.Types.{Crashed, Decided, HasCommitted, HasAdopted, Process}
use Rattle.model.specs.Step.{go_on, phase_next, next, learnt, process}
use Rattle.model.specs.Refusal.{status, is_outside}
use Rattle.model.specs.Sound.{sound_process}
use Rattle.base.specs.Bools.{cond_cases}
use Rattle.model_laws.specs.Phases.{PhaseSound, process_facts, facts_process, inside_some}
use Rattle.model_laws.specs.WaitingRules.{waiting_cases}

ruleset known = (arith, leb-true, ltb-true, ltb-false, eqb-false)

module _ (W L : ℕ) where
  -- A process after its proposal: an estimate above 0, a round of at most L, and its phase's clause.
  pub placed_sound : (φ : Phase) (r e : ℕ) → is_outside (status φ) ≡ false → (0 < e) × (r ≤ L) × PhaseSound W L r φ →
      sound_process W L (process φ r e) ≡ true
  placed_sound φ r e o f = facts_process W L _ (record { estimate = rw o (lt-ltb 0 e f.0); round = f.1; phase = f.2 })

  -- A look of a sound process.
  pub learnt_sound : (q : Process) (x : ℕ) → sound_process W L q ≡ true → sound_process W L (learnt q x) ≡ true
  unfolding learnt
  learnt_sound q x t =
      cond_cases (λ p. sound_process W L p ≡ true) (eqb x 0)
      (λ b. t)
      (λ b. placed_sound Decided _ x refl (omega (known, (process_facts W L q t).round)))

  module _ (wide : 1 ≤ W) (r e : ℕ) (low : r ≤ L) where
    -- It stays in its round with its estimate, in a phase.
    abbrev Stays : Phase → Type 0
    Stays φ = sound_process W L (process φ r e) ≡ true

    -- "Go on" from a compare or a flag.
    go_on_sound : (i : ℕ) → 0 < e → 1 ≤ r → Stays (go_on W r i)
    unfolding go_on
    go_on_sound i some start =
        cond_cases Stays (ltb (i + 1) (min r W))
        (λ t. placed_sound (Compare (i + 1)) r e refl (omega known))
        (λ t.
        cond_cases Stays (leb W r)
        (λ u. placed_sound (CheckMark 0) r e refl (omega known))
        (λ u. placed_sound Waiting r e refl (omega known)))

    -- Every phase after the proposal.
    next_placed : (φ : Phase) (leader : Bool) (x : ℕ) → is_outside (status φ) ≡ false → 0 < e → PhaseSound W L r φ →
        sound_process W L (phase_next W L r e φ leader x) ≡ true
    unfolding phase_next
    next_placed Idle leader x o some f = let z : ◌≡◌ {A = ℕ} 0 1 = cc in absurd (omega arith)
    next_placed Waiting leader x o some f =
        waiting_cases (λ q. sound_process W L q ≡ true) L r leader
        (λ t. placed_sound _ r e refl (omega known))
        (placed_sound _ r e refl (omega known))
        (λ t.
        cond_cases (λ φ. sound_process W L (process φ (r + 1) e) ≡ true) (eqb x 0)
        (λ b. placed_sound _ (r + 1) e refl (omega known))
        (λ b.
        cond_cases (λ φ. sound_process W L (process φ (r + 1) e) ≡ true) (ltb (r + 1) L)
        (λ u. placed_sound _ (r + 1) e refl (omega known))
        (λ u. placed_sound _ (r + 1) e refl (omega known))))
    next_placed Write leader x o some f = placed_sound _ r e refl (omega known)
    next_placed (Scan k) leader x o some f =
        cond_cases Stays (eqb x 0)
        (λ b. placed_sound _ r e refl (omega known))
        (λ b.
        cond_cases Stays (ltb k L)
        (λ u. placed_sound _ r e refl (omega known))
        (λ u. placed_sound _ r e refl (omega known)))
    next_placed (Adopt k) leader x o some f =
        placed_sound _ k _ refl (cond_cases (λ v. 0 < v) (eqb x 0) (λ b. some) (λ b. omega known), f.2, omega known)
    next_placed (Compare i) leader x o some f =
        cond_cases Stays (eqb x e) (λ b. go_on_sound i some f.0) (λ b. placed_sound _ r e refl (omega known))
    next_placed (Flag i) leader x o some f = go_on_sound i some f.0
    next_placed (CheckMark i) leader x o some f =
        cond_cases Stays (eqb x 0)
        (λ b. placed_sound _ r e refl (omega known))
        (λ b. placed_sound _ r e refl (omega known))
    next_placed (CheckValue i) leader x o some f =
        cond_cases Stays (eqb x e)
        (λ b.
        cond_cases Stays (ltb (i + 1) W)
        (λ u. placed_sound _ r e refl (omega known))
        (λ u. placed_sound _ r e refl (omega known)))
        (λ b. placed_sound _ r e refl (omega known))
    next_placed Commit leader x o some f = placed_sound _ r e refl (omega known)
    next_placed Exhausted leader x o some f = placed_sound _ r e refl (omega known)
    next_placed Crashed leader x o some f = placed_sound _ r e refl (omega known)
    next_placed Decided leader x o some f = placed_sound _ r e refl (omega known)
    next_placed HasCommitted leader x o some f = absurd f
    next_placed HasAdopted leader x o some f = absurd f

  -- A work turn of a sound process that has proposed.
  pub next_sound : 1 ≤ W → (q : Process) (leader : Bool) (x : ℕ) → is_outside (status q.phase) ≡ false →
      sound_process W L q ≡ true → sound_process W L (next W L q leader x) ≡ true
  unfolding next
  next_sound wide q leader x o t =
      let f = process_facts W L q t in
      next_placed wide q.round q.estimate f.round q.phase leader x o (inside_some f o) f.phase
