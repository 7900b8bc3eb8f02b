-- One pass: how many turns a process of a poll can have taken, by where it stands. From the definition of a turn alone: whatever the others
-- do.
use Rattle.std.specs.Prelude.{◌+◌, ◌*◌, ◌-◌, ◌≤◌, ◌<◌, ◌≡◌}
use Rattle.base.specs.Prelude.{ℕ, suc, zero, min, arith, refl, sym, true, false, true≢false, leb, ltb}
use Rattle.base.specs.Prelude.{eqb, leb-true, leb-false, ltb-true, ltb-false}
use Rattle.base.specs.Bools.{cond_cases}
use Rattle.base.specs.Squares.{square_le}
use Rattle.model_laws.specs.Types.{Phase, Idle, Waiting, Write, Scan, Adopt, Compare, Flag, CheckMark, CheckValue, Commit, Exhausted}
use Rattle.model_laws.specs.Types.{Crashed, Decided, HasCommitted, HasAdopted, Process}
use Rattle.model.specs.declared.Status.TheVariants.{Active}
use Rattle.model.specs.Step.{waiting_rule, go_on, phase_next, next}
use Rattle.model.specs.Refusal.{status, is_outside, is_gone}
use Rattle.model_laws.specs.Phases.{PhaseSound, process_facts}
use Rattle.model.specs.Sound.{sound_phase_as, sound_process_as}
use Rattle.model_poll_laws.specs.Sounds.{as_session, phase_rule}
use Rattle.model_poll.specs.Turn.{ending, poll_next, pass_turns}

-- t turns at most were taken by a process that stands in this phase of round r, at window W.
abbrev pub Taken : (W : ℕ) → (r t : ℕ) → Phase → Type 0
Taken W r t Idle = t ≡ 0
Taken W r t Waiting = t ≤ r * r + 4 * r
Taken W r t Write = t + 1 ≤ r * r + 2 * r
Taken W r t (Scan k) = t + 3 ≤ k * k
Taken W r t (Adopt k) = t + 1 ≤ k * k + 2 * k
Taken W r t (Compare i) = t ≤ r * r + 2 * r + 2 * i
Taken W r t (Flag i) = t ≤ r * r + 2 * r + 2 * i + 1
Taken W r t (CheckMark i) = t ≤ W * W + 4 * W + 2 * i
Taken W r t (CheckValue i) = t ≤ W * W + 4 * W + 2 * i + 1
Taken W r t Commit = t ≤ W * W + 6 * W
Taken W r t Exhausted = t ≤ pass_turns W
Taken W r t Crashed = t ≤ pass_turns W
Taken W r t Decided = t ≤ pass_turns W
Taken W r t HasCommitted = t ≤ pass_turns W
Taken W r t HasAdopted = t ≤ pass_turns W

-- The register of round k is blank, and the one below it is taken.
scan_back : (k t : ℕ) → 1 ≤ k → t + 3 ≤ k * k → suc t + 1 ≤ (k - 1) * (k - 1) + 2 * (k - 1)
scan_back zero t some few = absurd (omega arith)
scan_back (suc m) t some few = let e : suc m - 1 ≡ m = omega arith in rw e (omega arith)

module _ (W : ℕ) where
  -- After distance i was compared, and flagged or not.
  taken_go_on : (r t i : ℕ) → r ≤ W → i < min r W → t ≤ r * r + 2 * r + 2 * i + 2 → Taken W r t (go_on W r i)
  unfolding go_on
  taken_go_on r t i low at few =
      cond_cases (Taken W r t) (ltb (i + 1) (min r W))
      (λ b. omega arith)
      (λ b.
      let last = ltb-false (i + 1) (min r W) b in
      cond_cases (Taken W r t) (leb W r)
      (λ c. let same : r ≡ W = omega (arith, leb-true W r c) in omega (arith, rw same at few))
      (λ c. omega (arith, leb-false W r c)))

  -- One turn more, from each phase that a turn is taken in.
  pub taken_next : (r e t : ℕ) (φ : Phase) (x : ℕ) → is_outside (status φ) ≡ false → is_gone (status φ) ≡ false → r ≤ W → PhaseSound W W r φ →
      (φ ≡ Waiting → r < W) → (φ ≡ Exhausted → ⊥) → Taken W r t φ →
      let q = phase_next W W r e φ true x in Taken W q.round (suc t) (ending φ q.phase)
  unfolding phase_next ending waiting_rule
  taken_next r e t Idle x o g low s w z k = absurd (true≢false o)
  taken_next r e t Waiting x o g low s w z k =
      let below = w refl in
      cond_cases (λ (q : Process). Taken W q.round (suc t) q.phase) (ltb r W)
      (λ more.
      cond_cases (λ φ. Taken W (r + 1) (suc t) φ) (eqb x 0)
      (λ b. omega arith)
      (λ b. cond_cases (λ φ. Taken W (r + 1) (suc t) φ) (ltb (r + 1) W) (λ c. omega arith)
      (λ c. let same : W ≡ r + 1 = omega (arith, ltb-false (r + 1) W c) in rw same (omega arith))))
      (λ high. absurd (omega (arith, ltb-false r W high)))
  taken_next r e t Write x o g low s w z k = omega arith
  taken_next r e t (Scan k) x o g low s w z h =
      cond_cases (λ φ. Taken W r (suc t) φ) (eqb x 0)
      (λ b. scan_back k t (omega arith) h)
      (λ b. cond_cases (λ φ. Taken W r (suc t) φ) (ltb k W) (λ c. omega arith)
      (λ c. let same : W ≡ k = omega (arith, ltb-false k W c) in rw same (omega arith)))
  taken_next r e t (Adopt k) x o g low s w z h = omega arith
  taken_next r e t (Compare i) x o g low s w z h =
      cond_cases (λ φ. Taken W r (suc t) φ) (eqb x e) (λ b. taken_go_on r (suc t) i low s.1 (omega arith)) (λ b. omega arith)
  taken_next r e t (Flag i) x o g low s w z h = taken_go_on r (suc t) i low s.1 (omega arith)
  taken_next r e t (CheckMark i) x o g low s w z h =
      cond_cases (λ φ. Taken W r (suc t) (ending (CheckMark i) φ)) (eqb x 0) (λ b. omega arith) (λ b. omega arith)
  taken_next r e t (CheckValue i) x o g low s w z h =
      cond_cases (λ φ. Taken W r (suc t) (ending (CheckValue i) φ)) (eqb x e)
      (λ b. cond_cases (λ φ. Taken W r (suc t) (ending (CheckValue i) φ)) (ltb (i + 1) W) (λ c. omega arith)
      (λ c. omega (arith, ltb-false (i + 1) W c)))
      (λ b. omega arith)
  taken_next r e t Commit x o g low s w z h = omega arith
  taken_next r e t Exhausted x o g low s w z h = absurd (z refl)
  taken_next r e t Crashed x o g low s w z h = absurd (true≢false g)
  taken_next r e t Decided x o g low s w z h = absurd (true≢false g)
  taken_next r e t HasCommitted x o g low s w z h = absurd (true≢false g)
  taken_next r e t HasAdopted x o g low s w z h = absurd (true≢false g)

  -- Fewer turns than a pass has, of a process that works.
  works : {t : ℕ} → t < pass_turns W → (t ≤ pass_turns W) × (Active ≡ Active → t < pass_turns W) × (false ≡ true → t ≡ 0)
  works few = (omega arith, λ a. few, λ o. absurd (true≢false (sym o)))

  -- By where it stands: no more turns than a pass has; fewer, where it works; and none, where it has not proposed.
  pub taken_low : (r t : ℕ) (φ : Phase) → r ≤ W → (is_gone (status φ) ≡ false → PhaseSound W W r φ) → Taken W r t φ →
      (t ≤ pass_turns W) × (status φ ≡ Active → t < pass_turns W) × (is_outside (status φ) ≡ true → t ≡ 0)
  taken_low r t Idle low s h = (omega arith, λ a. omega arith, λ o. h)
  taken_low r t Waiting low s h = let q = square_le r W low in let f = s refl in works (omega arith)
  taken_low r t Write low s h = let q = square_le r W low in let f = s refl in works (omega arith)
  taken_low r t (Scan k) low s h = let q = square_le k W (s refl).2 in let f = s refl in works (omega arith)
  taken_low r t (Adopt k) low s h = let q = square_le k W (s refl).2 in let f = s refl in works (omega arith)
  taken_low r t (Compare i) low s h = let q = square_le r W low in let f = s refl in works (omega arith)
  taken_low r t (Flag i) low s h = let q = square_le r W low in let f = s refl in works (omega arith)
  taken_low r t (CheckMark i) low s h = let q = square_le r W low in let f = s refl in works (omega arith)
  taken_low r t (CheckValue i) low s h = let q = square_le r W low in let f = s refl in works (omega arith)
  taken_low r t Commit low s h = let q = square_le r W low in let f = s refl in works (omega arith)
  taken_low r t Exhausted low s h = (h, λ a. let z : ◌≡◌ {A = ℕ} 0 1 = cc in absurd (omega arith), λ o. absurd (true≢false (sym o)))
  taken_low r t Crashed low s h = (h, λ a. let z : ◌≡◌ {A = ℕ} 0 1 = cc in absurd (omega arith), λ o. absurd (true≢false (sym o)))
  taken_low r t Decided low s h = (h, λ a. let z : ◌≡◌ {A = ℕ} 0 1 = cc in absurd (omega arith), λ o. absurd (true≢false (sym o)))
  taken_low r t HasCommitted low s h = (h, λ a. let z : ◌≡◌ {A = ℕ} 0 1 = cc in absurd (omega arith), λ o. absurd (true≢false (sym o)))
  taken_low r t HasAdopted low s h = (h, λ a. let z : ◌≡◌ {A = ℕ} 0 1 = cc in absurd (omega arith), λ o. absurd (true≢false (sym o)))

  -- A turn of a sound process that works.
  pub taken_turn : (q : Process) (x t : ℕ) → is_outside (status q.phase) ≡ false → is_gone (status q.phase) ≡ false →
      sound_process_as true W W q ≡ true → Taken W q.round t q.phase → let r = poll_next W W q x in Taken W r.round (suc t) r.phase
  unfolding poll_next next sound_phase_as
  taken_turn q x t o g sound k =
      let f = process_facts W W q (as_session W W q g sound) in
      let rule = phase_rule W W q sound in
      taken_next q.round q.estimate t q.phase x o g f.round f.phase
      (λ e. ltb-true q.round W (rw e at rule))
      (λ e. true≢false (sym (rw e at rule)))
      k
