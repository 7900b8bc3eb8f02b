-- What soundness says of a process, phase by phase, as facts.
use Rattle.std.specs.Prelude.{◌≤◌, ◌<◌, ◌≡◌}
use Rattle.base.specs.Prelude.{ℕ, min, refl, sym, true, false, true≢false, cond, ltb, eqb, leb-true, ltb-true, eqb-true}
use Rattle.base.specs.Prelude.{le-leb, lt-ltb, eq-eqb}
use Rattle.model_laws.specs.Types.{Phase, Idle, Waiting, Write, Scan, Adopt, Compare, Flag, CheckMark, CheckValue, Commit, Exhausted}
use Rattle.model_laws.specs.Types.{Crashed, Decided, HasCommitted, HasAdopted, Process}
use Rattle.model.specs.declared.Status.{Status}
use Rattle.model.specs.declared.Status.TheVariants.{Outside, Active, Spent, Gone}
use Rattle.model.specs.Refusal.{status, is_outside, is_active, is_gone, is_decided}
use Rattle.model.specs.Sound.{sound_phase_as, sound_phase, sound_process_as, sound_process}
use Rattle.base.specs.Bools.{and_left, and_right, and_both}

abbrev pub PhaseSound : (W L r : ℕ) → Phase → Type 0
PhaseSound W L r Idle = r ≡ 0
PhaseSound W L r Waiting = Unit {0}
PhaseSound W L r Write = 1 ≤ r
PhaseSound W L r (Scan k) = (1 ≤ r) × (r < k) × (k ≤ L)
PhaseSound W L r (Adopt k) = (1 ≤ r) × (r ≤ k) × (k ≤ L)
PhaseSound W L r (Compare i) = (1 ≤ r) × (i < min r W)
PhaseSound W L r (Flag i) = (1 ≤ r) × (i < min r W)
PhaseSound W L r (CheckMark i) = (W ≤ r) × (i < W)
PhaseSound W L r (CheckValue i) = (W ≤ r) × (i < W)
PhaseSound W L r Commit = W ≤ r
PhaseSound W L r Exhausted = r ≡ L
PhaseSound W L r Crashed = Unit {0}
PhaseSound W L r Decided = Unit {0}
PhaseSound W L r HasCommitted = ⊥
PhaseSound W L r HasAdopted = ⊥

-- From a test to the fact that it tests, and the other way round.
ruleset facts = (and_left, and_right, leb-true, ltb-true, eqb-true)

ruleset tests = (and_both, le-leb, lt-ltb, eq-eqb)

-- The tests say so, and the other way round.
phase_iff : (W L r : ℕ) (φ : Phase) → (sound_phase W L r φ ≡ true → PhaseSound W L r φ) × (PhaseSound W L r φ → sound_phase W L r φ ≡ true)
unfolding sound_phase_as
phase_iff W L r Idle = (λ t. search facts, λ f. search tests)
phase_iff W L r Waiting = (λ t. tt, λ f. refl)
phase_iff W L r Write = (λ t. search facts, λ f. search tests)
phase_iff W L r (Scan k) = (λ t. search facts, λ f. search tests)
phase_iff W L r (Adopt k) = (λ t. search facts, λ f. search tests)
phase_iff W L r (Compare i) = (λ t. search facts, λ f. search tests)
phase_iff W L r (Flag i) = (λ t. search facts, λ f. search tests)
phase_iff W L r (CheckMark i) = (λ t. search facts, λ f. search tests)
phase_iff W L r (CheckValue i) = (λ t. search facts, λ f. search tests)
phase_iff W L r Commit = (λ t. search facts, λ f. search tests)
phase_iff W L r Exhausted = (λ t. search facts, λ f. search tests)
phase_iff W L r Crashed = (λ t. tt, λ f. refl)
phase_iff W L r Decided = (λ t. tt, λ f. refl)
phase_iff W L r HasCommitted = (λ t. absurd (true≢false (sym t)), λ f. absurd f)
phase_iff W L r HasAdopted = (λ t. absurd (true≢false (sym t)), λ f. absurd f)

-- A sound process: its estimate's clause, its round and its phase.
pub record ProcessSound (W L r e : ℕ) (φ : Phase) : Type 0 where
  pub estimate : cond (is_outside (status φ)) (eqb e 0) (ltb 0 e) ≡ true
  pub round : r ≤ L
  pub phase : PhaseSound W L r φ

pub process_facts : (W L : ℕ) (q : Process) → sound_process W L q ≡ true → ProcessSound W L q.round q.estimate q.phase
unfolding sound_process_as
process_facts W L q t = search (facts, (phase_iff W L q.round q.phase).0)

pub facts_process : (W L : ℕ) (q : Process) → ProcessSound W L q.round q.estimate q.phase → sound_process W L q ≡ true
unfolding sound_process_as
facts_process W L q f = search (tests, (phase_iff W L q.round q.phase).1)

-- A process that has proposed has an estimate above 0.
pub inside_some : {W L r e : ℕ} {φ : Phase} → ProcessSound W L r e φ → is_outside (status φ) ≡ false → 0 < e
inside_some {e = e} f inside = ltb-true 0 e (rw inside at f.estimate)

-- Only an idle process has not proposed; it is in round 0.
pub outside_start : (W L r : ℕ) (φ : Phase) → is_outside (status φ) ≡ true → PhaseSound W L r φ → r ≡ 0
outside_start W L r Idle o ok = ok
outside_start W L r Waiting o ok = absurd (true≢false (sym o))
outside_start W L r Write o ok = absurd (true≢false (sym o))
outside_start W L r (Scan k) o ok = absurd (true≢false (sym o))
outside_start W L r (Adopt k) o ok = absurd (true≢false (sym o))
outside_start W L r (Compare i) o ok = absurd (true≢false (sym o))
outside_start W L r (Flag i) o ok = absurd (true≢false (sym o))
outside_start W L r (CheckMark i) o ok = absurd (true≢false (sym o))
outside_start W L r (CheckValue i) o ok = absurd (true≢false (sym o))
outside_start W L r Commit o ok = absurd (true≢false (sym o))
outside_start W L r Exhausted o ok = absurd (true≢false (sym o))
outside_start W L r Crashed o ok = absurd (true≢false (sym o))
outside_start W L r Decided o ok = absurd (true≢false (sym o))
outside_start W L r HasCommitted o ok = absurd (true≢false (sym o))
outside_start W L r HasAdopted o ok = absurd (true≢false (sym o))

-- It is not gone.
pub outside_here : (σ : Status) → is_outside σ ≡ true → is_gone σ ≡ false
outside_here Outside o = refl
outside_here Active o = absurd (true≢false (sym o))
outside_here Spent o = absurd (true≢false (sym o))
outside_here Gone o = absurd (true≢false (sym o))

-- Only a working process is active,
pub active_is : (σ : Status) → is_active σ ≡ true → σ ≡ Active
active_is Outside t = absurd (true≢false (sym t))
active_is Active t = refl
active_is Spent t = absurd (true≢false (sym t))
active_is Gone t = absurd (true≢false (sym t))

-- and only Decided is decided.
pub decided_is : (φ : Phase) → is_decided φ ≡ true → φ ≡ Decided
decided_is Idle t = absurd (true≢false (sym t))
decided_is Waiting t = absurd (true≢false (sym t))
decided_is Write t = absurd (true≢false (sym t))
decided_is (Scan k) t = absurd (true≢false (sym t))
decided_is (Adopt k) t = absurd (true≢false (sym t))
decided_is (Compare i) t = absurd (true≢false (sym t))
decided_is (Flag i) t = absurd (true≢false (sym t))
decided_is (CheckMark i) t = absurd (true≢false (sym t))
decided_is (CheckValue i) t = absurd (true≢false (sym t))
decided_is Commit t = absurd (true≢false (sym t))
decided_is Exhausted t = absurd (true≢false (sym t))
decided_is Crashed t = absurd (true≢false (sym t))
decided_is Decided t = refl
decided_is HasCommitted t = absurd (true≢false (sym t))
decided_is HasAdopted t = absurd (true≢false (sym t))
