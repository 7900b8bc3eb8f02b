-- A step of a process: what it adds to the past is lawful, and the process stands where its new phase tells.
use Rattle.std.specs.Prelude.{◌-◌, ◌<◌, ◌≡◌, ◌∷◌, ◌++◌}
use Rattle.base.specs.Prelude.{ℕ, Bool, false, List, [], arith}
use Rattle.model_laws.specs.Types.{Phase, Idle, Waiting, Write, Scan, Adopt, Compare, Flag, CheckMark, CheckValue, Commit, Exhausted}
use Rattle.model_laws.specs.Types.{Crashed, Decided, HasCommitted, HasAdopted, Process}
use Rattle.model.specs.Step.{phase_access, access, phase_next, next, process}
use Rattle.model.specs.Refusal.{status, is_outside}
use Rattle.model_laws.specs.Phases.{PhaseSound}
use Rattle.model_laws.specs.WaitingRules.{waiting_both}
use Rattle.model_rule.specs.Event.{Event, proposal, write, flag, commit, decision, step_events, Happened, Proposed}
use Rattle.model_rule.specs.Event.Past.{here, there}
use Rattle.theory_board.specs.Past.{happened_past, happened_older}
use Rattle.theory_board.specs.Registers.{wrote_round}
use Rattle.theory_board.specs.Lawful.{Lawful, also}
use Rattle.theory_board.specs.Place.{Found, Placed, RecordPlaced, Stands}
use Rattle.theory_board.specs.Stays.{walked_event, SpareAll}
use Rattle.theory_board.specs.Climb.{leads_placed, scan_placed, walked_none, adopt_placed}
use Rattle.theory_board.specs.Rounds.{compare_placed, flag_placed}
use Rattle.theory_board.specs.Checks.{check_mark_placed, check_value_placed}

-- A process in round r with estimate v that finds x by its access is, after its step, where its new phase tells.
pub step_placed : {W n : ℕ} (L p r v : ℕ) (φ : Phase) (leader : Bool) (x : ℕ) {h : List Event} →
    PhaseSound W L r φ → Lawful W n h → Proposed v h → Placed W p r v φ h → Found h (phase_access L r φ leader) x →
    RecordPlaced W p (phase_next W L r v φ leader x) (step_events p r v φ ++ h)
unfolding phase_access phase_next
step_placed L p r v Idle leader x s l b a f = (b, tt)
step_placed {W} L p r v Waiting leader x {h} s l b a f =
    waiting_both (λ c q. Found h c x → RecordPlaced W p q h) L r leader
    (λ e g. (b, tt))
    (λ g. (b, a))
    (λ e g. (b, leads_placed L p r v x l a g))
    f
step_placed L p r v Write leader x {h} s l b a f = (happened_past (there here) b, walked_none (p, record { before = h; past = here }))
step_placed {W} L p r v (Scan k) leader x {h} s l b a f = (b, scan_placed W L p r v k x h a f)
step_placed L p r v (Adopt k) leader x s l b a f = adopt_placed p r v k x (omega arith) l a f
step_placed {W} L p r v (Compare i) leader x {h} s l b a f = (b, compare_placed W p r v i x h a f)
step_placed {W} L p r v (Flag i) leader x {h} s l b a f = (happened_past (there here) b, flag_placed W p r v i h a)
step_placed {W} L p r v (CheckMark i) leader x {h} s l b a f = (b, check_mark_placed W p r v i x h a f)
step_placed {W} L p r v (CheckValue i) leader x {h} s l b a f = (b, check_value_placed W p r v i x h a)
step_placed L p r v Commit leader x s l b a f = (
  happened_past (there here) b,
  λ c. walked_event (λ r' w e. let z : ◌≡◌ {A = ℕ} 0 1 = cc in omega arith) a.0,
)
step_placed L p r v Exhausted leader x s l b a f = (b, tt)
step_placed L p r v Crashed leader x s l b a f = (b, tt)
step_placed L p r v Decided leader x s l b a f = (b, a)
step_placed L p r v HasCommitted leader x s l b a f = (b, a)
step_placed L p r v HasAdopted leader x s l b a f = (b, a)

-- What holds of no event, and of the event of each phase that has one, holds of the events of a step.
pub step_cases : (P : Phase → List Event → Type 0) (p r v : ℕ) → ((φ : Phase) → P φ []) → P Write (write p r v ∷ []) →
    ((i : ℕ) → P (Flag i) (flag (r - i) ∷ [])) → P Commit (commit r v ∷ []) → (φ : Phase) → P φ (step_events p r v φ)
step_cases P p r v none w f c Idle = none Idle
step_cases P p r v none w f c Waiting = none Waiting
step_cases P p r v none w f c Write = w
step_cases P p r v none w f c (Scan k) = none (Scan k)
step_cases P p r v none w f c (Adopt k) = none (Adopt k)
step_cases P p r v none w f c (Compare i) = none (Compare i)
step_cases P p r v none w f c (Flag i) = f i
step_cases P p r v none w f c (CheckMark i) = none (CheckMark i)
step_cases P p r v none w f c (CheckValue i) = none (CheckValue i)
step_cases P p r v none w f c Commit = c
step_cases P p r v none w f c Exhausted = none Exhausted
step_cases P p r v none w f c Crashed = none Crashed
step_cases P p r v none w f c Decided = none Decided
step_cases P p r v none w f c HasCommitted = none HasCommitted
step_cases P p r v none w f c HasAdopted = none HasAdopted

-- The event of a step of one of the n processes is lawful.
pub step_lawful : {W n : ℕ} (L p r v : ℕ) (φ : Phase) {h : List Event} →
    p < n → 0 < v → PhaseSound W L r φ → Lawful W n h → RecordPlaced W p (process φ r v) h → Lawful W n (step_events p r v φ ++ h)
step_lawful {W} {n} L p r v φ {h} q u s l a =
    step_cases (λ φ es. PhaseSound W L r φ → Placed W p r v φ h → Lawful W n (es ++ h)) p r v
    (λ φ s b. l)
    (λ s b.
    also l (record { some = u; reached = b.0; writer = q; round = s; value = a.0; ordered = b.1; passed = b.2 }))
    (λ i s b. also l (omega (arith, wrote_round b.written.1)))
    (λ s b. also l (record { window = s; written = b.0.written; unflagged = b.1; proposed = a.0 }))
    φ s a.1

-- It is of the process itself, if of any.
pub step_spares : (o p r v : ℕ) (φ : Phase) → (o ≡ p → ⊥) → SpareAll o (step_events p r v φ)
step_spares o p r v φ other = step_cases (λ φ es. SpareAll o es) p r v (λ φ. tt) (other, tt) (λ i. (tt, tt)) (tt, tt) φ

-- An event of the kinds that a step has.
abbrev pub OfStep : Event → Type 0
OfStep (proposal v) = ⊥
OfStep (write p r v) = Unit {0}
OfStep (flag j) = Unit {0}
OfStep (commit r v) = Unit {0}
OfStep (decision p v) = ⊥

-- Another one is older than the step.
pub step_older : (x : Event) (p r v : ℕ) (φ : Phase) {h : List Event} → (OfStep x → ⊥) →
    Happened x (step_events p r v φ ++ h) → Happened x h
step_older x p r v φ {h} other =
    step_cases (λ φ es. Happened x (es ++ h) → Happened x h) p r v
    (λ φ d. d)
    (λ d. happened_older (λ e. other (rw (← e) tt)) d)
    (λ i d. happened_older (λ e. other (rw (← e) tt)) d)
    (λ d. happened_older (λ e. other (rw (← e) tt)) d)
    φ

-- A process that is not decided stands, after its step, where it should.
pub step_stands : {W n : ℕ} (L p : ℕ) (q : Process) (leader : Bool) (x : ℕ) {h : List Event} → (q.phase ≡ Decided → ⊥) →
    is_outside (status q.phase) ≡ false → PhaseSound W L q.round q.phase → Lawful W n h → Stands W p q h →
    Found h (access L q leader) x →
    Stands W p (next W L q leader x) (step_events p q.round q.estimate q.phase ++ h)
unfolding access next
step_stands L p q leader x {h} not inside s l a f =
    record {
      placed = λ i. let b = a.placed inside in step_placed L p q.round q.estimate q.phase leader x s l b.0 b.1 f;
      decided = λ v d. absurd (not (a.decided v (step_older (decision p v) p q.round q.estimate q.phase (λ z. z) d)).0);
    }
