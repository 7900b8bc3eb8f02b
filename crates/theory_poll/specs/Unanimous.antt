-- "If all proposals are v, every answer is committed v": then every register holds v or is blank, no process finds another value, no round
-- is flagged, and no check fails.
use Rattle.std.specs.Prelude.{◌+◌, ◌-◌, ◌≤◌, ◌≡◌, ◌∷◌, ◌++◌}
use Rattle.base.specs.Prelude.{ℕ, arith, refl, sym, ◌∙◌, min, ℕ_discrete, Bool, true, false, List, []}
use Rattle.base.specs.Prelude.{⊎_elim, eqb, ltb, leb, eq-eqb}
use Rattle.base.specs.Bools.{cond_cases}
use Rattle.model_laws.specs.Types.{Phase, Idle, Waiting, Write, Scan, Adopt, Compare, Flag, CheckMark, CheckValue, Commit, Exhausted}
use Rattle.model_laws.specs.Types.{Crashed, Decided, HasCommitted, HasAdopted, Process, Session, Counts}
use Rattle.model.specs.Board.{process_at, mark_at, value_at, idle, opened, max_processes}
use Rattle.model.specs.Step.{waiting_rule, access, phase_access, go_on, next, phase_next, found, bit}
use Rattle.model_laws.specs.Phases.{PhaseSound, process_facts}
use Rattle.model_rule.specs.Event.{Event, flag, step_events, Happened, Proposed, Written}
use Rattle.model_poll.specs.Turn.{without_decision, poll_access, ending, poll_next, answer_of, Carries}
use Rattle.theory_board.specs.Epoch.{last}
use Rattle.theory_board.specs.Past.{past_before, past_none, past_append, happened_past, happened_older}
use Rattle.theory_board.specs.Registers.{wrote_round, last_written}
use Rattle.theory_board.specs.Lawful.{lawful_at, blank_above}
use Rattle.theory_board.specs.Place.{Placed}
use Rattle.theory_board.specs.Step.{step_cases}
use Rattle.theory_board.specs.Invariant.{Invariant}
use Rattle.theory_board.specs.Opening.{same_everywhere}
use Rattle.model_rule.specs.System.{machine, if_accepted, events, past}
use Rattle.model_rule.specs.Calls.{Input}
use Rattle.model_poll.specs.declared.Answer.TheVariants.{Commits}
use Rattle.model_poll.specs.Machine.{PollOperation, proposes, turns, crashes}
use Rattle.model_rule.specs.PollCalls.{poll_events_of, polls}
use Rattle.model_poll_laws.specs.Answers.{TurnAccepted}
use Rattle.model_poll_laws.specs.Sounds.{poll_process}
use Rattle.model_poll_laws.specs.Performs.{PollAccepted, poll_process_of, poll_after, poll_becomes, perform_cases, others_stay, own_becomes}
use Rattle.model_poll_laws.specs.Performs.{accepted_below, answer_cases}
use Rattle.theory_board.specs.Reached.{Reached}
use Rattle.theory_poll.specs.Machine.{poll_reached, answer_known}

-- All that was proposed is v.
abbrev pub Only : (v : ℕ) → List Event → Type 0
Only v h = (w : ℕ) → Proposed w h → w ≡ v

-- A process that found no other value: it has nothing to flag, and no check failed.
abbrev pub Calm : Phase → Type 0
Calm Idle = Unit {0}
Calm Waiting = Unit {0}
Calm Write = Unit {0}
Calm (Scan k) = Unit {0}
Calm (Adopt k) = Unit {0}
Calm (Compare i) = Unit {0}
Calm (Flag i) = ⊥
Calm (CheckMark i) = Unit {0}
Calm (CheckValue i) = Unit {0}
Calm Commit = Unit {0}
Calm Exhausted = Unit {0}
Calm Crashed = Unit {0}
Calm Decided = Unit {0}
Calm HasCommitted = Unit {0}
Calm HasAdopted = ⊥

-- No round was flagged.
abbrev pub NoFlag : List Event → Type 0
NoFlag h = (j : ℕ) → Happened (flag j) h → ⊥

module _ {W : ℕ} {s : Session} {h : List Event} (i : Invariant W s h) (v : ℕ) (only : Only v h) where
  -- Where register r was written, every register up to it holds v.
  all_hold : (r e j : ℕ) → Written r e h → 1 ≤ j → j ≤ r → value_at s j ≡ v
  all_hold r e j w some low =
      let holds = i.matches.values j some in
      elim (ℕ_discrete (last h j) 0) [
        | yes z ↦ absurd (omega (arith, blank_above i.lawful j some z, wrote_round w.1))
        | no filled ↦
            let wrote = last_written h j (omega arith) in
            holds ∙ only (last h j) (happened_past (past_before wrote.1.past) (lawful_at i.lawful wrote.1.past).value)
      ]

  -- No mark is set.
  unmarked : NoFlag h → (j : ℕ) → 1 ≤ j → bit (mark_at s j) ≡ 0
  unmarked none j some = go (mark_at s j) refl
    where
      go : (b : Bool) → mark_at s j ≡ b → bit b ≡ 0
      go true e = absurd (none j ((i.matches.marks j some).0 e))
      go false e = refl

  calm_go_on : (r j : ℕ) → Calm (go_on W r j)
  unfolding go_on
  calm_go_on r j = cond_cases Calm (ltb (j + 1) (min r W)) (λ t. tt) (λ t. cond_cases Calm (leb W r) (λ u. tt) (λ u. tt))

  -- A turn of a calm process leaves it calm.
  pub calm_next : NoFlag h → 1 ≤ W → (L p r e : ℕ) (φ : Phase) → PhaseSound W L r φ → Proposed e h → Placed W p r e φ h → Calm φ →
      let q = phase_next W L r e φ true (found s (without_decision (phase_access L r φ true))) in Calm (ending φ q.phase)
  unfolding phase_next phase_access ending without_decision found waiting_rule
  calm_next none wide L p r e Idle k b a c = tt
  calm_next none wide L p r e Waiting k b a c =
      cond_cases (λ (q : Process). Calm q.phase) (ltb r L)
      (λ t.
      cond_cases Calm (eqb (found s (without_decision (phase_access L r Waiting true))) 0)
      (λ u. tt)
      (λ u. cond_cases Calm (ltb (r + 1) L) (λ z. tt) (λ z. tt)))
      (λ t. tt)
  calm_next none wide L p r e Write k b a c = tt
  calm_next none wide L p r e (Scan j) k b a c =
      cond_cases Calm (eqb (value_at s j) 0) (λ t. tt) (λ t. cond_cases Calm (ltb j L) (λ u. tt) (λ u. tt))
  calm_next none wide L p r e (Adopt j) k b a c = tt
  calm_next none wide L p r e (Compare j) k b a c =
      let same : value_at s (r - j) ≡ e = all_hold r e (r - j) a.written (omega arith) (omega arith) ∙ sym (only e b) in
      rw (eq-eqb (value_at s (r - j)) e same) (calm_go_on r j)
  calm_next none wide L p r e (Flag j) k b a c = absurd c
  calm_next none wide L p r e (CheckMark j) k b a c = rw (unmarked none (r - j) (omega arith)) tt
  calm_next none wide L p r e (CheckValue j) k b a c =
      let same : value_at s (r - j) ≡ e = all_hold r e (r - j) a.0.written (omega arith) (omega arith) ∙ sym (only e b) in
      rw (eq-eqb (value_at s (r - j)) e same) (cond_cases (λ φ. Calm (ending (CheckValue j) φ)) (ltb (j + 1) W) (λ t. tt) (λ t. tt))
  calm_next none wide L p r e Commit k b a c = tt
  calm_next none wide L p r e Exhausted k b a c = tt
  calm_next none wide L p r e Crashed k b a c = tt
  calm_next none wide L p r e Decided k b a c = tt
  calm_next none wide L p r e HasCommitted k b a c = tt
  calm_next none wide L p r e HasAdopted k b a c = absurd c

-- The events of a calm process' turn are no flag.
pub calm_events : (p r e : ℕ) (φ : Phase) (h : List Event) → Calm φ → NoFlag h → NoFlag (step_events p r e φ ++ h)
calm_events p r e φ h calm none =
    step_cases (λ φ es. Calm φ → NoFlag (es ++ h)) p r e
    (λ φ c. none)
    (λ c j f. none j (happened_older (λ e. let z : ◌≡◌ {A = ℕ} 0 1 = cc in omega arith) f))
    (λ i c. absurd c)
    (λ c j f. none j (happened_older (λ e. let z : ◌≡◌ {A = ℕ} 0 1 = cc in omega arith) f))
    φ calm

-- ---- the machine

-- What is known of a poll and its past where all that was proposed is v.
pub record AllCalm (s : Session) (h : List Event) : Type 0 where
  pub calm : (p : ℕ) → Calm (process_at s p).phase
  pub none : NoFlag h

-- A turn of a calm poll.
turn_calm : {W n : ℕ} {s : Session} {h : List Event} → Reached true W n W s h → 1 ≤ W → (v : ℕ) → Only v h → (c : Counts) (p : ℕ) →
    TurnAccepted s c p → AllCalm s h →
    Calm (poll_becomes W s (turns p)).phase
unfolding poll_next poll_access access next
turn_calm {W} {n} {s} {h} i wide v only c p a k =
    let q = process_at s p in
    let one = poll_process W s i.sound p a.here in
    let placed = (i.invariant.stands p).placed a.inside in
    calm_next i.invariant v only k.none wide s.limit p q.round q.estimate q.phase
    (process_facts W s.limit q one).phase placed.0 placed.1
    (k.calm p)

-- One operation: its own process becomes calm, and the others stay so.
accepted_calm : {W n : ℕ} {s : Session} {h : List Event} → Reached true W n W s h → 1 ≤ W → (v : ℕ) → Only v h →
    (c : Counts) (o : PollOperation) →
    PollAccepted s c o → AllCalm s h → AllCalm (poll_after W s o) (poll_events_of s o ++ h)
accepted_calm {W} {n} {s} {h} i wide v only c o a k =
    record {
      calm = λ p. elim (ℕ_discrete p (poll_process_of o)) [ yes e ↦ rw e own | no ne ↦ rw (others_stay W s o p ne) (k.calm p) ];
      none = unflagged o;
    }
  where
    becomes : (o : PollOperation) → PollAccepted s c o → Calm (poll_becomes W s o).phase
    becomes (proposes p v) a = tt
    becomes (turns p) a = turn_calm i wide v only c p a k
    becomes (crashes p) a = tt

    own : Calm (process_at (poll_after W s o) (poll_process_of o)).phase
    own = rw (own_becomes W s o (omega (arith, accepted_below s c o a, i.invariant.long.processes))) (becomes o a)

    unflagged : (o : PollOperation) → NoFlag (poll_events_of s o ++ h)
    unflagged (proposes p v) = λ j f. k.none j (happened_older (λ e. let z : ◌≡◌ {A = ℕ} 0 1 = cc in omega arith) f)
    unflagged (turns p) = let q = process_at s p in calm_events p q.round q.estimate q.phase h (k.calm p) k.none
    unflagged (crashes p) = k.none

-- A list of operations.
pub machine_calm : {W n : ℕ} {start : Session} → 1 ≤ W → Reached true W n W start [] → AllCalm start [] →
    (v : ℕ) (fs : List (Input PollOperation)) →
    Only v (past (polls W) start fs) → AllCalm (machine (polls W) start fs) (past (polls W) start fs)
machine_calm wide i k v [] only = k
machine_calm {W} {n} {start} wide i k v (f ∷ fs) only =
    let m = machine (polls W) start fs in
    let h = past (polls W) start fs in
    let older : Only v h = λ w p. only w (happened_past (past_append (events (polls W) m f)) p) in
    let r = machine_calm wide i k v fs older in
    perform_cases (λ j t. AllCalm t (if_accepted j (poll_events_of m f.operation) ++ h)) W m f.counts f.operation
    (λ a. accepted_calm (poll_reached wide i fs) wide v older f.counts f.operation a r)
    (λ j. r)

-- A poll just opened.
pub opened_calm : (W n : ℕ) → AllCalm (opened n W) []
unfolding opened
opened_calm W n =
    record { calm = λ p. rw (same_everywhere max_processes p idle) tt; none = λ j f. past_none f.past }

-- An answer of a calm process is committed, and carries v.
pub calm_answer : {W n : ℕ} {s : Session} {h : List Event} → Reached true W n W s h → (v : ℕ) → Only v h → AllCalm s h → (p u : ℕ) →
    Carries (answer_of (process_at s p)) u → answer_of (process_at s p) ≡ Commits v
unfolding answer_of
calm_answer {s = s} i v only k p u has =
    let q = process_at s p in
    let a = answer_cases q.phase q.estimate u has in
    let same : q.estimate ≡ v = a.1 ∙ only u (answer_known i p u has).0 in
    ⊎_elim (λ (e : q.phase ≡ HasCommitted). rw (e, same) refl) (λ e. absurd (rw e at (k.calm p))) a.0
