-- A turn of a poll keeps the board's invariant: by the facts of a session's turn, at the two places that differ.
use Rattle.std.specs.Prelude.{◌+◌, ◌≤◌, ◌≡◌, ◌++◌}
use Rattle.base.specs.Prelude.{ℕ, arith, refl, true, List, eqb, ltb}
use Rattle.base.specs.Bools.{cond_cases}
use Rattle.model_laws.specs.Types.{Phase, Idle, Waiting, Write, Scan, Adopt, Compare, Flag, CheckMark, CheckValue, Commit, Exhausted}
use Rattle.model_laws.specs.Types.{Crashed, Decided, HasCommitted, HasAdopted, Access, Nothing, ReadValue, WriteValue, ReadMark, SetMark}
use Rattle.model_laws.specs.Types.{ReadDecision, WriteDecision, Session, Counts, Step}
use Rattle.model.specs.Board.{process_at}
use Rattle.model.specs.Step.{access, next, phase_next, found, stored, process}
use Rattle.model.specs.Refusal.{status, is_gone}
use Rattle.model.specs.Machine.{access_of}
use Rattle.model.specs.Sound.{sound_for_as}
use Rattle.model_laws.specs.Phases.{PhaseSound, process_facts, inside_some}
use Rattle.model_laws.specs.Ranges.{InRange}
use Rattle.model_laws.specs.Operations.{operation_range}
use Rattle.model_rule.specs.Event.{Event, decision, step_events}
use Rattle.model_rule.specs.Event.Past.{here}
use Rattle.model_poll.specs.Turn.{without_decision, poll_access, ending, poll_next}
use Rattle.model_poll.specs.Machine.{turn_after}
use Rattle.model_poll_laws.specs.Answers.{TurnAccepted}
use Rattle.model_poll_laws.specs.Sounds.{poll_blank, poll_process}
use Rattle.theory_board.specs.Place.{Found, Placed, RecordPlaced}
use Rattle.theory_board.specs.Step.{step_lawful, step_spares, step_older, step_placed}
use Rattle.theory_board.specs.Matches.{Matches, Long, found_matches}
use Rattle.theory_board.specs.Invariant.{Invariant, turn_invariant}
use Rattle.theory_board.specs.Operations.{step_events_law, not_decided}

-- ---- without the write of D

-- The registers that a session's turn leaves are those of the past: so are they where D is not written and was blank.
quiet_matches : (s : Session) {h : List Event} (a : Access) (v : ℕ) → s.decision ≡ 0 → Long (stored s a v) × Matches (stored s a v) h →
    Long (stored s (without_decision a) v) × Matches (stored s (without_decision a) v) h
unfolding stored without_decision
quiet_matches s Nothing v blank b = b
quiet_matches s (ReadValue r) v blank b = b
quiet_matches s (WriteValue r) v blank b = b
quiet_matches s (ReadMark r) v blank b = b
quiet_matches s (SetMark r) v blank b = b
quiet_matches s ReadDecision v blank b = b
quiet_matches s WriteDecision v blank b = (
  record { values = b.0.values; marks = b.0.marks; processes = b.0.processes },
  record { values = b.1.values; marks = b.1.marks; decision = λ some. absurd (some blank) },
)

-- What a poll's access finds serves the session's turn.
quiet_found : (s : Session) (a : Access) (h : List Event) → InRange s.limit a → Matches s h → Found h a (found s (without_decision a))
unfolding without_decision
quiet_found s Nothing h ok k = found_matches s Nothing h ok k
quiet_found s (ReadValue r) h ok k = found_matches s (ReadValue r) h ok k
quiet_found s (WriteValue r) h ok k = found_matches s (WriteValue r) h ok k
quiet_found s (ReadMark r) h ok k = found_matches s (ReadMark r) h ok k
quiet_found s (SetMark r) h ok k = found_matches s (SetMark r) h ok k
quiet_found s ReadDecision h ok k = found_matches s ReadDecision h ok k
quiet_found s WriteDecision h ok k = tt

-- ---- the end of the pass

-- Where a session's turn leads back to gate from the checks or from commit, the round was walked: its value was written.
ends_placed : (W L p r v : ℕ) (φ : Phase) (x : ℕ) (h : List Event) → 1 ≤ W → PhaseSound W L r φ →
    let q = phase_next W L r v φ true x in
    RecordPlaced W p q (step_events p r v φ ++ h) → RecordPlaced W p (process (ending φ q.phase) q.round q.estimate)
    (step_events p r v φ ++ h)
unfolding phase_next ending
ends_placed W L p r v Idle x h wide s a = a
ends_placed W L p r v Waiting x h wide s a = a
ends_placed W L p r v Write x h wide s a = a
ends_placed W L p r v (Scan k) x h wide s a = a
ends_placed W L p r v (Adopt k) x h wide s a = a
ends_placed W L p r v (Compare i) x h wide s a = a
ends_placed W L p r v (Flag i) x h wide s a = a
ends_placed W L p r v (CheckMark i) x h wide s a = (
  a.0,
  cond_cases (λ (φ : Phase). Placed W p r v φ h → Placed W p r v (ending (CheckMark i) φ) h) (eqb x 0)
      (λ t b. b)
      (λ t b. (b (omega arith)).written)
      a.1,
)
ends_placed W L p r v (CheckValue i) x h wide s a = (
  a.0,
  cond_cases (λ (φ : Phase). Placed W p r v φ h → Placed W p r v (ending (CheckValue i) φ) h) (eqb x v)
      (λ t. cond_cases (λ (φ : Phase). Placed W p r v φ h → Placed W p r v (ending (CheckValue i) φ) h) (ltb (i + 1) W) (λ u b. b)
      (λ u b. b))
      (λ t b. (b (omega arith)).written)
      a.1,
)
ends_placed W L p r v Commit x h wide s a = (a.0, record { before = h; past = here })
ends_placed W L p r v Exhausted x h wide s a = a
ends_placed W L p r v Crashed x h wide s a = a
ends_placed W L p r v Decided x h wide s a = a
ends_placed W L p r v HasCommitted x h wide s a = a
ends_placed W L p r v HasAdopted x h wide s a = a

-- ---- the turn

pub turn_kept : {W : ℕ} {s : Session} {h : List Event} → Invariant W s h → 1 ≤ W → sound_for_as true W s ≡ true → (c : Counts) (p : ℕ) →
    TurnAccepted s c p →
    let q = process_at s p in Invariant W (turn_after W s p) (step_events p q.round q.estimate q.phase ++ h)
unfolding turn_after poll_access poll_next next access_of access
turn_kept {W} {s} {h} i wide sound c p a =
    let q = process_at s p in
    let one = poll_process W s sound p a.here in
    let facts = process_facts W s.limit q one in
    let range = operation_range W s.limit q (Step p true) one in
    let found_is = quiet_found s (access s.limit q true) h range i.matches in
    let placed = (i.stands p).placed a.inside in
    turn_invariant i p _ _ (step_events p q.round q.estimate q.phase) a.below
    (quiet_matches s (access s.limit q true) q.estimate (poll_blank W s sound)
    (step_events_law p q.round q.estimate q.phase true i.long i.matches range))
    (step_lawful s.limit p q.round q.estimate q.phase a.below (inside_some facts a.inside) facts.phase i.lawful
    placed)
    (λ o ne. step_spares o p q.round q.estimate q.phase ne)
    (record {
      placed =
          λ inside.
          ends_placed W s.limit p q.round q.estimate q.phase _ h wide facts.phase
          (step_placed s.limit p q.round q.estimate q.phase true _ facts.phase i.lawful placed.0 placed.1 found_is);
      decided =
          λ v d.
          absurd (not_decided (λ φ. is_gone (status φ)) refl a.here
          ((i.stands p).decided v (step_older (decision p v) p q.round q.estimate q.phase (λ z. z) d)).0);
    })
