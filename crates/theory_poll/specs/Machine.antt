-- What is known of a poll that the machine came to, at any window W, and of the answers that its records hold.
use Rattle.std.specs.Prelude.{◌≤◌, ◌<◌, ◌≡◌, ◌++◌, ◌⊎◌}
use Rattle.base.specs.Prelude.{ℕ, arith, refl, ◌∙◌, List, [], inl, inr, ⊎_elim, true, eqb-true}
use Rattle.model_laws.specs.Types.{HasCommitted, HasAdopted, Session, Counts, Process, Propose, Crash}
use Rattle.model.specs.Board.{process_at, opened, max_processes, max_rounds}
use Rattle.model.specs.Sound.{sound_phase_as}
use Rattle.model_laws.specs.Sounds.{sound_process_law}
use Rattle.model_rule.specs.Event.{Event, Proposed, Written, Committed}
use Rattle.model_rule.specs.System.{machine, if_accepted, events, past}
use Rattle.model_rule.specs.Calls.{Input}
use Rattle.model_rule.specs.Safe.{threshold}
use Rattle.model_poll.specs.declared.Answer.TheVariants.{Commits, Adopts}
use Rattle.model_poll.specs.Turn.{answer_of, Carries}
use Rattle.model_poll.specs.Machine.{PollOperation, proposes, turns, crashes, turn_after, poll_perform}
use Rattle.model_rule.specs.PollCalls.{poll_events_of, polls}
use Rattle.model_poll_laws.specs.Opening.{opened_poll_sound}
use Rattle.model_poll_laws.specs.Sounds.{phase_rule, poll_limit, poll_process, turn_after_sound, proposed_sound, crashed_sound}
use Rattle.model_poll_laws.specs.Performs.{PollAccepted, poll_after, perform_cases, turn_size, accepted_here, answer_cases, answer_gone}
use Rattle.theory_board.specs.Lawful.{commit_lawful}
use Rattle.theory_board.specs.Reached.{Reached, accepted_reached, opened_reached}
use Rattle.theory_board.specs.Lists.{machine_kept}
use Rattle.theory_count.specs.Agreed.{agreed}
use Rattle.theory_poll.specs.Turn.{turn_kept}

-- An accepted operation.
pub accepted_poll : {W n : ℕ} {s : Session} {h : List Event} → 1 ≤ W → (c : Counts) (o : PollOperation) → Reached true W n W s h →
    PollAccepted s c o →
    Reached true W n W (poll_after W s o) (poll_events_of s o ++ h)
accepted_poll {W} {n} {s} wide c (proposes p v) i a =
    accepted_reached i c (Propose p v) a (poll_process W s i.sound p (accepted_here s c (proposes p v) a))
    (proposed_sound W s i.sound wide c p v a)
accepted_poll {W} {n} {s} wide c (turns p) i a =
    let sound = turn_after_sound W s i.sound wide p a.below a.inside a.here in
    record {
      sound = sound;
      size = turn_size W s p ∙ i.size;
      rounds = poll_limit W (turn_after W s p) sound;
      invariant = turn_kept i.invariant wide i.sound c p a;
    }
accepted_poll {W} {n} {s} wide c (crashes p) i a =
    accepted_reached i c (Crash p) a (poll_process W s i.sound p (accepted_here s c (crashes p) a)) (crashed_sound W s i.sound c p a)

-- One operation, accepted or refused.
pub poll_operation_reached : {W n : ℕ} {s : Session} {h : List Event} → 1 ≤ W → (f : Input PollOperation) → Reached true W n W s h →
    Reached true W n W (poll_perform W s f.counts f.operation).session (events (polls W) s f ++ h)
poll_operation_reached {W} {n} {s} {h} wide f i =
    perform_cases (λ k t. Reached true W n W t (if_accepted k (poll_events_of s f.operation) ++ h)) W s f.counts f.operation
    (accepted_poll wide f.counts f.operation i)
    (λ k. i)

-- A list of operations.
pub poll_reached : {W n : ℕ} {start : Session} → 1 ≤ W → Reached true W n W start [] → (fs : List (Input PollOperation)) →
    Reached true W n W (machine (polls W) start fs) (past (polls W) start fs)
poll_reached {W} {n} wide = machine_kept (polls W) (Reached true W n W) (λ s h f. poll_operation_reached wide f)

-- A poll just opened.
pub opened_poll : (W n : ℕ) → 1 ≤ n → n ≤ max_processes → W ≤ max_rounds → Reached true W n W (opened n W) []
opened_poll W n some few low = opened_reached W n W (opened_poll_sound W n some few low) few low

-- ---- the answers that the records hold

module _ {W n : ℕ} {s : Session} {h : List Event} (i : Reached true W n W s h) (p v : ℕ) (has : Carries (answer_of (process_at s p)) v) where
  abbrev q : Process
  q = process_at s p

  -- The phase is one of the two, and tells of round W and of v.
  answer_placed : Proposed v h × (((q.phase ≡ HasCommitted) × Committed W v h) ⊎ ((q.phase ≡ HasAdopted) × Written W v h))
  unfolding answer_of sound_phase_as
  answer_placed =
      let a = answer_cases q.phase q.estimate v has in
      let rule = phase_rule W s.limit q (sound_process_law true W s p i.sound) in
      let placed = (i.invariant.stands p).placed (rw (answer_gone q v has) refl) in (
        rw a.1 at placed.0,
        ⊎_elim
            (λ e. inl (e, rw (e, eqb-true q.round W (rw e at rule), a.1) at placed.1))
            (λ e. inr (e, rw (e, eqb-true q.round W (rw e at rule), a.1) at placed.1))
            a.0,
      )

  -- An answer's value was proposed, and written to the register of round W.
  pub answer_known : Proposed v h × Written W v h
  answer_known =
      (answer_placed.0, ⊎_elim (λ c. (commit_lawful i.invariant.lawful c.1).written) (λ a. a.1) answer_placed.1)

  -- A committed one was committed in round W.
  pub answer_committed : answer_of q ≡ Commits v → Committed W v h
  unfolding answer_of
  answer_committed e =
      ⊎_elim (λ c. c.1)
      (λ a. let other : Adopts q.estimate ≡ Commits v = rw a.0 at e in let z : ◌≡◌ {A = ℕ} 0 1 = cc in absurd (omega arith))
      answer_placed.1

-- "If one answer is committed v, every answer carries v", where the window is wide enough.
pub answers_agree : {W n : ℕ} {s : Session} {h : List Event} → Reached true W n W s h → 2 ≤ W → n < threshold W → (p q u v : ℕ) →
    answer_of (process_at s p) ≡ Commits v → Carries (answer_of (process_at s q)) u → u ≡ v
answers_agree {W} {n} {s} {h} i wide few p q u v e has =
    agreed W s.n h wide (rw i.size few) i.invariant.lawful (answer_committed i p v (rw e refl) e) (answer_known i q u has).1
    (omega arith)
