-- What is known of a session, or a poll, that the machine came to, and that one operation keeps it. (An operation of a poll:
-- `theory_poll`.)
use Rattle.std.specs.Prelude.{◌≤◌, ◌≡◌, ◌++◌}
use Rattle.base.specs.Prelude.{ℕ, suc, zero, refl, ◌∙◌, Bool, true, false, List, []}
use Rattle.model_laws.specs.Types.{Session, Counts, Operation, Command, acts, closes}
use Rattle.model.specs.Board.{process_at, opened, max_processes, max_rounds}
use Rattle.model.specs.Refusal.{refusal, tests, stepped}
use Rattle.model.specs.Machine.{after, counts_after, answered, perform, execute, process_of}
use Rattle.model.specs.Sound.{sound_process, sound_for_as}
use Rattle.model_laws.specs.Accepted.{Accepted, accepted}
use Rattle.model_laws.specs.Sounds.{sound_process_law, closed_sound}
use Rattle.model_laws.specs.Operations.{after_same, after_sound, opened_sound}
use Rattle.model_rule.specs.Event.{Event, events_of, command_events}
use Rattle.model_rule.specs.System.{machine, if_accepted, events, past}
use Rattle.model_rule.specs.Calls.{Input, sessions}
use Rattle.theory_board.specs.Invariant.{Invariant, closed_invariant}
use Rattle.theory_board.specs.Operations.{operation_invariant}
use Rattle.theory_board.specs.Opening.{opened_invariant}
use Rattle.theory_board.specs.Lists.{machine_kept}

-- It is sound, as a session or (poll true) as a poll, has its n and its limit still, and keeps the invariant.
pub record Reached (poll : Bool) (W n L : ℕ) (s : Session) (h : List Event) : Type 0 where
  pub sound : sound_for_as poll W s ≡ true
  pub size : s.n ≡ n
  pub rounds : s.limit ≡ L
  pub invariant : Invariant W s h

-- An accepted operation of a session, and so an accepted proposal or crash of a poll: the process that it names is sound, as one of a
-- session, and what it leaves is sound.
pub accepted_reached : {poll : Bool} {W n L : ℕ} {s : Session} {h : List Event} → Reached poll W n L s h → (c : Counts) (o : Operation) →
    Accepted s c o → sound_process W s.limit (process_at s (process_of o)) ≡ true → sound_for_as poll W (after W s o) ≡ true →
    Reached poll W n L (after W s o) (events_of (process_at s (process_of o)) s.decision o ++ h)
accepted_reached {W = W} {s = s} i c o a one left =
    let same = after_same W s o in
    let kept = operation_invariant i.invariant c o one a in
    record { sound = left; size = same.0 ∙ i.size; rounds = same.1 ∙ i.rounds; invariant = kept }

-- What is just opened, and sound.
pub opened_reached : {poll : Bool} (W n L : ℕ) → sound_for_as poll W (opened n L) ≡ true → n ≤ max_processes → L ≤ max_rounds →
    Reached poll W n L (opened n L) []
unfolding opened
opened_reached W n L sound few low = record { sound = sound; size = refl; rounds = refl; invariant = opened_invariant W n L few low }

-- ---- the machine of sessions

module _ {W n L : ℕ} (wide : 1 ≤ W) where
  -- An accepted operation of a process.
  pub after_reached : {s : Session} {h : List Event} (c : Counts) (o : Operation) → Reached false W n L s h → Accepted s c o →
      Reached false W n L (after W s o) (events_of (process_at s (process_of o)) s.decision o ++ h)
  after_reached {s} c o i a =
      accepted_reached i c o a (sound_process_law false W s (process_of o) i.sound) (after_sound W wide s c o i.sound a)

  -- One operation of a process, accepted or refused.
  pub operation_reached : {s : Session} {h : List Event} (c : Counts) (o : Operation) → Reached false W n L s h →
      let a = perform W s c o in
      Reached false W n L a.session (if_accepted a.code (events_of (process_at s (process_of o)) s.decision o) ++ h)
  unfolding perform answered
  operation_reached {s} {h} c o i = go c o (refusal (tests s c o)) refl
    where
      go : (c : Counts) (o : Operation) (k : ℕ) → refusal (tests s c o) ≡ k →
          let a = stepped k s (after W s o) c (counts_after s c o) in
          Reached false W n L a.session (if_accepted a.code (events_of (process_at s (process_of o)) s.decision o) ++ h)
      go c o zero e = after_reached c o i (accepted s c o e)
      go c o (suc k) e = i

  -- One command: a close reads and writes nothing but the closed mark, of which neither the invariant nor soundness speaks.
  pub command_reached : {s : Session} {h : List Event} (f : Input Command) → Reached false W n L s h →
      Reached false W n L (execute W s f.counts f.operation).session (events (sessions W) s f ++ h)
  unfolding execute
  command_reached {s} {h} f i = go f.counts f.operation
    where
      go : (c : Counts) (x : Command) → let a = execute W s c x in
          Reached false W n L a.session (if_accepted a.code (command_events s x) ++ h)
      go c (acts o) = operation_reached c o i
      go c closes =
          record {
            sound = closed_sound W s ∙ i.sound;
            size = i.size;
            rounds = i.rounds;
            invariant = closed_invariant i.invariant;
          }

  -- A list of commands.
  pub machine_reached : {start : Session} → Reached false W n L start [] → (fs : List (Input Command)) →
      Reached false W n L (machine (sessions W) start fs) (past (sessions W) start fs)
  machine_reached = machine_kept (sessions W) (Reached false W n L) (λ s h f. command_reached f)

-- A session just opened.
pub opened_session : (W n L : ℕ) → 1 ≤ n → n ≤ max_processes → W ≤ L → L ≤ max_rounds → Reached false W n L (opened n L) []
opened_session W n L some few wide low = opened_reached W n L (opened_sound W n L some few wide low) few low
