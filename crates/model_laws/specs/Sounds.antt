-- What soundness says, clause by clause, and what keeps it.
use Rattle.std.specs.Prelude.{◌-◌, ◌≤◌, ◌<◌, ◌≡◌}
use Rattle.base.specs.Prelude.{ℕ, arith, refl, Bool, true, false, not, drop, drop-set-lt, eqb, leb-true, le-leb}
use Rattle.model_laws.specs.Types.{Access, Nothing, ReadValue, WriteValue, ReadMark, SetMark, ReadDecision, WriteDecision, Process}
use Rattle.model_laws.specs.Types.{Session}
use Rattle.model.specs.Board.{process_at, with_process, with_closed, idle, max_processes, max_rounds}
use Rattle.model.specs.Step.{stored}
use Rattle.model.specs.Refusal.{status, is_outside}
use Rattle.model.specs.Window.{window}
use Rattle.model.specs.Sound.{every, sound_phase_as, sound_process_as, poll_registers, sound_for_as, sound_as}
use Rattle.base.specs.Bools.{and_left, and_right, and_both}
use Rattle.model_laws.specs.Every.{every_get, every_set}
use Rattle.model_laws.specs.Ranges.{InRange}

-- A sound session or poll: n, the limit, what a poll has besides, and each clause of the arrays.
pub record Sound (poll : Bool) (W : ℕ) (s : Session) : Type 0 where
  pub some : 1 ≤ s.n
  pub few : s.n ≤ max_processes
  pub wide : W ≤ s.limit
  pub low : s.limit ≤ max_rounds
  pub only : poll_registers poll W s ≡ true
  pub blank : every (λ x. eqb x 0) (drop s.limit s.values) ≡ true
  pub unmarked : every not (drop s.limit s.marks) ≡ true
  pub outside : every (λ q. is_outside (status q.phase)) (drop s.n s.processes) ≡ true
  pub each : every (sound_process_as poll W s.limit) s.processes ≡ true

module _ (poll : Bool) where
  -- The test says so, and the other way round.
  pub sound_facts : (W : ℕ) (s : Session) → sound_for_as poll W s ≡ true → Sound poll W s
  unfolding sound_for_as
  sound_facts W s t = search (and_left, and_right, leb-true) depth 6

  pub facts_sound : (W : ℕ) (s : Session) → Sound poll W s → sound_for_as poll W s ≡ true
  unfolding sound_for_as
  facts_sound W s f = search (and_both, le-leb) depth 8

  -- A process that has not proposed is sound.
  pub idle_sound : (W L : ℕ) → sound_process_as poll W L idle ≡ true
  unfolding sound_process_as sound_phase_as
  idle_sound W L = and_both (le-leb 0 L (omega arith)) refl

  -- Each process of a sound session is sound.
  pub sound_process_law : (W : ℕ) (s : Session) (p : ℕ) → sound_for_as poll W s ≡ true → sound_process_as poll W s.limit (process_at s p) ≡ true
  sound_process_law W s p t =
      every_get (sound_process_as poll W s.limit) s.processes p idle (idle_sound W s.limit) (sound_facts W s t).each

  -- One of the n processes is set to a sound one.
  pub set_sound : (W : ℕ) (s : Session) (p : ℕ) (q : Process) → Sound poll W s → p < s.n → sound_process_as poll W s.limit q ≡ true →
      Sound poll W (with_process s p q)
  unfolding poll_registers
  set_sound W s p q f low one = search (drop-set-lt s.n s.processes p q low, every_set (sound_process_as poll W s.limit))

  -- A register 1 to L is written, or a round 1 to L is marked; a poll's D stays blank.
  pub stored_sound : (W : ℕ) (s : Session) (a : Access) (e : ℕ) → InRange s.limit a → poll_registers poll W (stored s a e) ≡ true →
      Sound poll W s →
      Sound poll W (stored s a e)
  unfolding stored
  stored_sound W s Nothing e ok only f = f
  stored_sound W s (ReadValue r) e ok only f = f
  stored_sound W s (WriteValue r) e ok only f = let below : r - 1 < s.limit = omega arith in search drop-set-lt
  stored_sound W s (ReadMark r) e ok only f = f
  stored_sound W s (SetMark r) e ok only f = let below : r - 1 < s.limit = omega arith in search drop-set-lt
  stored_sound W s ReadDecision e ok only f = f
  stored_sound W s WriteDecision e ok only f = search

  -- A sound session has at most 256 rounds and 64 processes.
  pub sound_low : (s : Session) → sound_as poll s ≡ true → s.limit ≤ max_rounds
  unfolding sound_as
  sound_low s t = (sound_facts (window s.n) s t).low

  pub sound_few : (s : Session) → sound_as poll s ≡ true → s.n ≤ max_processes
  unfolding sound_as
  sound_few s t = (sound_facts (window s.n) s t).few

-- 02, wish 10, of a session and its closed mark: "Soundness allows both."
pub closed_sound : (W : ℕ) (s : Session) → sound_for_as false W (with_closed s) ≡ sound_for_as false W s
unfolding sound_for_as poll_registers
closed_sound W s = refl

-- A session has no such rule of its registers.
pub session_only : (W : ℕ) (s : Session) → poll_registers false W s ≡ true
unfolding poll_registers
session_only W s = refl
