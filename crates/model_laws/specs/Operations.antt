-- Each accepted operation of the machine leaves a sound session, and so does each operation, accepted or refused.
use Rattle.std.specs.Prelude.{◌≤◌, ◌<◌, ◌≡◌, ◌&&◌}
use Rattle.base.specs.Prelude.{ℕ, suc, zero, arith, refl, Bool, true, false, leb, not-false, leb-true, le-leb}
use Rattle.base.specs.Prelude.{eqb-false}
use Rattle.model_laws.specs.Types.{Access, Nothing, ReadValue, WriteValue, ReadMark, SetMark, ReadDecision, WriteDecision, Process}
use Rattle.model_laws.specs.Types.{Session, Counts, Limits, Waiting, Crashed, Operation, Propose, Step, Learn, Crash}
use Rattle.model.specs.Board.{process_at, opened, max_processes, max_rounds}
use Rattle.model.specs.Step.{access, stored, turn, found}
use Rattle.model.specs.Refusal.{refusal, changed, stepped, open_tests_for, tests}
use Rattle.model.specs.Machine.{opening_for, access_of, becomes, after, counts_after, answered, perform, process_of}
use Rattle.model.specs.Sound.{sound_for, sound_process, poll_registers, sound_for_as, sound_process_as}
use Rattle.base.specs.Bools.{and_left, and_right}
use Rattle.model_laws.specs.Every.{every_replicate, every_drop}
use Rattle.model_laws.specs.Accepted.{own_tests, NoneHolds, none_holds, Accepted, accepted}
use Rattle.model_laws.specs.Phases.{process_facts, inside_some}
use Rattle.model_laws.specs.Ranges.{InRange, access_range}
use Rattle.model_laws.specs.Keeps.{next_sound, learnt_sound, placed_sound}
use Rattle.model_laws.specs.Sounds.{sound_facts, facts_sound, idle_sound, sound_process_law, set_sound, stored_sound, session_only}

-- What a write leaves: n, the limit, the processes and the closed mark.
pub record Same (s t : Session) : Type 0 where
  pub n : t.n ≡ s.n
  pub limit : t.limit ≡ s.limit
  pub processes : t.processes ≡ s.processes
  pub closed : t.closed ≡ s.closed

pub stored_same : (s : Session) (a : Access) (e : ℕ) → Same s (stored s a e)
unfolding stored
stored_same s Nothing e = record { n = refl; limit = refl; processes = refl; closed = refl }
stored_same s (ReadValue j) e = record { n = refl; limit = refl; processes = refl; closed = refl }
stored_same s (WriteValue j) e = record { n = refl; limit = refl; processes = refl; closed = refl }
stored_same s (ReadMark j) e = record { n = refl; limit = refl; processes = refl; closed = refl }
stored_same s (SetMark j) e = record { n = refl; limit = refl; processes = refl; closed = refl }
stored_same s ReadDecision e = record { n = refl; limit = refl; processes = refl; closed = refl }
stored_same s WriteDecision e = record { n = refl; limit = refl; processes = refl; closed = refl }

-- A turn that accesses a register 1 to L and makes a sound process of one of the n.
-- A poll's D must stay blank.
pub turn_sound : (poll : Bool) (W : ℕ) (s : Session) (p : ℕ) (a : Access) (becomes : ℕ → Process) → sound_for_as poll W s ≡ true → p < s.n →
    InRange s.limit a → poll_registers poll W (stored s a (process_at s p).estimate) ≡ true →
    sound_process_as poll W s.limit (becomes (found s a)) ≡ true → sound_for_as poll W (turn s p a becomes) ≡ true
unfolding turn
turn_sound poll W s p a becomes t low ok only one =
    let e = (process_at s p).estimate in
    facts_sound poll W _
    (set_sound poll W (stored s a e) p (becomes (found s a)) (stored_sound poll W s a e ok only (sound_facts poll W s t))
    (rw (stored_same s a e).n low)
    (rw (stored_same s a e).limit one))

-- The register operation of a sound process is on registers 1 to L, and so on registers 1 to M, where L is at most M.
pub operation_reach : (W L M : ℕ) (q : Process) (o : Operation) → L ≤ M → sound_process W L q ≡ true → InRange M (access_of L q o)
unfolding access_of access
operation_reach W L M q (Propose p v) low t = tt
operation_reach W L M q (Step p leader) low t =
    let f = process_facts W L q t in access_range W L M q.round q.phase leader f.round low f.phase
operation_reach W L M q (Learn p) low t = tt
operation_reach W L M q (Crash p) low t = tt

pub operation_range : (W L : ℕ) (q : Process) (o : Operation) → sound_process W L q ≡ true → InRange L (access_of L q o)
operation_range W L q o = operation_reach W L L q o (omega arith)

-- What an accepted operation makes of a sound process is sound.
pub becomes_sound : (W L : ℕ) (q : Process) (closed : Bool) (c : Counts) (o : Operation) (x : ℕ) → 1 ≤ W → sound_process W L q ≡ true →
    NoneHolds (own_tests closed q.phase c o) → sound_process W L (becomes W L q o x) ≡ true
unfolding becomes
becomes_sound W L q closed c (Propose p v) x wide t own =
    placed_sound W L Waiting _ v refl (omega (arith, eqb-false v 0 own.0, (process_facts W L q t).round))
becomes_sound W L q closed c (Step p leader) x wide t own = next_sound W L wide q leader x own.0 t
becomes_sound W L q closed c (Learn p) x wide t own = learnt_sound W L q x t
becomes_sound W L q closed c (Crash p) x wide t own =
    let f = process_facts W L q t in
    placed_sound W L Crashed _ _ refl (inside_some f own.0, f.round, tt)

module _ (W : ℕ) (s : Session) (o : Operation) where
  -- No operation of a process changes n, the limit or the closed mark.
  pub after_same : ((after W s o).n ≡ s.n) × ((after W s o).limit ≡ s.limit) × ((after W s o).closed ≡ s.closed)
  unfolding after turn
  after_same = ((stored_same s _ _).n, (stored_same s _ _).limit, (stored_same s _ _).closed)

  module _ (t : sound_for W s ≡ true) where
    -- The register operation of any operation is on registers 1 to L, and so on the arrays' registers.
    pub access_in_range : InRange s.limit (access_of s.limit (process_at s (process_of o)) o)
    access_in_range = operation_range W s.limit _ o (sound_process_law false W s (process_of o) t)

    pub access_in_arrays : InRange max_rounds (access_of s.limit (process_at s (process_of o)) o)
    access_in_arrays = operation_reach W s.limit max_rounds _ o (sound_facts false W s t).low (sound_process_law false W s (process_of o) t)

module _ (W : ℕ) (wide : 1 ≤ W) (s : Session) (c : Counts) (o : Operation) (t : sound_for W s ≡ true) where
  -- An accepted operation leaves a sound session.
  pub after_sound : Accepted s c o → sound_for W (after W s o) ≡ true
  unfolding after
  after_sound a =
      turn_sound false W s (process_of o) _ _ t a.below (access_in_range W s o t) (session_only W _)
      (becomes_sound W s.limit _ s.closed c o _ wide (sound_process_law false W s (process_of o) t) a.own)

  -- And so does each operation, accepted or refused.
  pub perform_sound : sound_for W (perform W s c o).session ≡ true
  unfolding perform answered
  perform_sound = go (refusal (tests s c o)) refl
    where
      go : (k : ℕ) → refusal (tests s c o) ≡ k → sound_for W (stepped k s (after W s o) c (counts_after s c o)).session ≡ true
      go zero e = after_sound (accepted s c o e)
      go (suc k) e = t

-- A session just opened, with n and L as an opening accepts them.
pub opened_sound : (W n L : ℕ) → 1 ≤ n → n ≤ max_processes → W ≤ L → L ≤ max_rounds → sound_for W (opened n L) ≡ true
unfolding opened
opened_sound W n L some few wide low = facts_sound false W _ (search (every_drop, every_replicate, idle_sound, session_only))

-- What an accepted opening within limits knows.
pub open_accepted : (most : Limits) (W n L : ℕ) → refusal (open_tests_for most W n L) ≡ 0 →
    (1 ≤ n) × (n ≤ most.processes) × (W ≤ L) × (L ≤ most.rounds)
open_accepted most W n L e =
    let a = none_holds (open_tests_for most W n L) (omega arith) e in
    let b = not-false (leb 1 n && leb n most.processes) a.0 in
    let c = not-false (leb W L && leb L most.rounds) a.1.0 in
    search (and_left, and_right, leb-true)

-- And an opening whose n and L are so is accepted: what it opens, either way.
module _ (most : Limits) (W n L : ℕ) where
  pub opening_accepts : 1 ≤ n → n ≤ most.processes → W ≤ L → L ≤ most.rounds →
      ((opening_for most W n L).code ≡ 0) × ((opening_for most W n L).session ≡ opened n L)
  unfolding opening_for
  opening_accepts some few wide low =
      rw (le-leb 1 n some, le-leb n most.processes few, le-leb W L wide, le-leb L most.rounds low) (refl, refl)

  pub opening_accepted : (opening_for most W n L).code ≡ 0 →
      (1 ≤ n) × (n ≤ most.processes) × (W ≤ L) × (L ≤ most.rounds) × ((opening_for most W n L).session ≡ opened n L)
  unfolding opening_for
  opening_accepted = go (refusal (open_tests_for most W n L)) refl
    where
      go : (k : ℕ) → refusal (open_tests_for most W n L) ≡ k →
          let a = changed k (opened 0 0) (opened n L) in
          a.code ≡ 0 → (1 ≤ n) × (n ≤ most.processes) × (W ≤ L) × (L ≤ most.rounds) × (a.session ≡ opened n L)
      go zero e ok = let a = open_accepted most W n L e in (a.0, a.1, a.2, a.3, refl)
      go (suc k) e ok = absurd (omega arith)
