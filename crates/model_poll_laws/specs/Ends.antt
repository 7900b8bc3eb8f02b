-- How a pass ends (document 02, wish 6): what its sentences say of the machine of polls, at any window, of any poll and counts; and that
-- sessions and polls with such an end are apart.
use Rattle.std.specs.Prelude.{◌+◌, ◌-◌, ◌<◌, ◌≤◌, ◌≡◌}
use Rattle.base.specs.Prelude.{ℕ, arith, refl, sym, ◌∙◌, ap, ⊎_elim, Bool, true, false, true≢false, length}
use Rattle.base.specs.Prelude.{get_or-set_same, ne_eqb, lt-leb, ltb-true}
use Rattle.model_laws.specs.Types.{Phase, Waiting, CheckMark, CheckValue, Commit, Exhausted, Decided, HasCommitted, HasAdopted, Process}
use Rattle.model_laws.specs.Types.{Session, Counts, Stepped, Operation, Propose}
use Rattle.model.specs.declared.Status.TheVariants.{Active, Gone}
use Rattle.model.specs.Window.{window}
use Rattle.model.specs.Board.{value_at, mark_at, process_at, with_process, idle}
use Rattle.model.specs.Step.{phase_access, access, phase_next, next, found, stored, turn, counted, process}
use Rattle.model.specs.Numbers.{unsound, process_gone}
use Rattle.model.specs.Refusal.{full, status, is_outside}
use Rattle.model.specs.Machine.{answered, perform}
use Rattle.model.specs.Sound.{sound_phase_as, sound_for_as, sound_as, sound, sound_poll}
use Rattle.model_laws.specs.Sounds.{sound_process_law}
use Rattle.model_laws.specs.Phases.{process_facts}
use Rattle.model_laws.specs.Accepted.{propose_accepts}
use Rattle.model_laws.specs.Answers.{code_as, perform_accepted}
use Rattle.model_poll.specs.declared.Answer.TheVariants.{Pending, Commits, Adopts}
use Rattle.model_poll.specs.Turn.{without_decision, poll_access, ending, poll_next, answer_of, Carries}
use Rattle.model_poll.specs.Machine.{proposes, turns, crashes, turn_after, turn_counts, turned, poll_perform}
use Rattle.model_poll_laws.specs.Sounds.{phase_rule, poll_limit, poll_blank, poll_open}
use Rattle.model_poll_laws.specs.Performs.{answer_cases}

module _ (W : ℕ) (s : Session) (c : Counts) (p : ℕ) (below : p < s.n) where
  abbrev q : Process
  q = process_at s p

  -- The counts with one read more.
  abbrev read : Counts
  read = record { reads = c.reads + 1; writes = c.writes; contested = c.contested }

  -- The poll in which the record of process p alone has changed, to this phase.
  abbrev ends : Phase → Session
  ends φ = with_process s p (process φ q.round q.estimate)

  module _ (long : p < length s.processes) (room : full c ≡ false) where
    -- Its record then.
    ends_at : (φ : Phase) → process_at (ends φ) p ≡ process φ q.round q.estimate
    ends_at φ = get_or-set_same s.processes p _ idle long

    -- 02: "its turn at commit answers committed with its value and writes no D": the record alone changes, and nothing is counted.
    pub commit_answers : q.phase ≡ Commit →
        poll_perform W s c (turns p) ≡ record { code = 0; session = ends HasCommitted; counts = c; answer = Commits q.estimate }
    unfolding poll_perform turned turn_after turn_counts turn poll_access poll_next access next phase_access phase_next without_decision ending
        stored found counted answer_of
    commit_answers at = rw (lt-leb s.n p below, at, room, ends_at HasCommitted) refl

    -- 02: "where a check of that round fails it answers adopted with its value": at a marked round,
    pub marked_adopts : (i : ℕ) → q.phase ≡ CheckMark i → mark_at s (q.round - i) ≡ true →
        poll_perform W s c (turns p) ≡ record { code = 0; session = ends HasAdopted; counts = read; answer = Adopts q.estimate }
    unfolding poll_perform turned turn_after turn_counts turn poll_access poll_next access next phase_access phase_next without_decision ending
        stored found counted answer_of
    marked_adopts i at marked = rw (lt-leb s.n p below, at, room, marked, ends_at HasAdopted) refl

    -- and at another value.
    pub other_adopts : (i : ℕ) → q.phase ≡ CheckValue i → (value_at s (q.round - i) ≡ q.estimate → ⊥) →
        poll_perform W s c (turns p) ≡ record { code = 0; session = ends HasAdopted; counts = read; answer = Adopts q.estimate }
    unfolding poll_perform turned turn_after turn_counts turn poll_access poll_next access next phase_access phase_next without_decision ending
        stored found counted answer_of
    other_adopts i at other =
        let unlike = ne_eqb (value_at s (q.round - i)) q.estimate other in
        rw (lt-leb s.n p below, at, room, unlike, ends_at HasAdopted) refl

  -- A number is taken from a process that is out.
  pub out_proposal : (v : ℕ) → 0 < v → is_outside (status q.phase) ≡ true → s.closed ≡ false → (poll_perform W s c (proposes p v)).code ≡ 0
  unfolding poll_perform
  out_proposal v some out unclosed =
      ap (λ (a : Stepped). a.code) (perform_accepted true W s c (Propose p v) (propose_accepts s c p below v some out unclosed))

  -- A turn of a process that works is refused by 16 alone.
  pub working_turn : status q.phase ≡ Active → full c ≡ false → (poll_perform W s c (turns p)).code ≡ 0
  unfolding poll_perform turned
  working_turn works room = rw (lt-leb s.n p below, works, room) refl

  -- 02: "a turn or crash of an answered seat gives 8", and changes nothing.
  module _ (gone : status q.phase ≡ Gone) where
    pub gone_turn : poll_perform W s c (turns p) ≡ record { code = process_gone; session = s; counts = c; answer = Pending }
    unfolding poll_perform turned
    gone_turn = rw (lt-leb s.n p below, gone) refl

    pub gone_crash : poll_perform W s c (crashes p) ≡ record { code = process_gone; session = s; counts = c; answer = Pending }
    unfolding poll_perform perform answered
    gone_crash = rw (lt-leb s.n p below, gone) refl

-- ---- sessions and polls apart: 3

-- A test that leads to an absurdity does not hold.
false_if : (b : Bool) → (b ≡ true → ⊥) → b ≡ false
false_if true never = absurd (never refl)
false_if false never = refl

-- 02: "no sound session has an answered seat": a session's operations and read-outs refuse a poll with one.
pub answered_no_session : (s : Session) (p v : ℕ) → Carries (answer_of (process_at s p)) v → sound s ≡ false
unfolding answer_of sound_as
answered_no_session s p v has =
    let W = window s.n in
    let q = process_at s p in
    let is = (answer_cases q.phase q.estimate v has).0 in
    false_if (sound_for_as false W s)
    (λ t.
    let f = (process_facts W s.limit q (sound_process_law false W s p t)).phase in
    ⊎_elim (λ e. rw e at f) (λ e. rw e at f) is)

-- "L = W, a blank D, no spent or decided seat, gate only below round W", and "a sound one is open": a poll's operations refuse a session
-- that has it otherwise.
module _ (s : Session) where
  pub other_limit_no_poll : (s.limit ≡ window s.n → ⊥) → sound_poll s ≡ false
  unfolding sound_as
  other_limit_no_poll other = false_if (sound_for_as true (window s.n) s) (λ t. other (poll_limit (window s.n) s t))

  pub filled_no_poll : (s.decision ≡ 0 → ⊥) → sound_poll s ≡ false
  unfolding sound_as
  filled_no_poll some = false_if (sound_for_as true (window s.n) s) (λ t. some (poll_blank (window s.n) s t))

  pub closed_no_poll : s.closed ≡ true → sound_poll s ≡ false
  unfolding sound_as
  closed_no_poll closed =
      false_if (sound_for_as true (window s.n) s) (λ t. true≢false (sym closed ∙ poll_open (window s.n) s t))

  module _ (p : ℕ) where
    -- The rule of the phase of process p, where the poll is sound.
    rule : (φ : Phase) → (process_at s p).phase ≡ φ → sound_for_as true (window s.n) s ≡ true →
        sound_phase_as true (window s.n) s.limit (process_at s p).round φ ≡ true
    rule φ e t = rw e at (phase_rule (window s.n) s.limit (process_at s p) (sound_process_law true (window s.n) s p t))

    pub spent_no_poll : (process_at s p).phase ≡ Exhausted → sound_poll s ≡ false
    unfolding sound_as sound_phase_as
    spent_no_poll e = false_if (sound_for_as true (window s.n) s) (λ t. true≢false (sym (rule Exhausted e t)))

    pub decided_no_poll : (process_at s p).phase ≡ Decided → sound_poll s ≡ false
    unfolding sound_as sound_phase_as
    decided_no_poll e = false_if (sound_for_as true (window s.n) s) (λ t. true≢false (sym (rule Decided e t)))

    pub waiting_no_poll : (process_at s p).phase ≡ Waiting → window s.n ≤ (process_at s p).round → sound_poll s ≡ false
    unfolding sound_as sound_phase_as
    waiting_no_poll e high =
        false_if (sound_for_as true (window s.n) s) (λ t. omega
        (arith, ltb-true (process_at s p).round (window s.n) (rule Waiting e t)))

-- What is not sound is refused with 3, by each operation that sessions and polls share.
pub unsound_refused : (poll : Bool) (s : Session) (c : Counts) (o : Operation) → sound_as poll s ≡ false → code_as poll s c o ≡ unsound
unsound_refused poll s c o unsound = rw unsound refl
