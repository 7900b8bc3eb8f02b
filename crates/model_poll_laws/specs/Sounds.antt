-- What keeps a poll sound: proposals, turns and crashes of its processes.
use Rattle.std.specs.Prelude.{◌+◌, ◌≤◌, ◌<◌, ◌≡◌, ◌&&◌}
use Rattle.base.specs.Prelude.{ℕ, min, arith, refl, sym, Bool, true, false, true≢false, cond, leb, ltb, eqb}
use Rattle.base.specs.Prelude.{not, leb-true, leb-false, ltb-true, eqb-true, lt-ltb, le-leb, eq-eqb, eqb-false, not-false, not-true}
use Rattle.base.specs.Bools.{cond_cases, and_left, and_right, and_both}
use Rattle.model_laws.specs.Types.{Phase, Idle, Waiting, Write, Scan, Adopt, Compare, Flag, CheckMark, CheckValue, Commit, Exhausted}
use Rattle.model_laws.specs.Types.{Crashed, Decided, HasCommitted, HasAdopted, Process, Access, Nothing, ReadValue, WriteValue, ReadMark}
use Rattle.model_laws.specs.Types.{SetMark, ReadDecision, WriteDecision, Session, Counts, Propose, Step, Crash}
use Rattle.model.specs.Board.{process_at}
use Rattle.model.specs.Step.{go_on, phase_next, next, stored, process, access}
use Rattle.model.specs.Refusal.{status, is_outside, is_gone}
use Rattle.model.specs.Machine.{access_of, becomes, after}
use Rattle.model.specs.Sound.{sound_phase_as, sound_phase, sound_process_as, sound_process, poll_registers, sound_for_as}
use Rattle.model_laws.specs.Phases.{process_facts, inside_some, outside_start, outside_here}
use Rattle.model_laws.specs.WaitingRules.{waiting_cases}
use Rattle.model_laws.specs.Ranges.{InRange}
use Rattle.model_laws.specs.Keeps.{next_sound}
use Rattle.model_laws.specs.Sounds.{sound_facts, sound_process_law}
use Rattle.model_laws.specs.Accepted.{Accepted}
use Rattle.model_laws.specs.Operations.{stored_same, turn_sound, operation_reach}
use Rattle.model_poll.specs.Turn.{without_decision, poll_access, ending, poll_next}
use Rattle.model_poll.specs.Machine.{turn_after}

-- ---- a process of a poll that has no answer is sound as one of a session

as_session_phase : (W L r : ℕ) (φ : Phase) → is_gone (status φ) ≡ false → sound_phase_as true W L r φ ≡ true → sound_phase W L r φ ≡ true
unfolding sound_phase_as
as_session_phase W L r Idle g t = t
as_session_phase W L r Waiting g t = refl
as_session_phase W L r Write g t = t
as_session_phase W L r (Scan k) g t = t
as_session_phase W L r (Adopt k) g t = t
as_session_phase W L r (Compare i) g t = t
as_session_phase W L r (Flag i) g t = t
as_session_phase W L r (CheckMark i) g t = t
as_session_phase W L r (CheckValue i) g t = t
as_session_phase W L r Commit g t = t
as_session_phase W L r Exhausted g t = absurd (true≢false (sym t))
as_session_phase W L r Crashed g t = t
as_session_phase W L r Decided g t = refl
as_session_phase W L r HasCommitted g t = absurd (true≢false g)
as_session_phase W L r HasAdopted g t = absurd (true≢false g)

-- What is asked of the estimate and the round of a record, in any phase.
abbrev held : (L : ℕ) → Process → Bool
held L q = cond (is_outside (status q.phase)) (eqb q.estimate 0) (ltb 0 q.estimate) && leb q.round L

pub as_session : (W L : ℕ) (q : Process) → is_gone (status q.phase) ≡ false → sound_process_as true W L q ≡ true → sound_process W L q ≡ true
unfolding sound_process_as
as_session W L q g t =
    and_both (and_left (held L q) (sound_phase_as true W L q.round q.phase) t)
    (as_session_phase W L q.round q.phase g (and_right (held L q) (sound_phase_as true W L q.round q.phase) t))

-- The rule of the phase of a poll's process.
pub phase_rule : (W L : ℕ) (q : Process) → sound_process_as true W L q ≡ true → sound_phase_as true W L q.round q.phase ≡ true
unfolding sound_process_as
phase_rule W L q t = and_right (held L q) (sound_phase_as true W L q.round q.phase) t

-- Its round.
pub round_rule : (W L : ℕ) (q : Process) → sound_process_as true W L q ≡ true → q.round ≤ L
unfolding sound_process_as
round_rule W L q t =
    leb-true q.round L (and_right (cond (is_outside (status q.phase)) (eqb q.estimate 0) (ltb 0 q.estimate)) _
    (and_left (held L q) _ t))

-- ---- a turn

module _ (W : ℕ) where
  -- A phase that a session's turn leaves in round r, and the phase that a poll's leaves: the second keeps a poll's rule where the first
  -- keeps a session's.
  abbrev Ends : (r : ℕ) (left φ : Phase) → Type 0
  Ends r left φ =
      (is_outside (status φ) ≡ is_outside (status left)) × (sound_phase W W r left ≡ true → sound_phase_as true W W r φ ≡ true)

  -- 02: "gate only below round W".
  ends_waiting : {r : ℕ} → r < W → Ends r Waiting Waiting
  unfolding sound_phase_as
  ends_waiting {r} low = (refl, λ t. lt-ltb r W low)

  -- 02: "answered seats at round W".
  ends_answered : {r : ℕ} → W ≤ r → r ≤ W → Ends r Waiting HasAdopted
  unfolding sound_phase_as
  ends_answered {r} high low = (refl, λ t. eq-eqb r W (omega arith))

  ends_go_on : (r i : ℕ) → Ends r (go_on W r i) (go_on W r i)
  unfolding go_on sound_phase_as
  ends_go_on r i =
      cond_cases (λ φ. Ends r φ φ) (ltb (i + 1) (min r W))
      (λ t. (refl, λ u. u))
      (λ t. cond_cases (λ φ. Ends r φ φ) (leb W r) (λ u. (refl, λ v. v)) (λ u. ends_waiting (leb-false W r u)))

  -- From each phase that a turn is taken in.
  ends_next : (r e : ℕ) (φ : Phase) (x : ℕ) → is_outside (status φ) ≡ false → is_gone (status φ) ≡ false → r ≤ W →
      sound_phase_as true W W r φ ≡ true →
      let q = phase_next W W r e φ true x in Ends q.round q.phase (ending φ q.phase)
  unfolding phase_next ending sound_phase_as
  ends_next r e Idle x o g low t = absurd (true≢false o)
  ends_next r e Waiting x o g low t =
      let below = ltb-true r W t in
      waiting_cases (λ (q : Process). Ends q.round q.phase q.phase) W r true
      (λ high. absurd (omega arith))
      (ends_waiting below)
      (λ more.
      cond_cases (λ φ. Ends (r + 1) φ φ) (eqb x 0)
      (λ b. (refl, λ u. u))
      (λ b. cond_cases (λ φ. Ends (r + 1) φ φ) (ltb (r + 1) W) (λ c. (refl, λ u. u)) (λ c. (refl, λ u. u))))
  ends_next r e Write x o g low t = (refl, λ u. u)
  ends_next r e (Scan k) x o g low t =
      cond_cases (λ φ. Ends r φ φ) (eqb x 0)
      (λ b. (refl, λ u. u))
      (λ b. cond_cases (λ φ. Ends r φ φ) (ltb k W) (λ c. (refl, λ u. u)) (λ c. (refl, λ u. u)))
  ends_next r e (Adopt k) x o g low t = (refl, λ u. u)
  ends_next r e (Compare i) x o g low t =
      cond_cases (λ φ. Ends r φ φ) (eqb x e) (λ b. ends_go_on r i) (λ b. (refl, λ u. u))
  ends_next r e (Flag i) x o g low t = ends_go_on r i
  ends_next r e (CheckMark i) x o g low t =
      cond_cases (λ φ. Ends r φ (ending (CheckMark i) φ)) (eqb x 0)
      (λ b. (refl, λ u. u))
      (λ b. ends_answered (leb-true W r (and_left (leb W r) _ t)) low)
  ends_next r e (CheckValue i) x o g low t =
      cond_cases (λ φ. Ends r φ (ending (CheckValue i) φ)) (eqb x e)
      (λ b. cond_cases (λ φ. Ends r φ (ending (CheckValue i) φ)) (ltb (i + 1) W) (λ c. (refl, λ u. u)) (λ c. (refl, λ u. u)))
      (λ b. ends_answered (leb-true W r (and_left (leb W r) _ t)) low)
  ends_next r e Commit x o g low t = ends_answered (leb-true W r t) low
  ends_next r e Exhausted x o g low t = absurd (true≢false (sym t))
  ends_next r e Crashed x o g low t = absurd (true≢false g)
  ends_next r e Decided x o g low t = absurd (true≢false (sym t))
  ends_next r e HasCommitted x o g low t = absurd (true≢false g)
  ends_next r e HasAdopted x o g low t = absurd (true≢false g)

  -- The record with that phase.
  ended_sound : (q : Process) (φ : Phase) → sound_process W W q ≡ true → Ends q.round q.phase φ →
      sound_process_as true W W (process φ q.round q.estimate) ≡ true
  unfolding sound_process_as
  ended_sound q φ t ends =
      rw ends.0
      (and_both (and_left (held W q) (sound_phase W W q.round q.phase) t)
      (ends.1 (and_right (held W q) (sound_phase W W q.round q.phase) t)))

  -- A turn of a sound process that works.
  pub poll_next_sound : 1 ≤ W → (q : Process) (x : ℕ) → is_outside (status q.phase) ≡ false → is_gone (status q.phase) ≡ false →
      sound_process_as true W W q ≡ true → sound_process_as true W W (poll_next W W q x) ≡ true
  unfolding poll_next next
  poll_next_sound wide q x o g t =
      let s = as_session W W q g t in
      ended_sound (next W W q true x) _ (next_sound W W wide q true x o s)
      (ends_next q.round q.estimate q.phase x o g (process_facts W W q s).round (phase_rule W W q t))

-- ---- the registers that a turn accesses

-- What a session's turn accesses without D is accessed in the same range, and leaves D as it is.
quiet_range : (M : ℕ) (a : Access) → InRange M a → InRange M (without_decision a)
unfolding without_decision
quiet_range M Nothing ok = ok
quiet_range M (ReadValue r) ok = ok
quiet_range M (WriteValue r) ok = ok
quiet_range M (ReadMark r) ok = ok
quiet_range M (SetMark r) ok = ok
quiet_range M ReadDecision ok = ok
quiet_range M WriteDecision ok = tt

quiet_decision : (s : Session) (a : Access) (e : ℕ) → (stored s (without_decision a) e).decision ≡ s.decision
unfolding without_decision stored
quiet_decision s Nothing e = refl
quiet_decision s (ReadValue r) e = refl
quiet_decision s (WriteValue r) e = refl
quiet_decision s (ReadMark r) e = refl
quiet_decision s (SetMark r) e = refl
quiet_decision s ReadDecision e = refl
quiet_decision s WriteDecision e = refl

-- 02: "writes no D".
pub poll_decision : (s : Session) (L : ℕ) (q : Process) (e : ℕ) → (stored s (poll_access L q) e).decision ≡ s.decision
unfolding poll_access
poll_decision s L q e = quiet_decision s (access L q true) e

-- A turn of a sound process accesses registers 1 to L alone, and so registers 1 to M, where L is at most M.
pub poll_access_range : (W L M : ℕ) (q : Process) → L ≤ M → sound_process W L q ≡ true → InRange M (poll_access L q)
unfolding poll_access access_of
poll_access_range W L M q low t = quiet_range M (access L q true) (operation_reach W L M q (Step 0 true) low t)

-- ---- the poll after a proposal, a turn and a crash

module _ (W : ℕ) (s : Session) (t : sound_for_as true W s ≡ true) where
  -- 02: "L = W, a blank D"; "a sound one is open".
  only : ((s.limit ≡ W) × (s.decision ≡ 0)) × (s.closed ≡ false)
  unfolding poll_registers
  only =
      let limit = eqb s.limit W in
      let blank = eqb s.decision 0 in
      let all = (sound_facts true W s t).only in
      let two = and_left (limit && blank) (not s.closed) all in (
        (eqb-true s.limit W (and_left limit blank two), eqb-true s.decision 0 (and_right limit blank two)),
        not-true s.closed (and_right (limit && blank) (not s.closed) all),
      )

  pub poll_limit : s.limit ≡ W
  poll_limit = only.0.0

  pub poll_blank : s.decision ≡ 0
  poll_blank = only.0.1

  pub poll_open : s.closed ≡ false
  poll_open = only.1

  -- Registers with that limit and a blank D, of a poll that is open still.
  still_only : (u : Session) → u.limit ≡ s.limit → u.decision ≡ s.decision → u.closed ≡ s.closed → poll_registers true W u ≡ true
  unfolding poll_registers
  still_only u limit blank unclosed = rw (limit, blank, unclosed) (sound_facts true W s t).only

  -- A process of the poll that takes a turn, as a session's.
  pub poll_process : (p : ℕ) → is_gone (status (process_at s p).phase) ≡ false → sound_process W s.limit (process_at s p) ≡ true
  poll_process p g = as_session W s.limit (process_at s p) g (sound_process_law true W s p t)

  pub turn_after_sound : 1 ≤ W → (p : ℕ) → p < s.n → is_outside (status (process_at s p).phase) ≡ false →
      is_gone (status (process_at s p).phase) ≡ false →
      sound_for_as true W (turn_after W s p) ≡ true
  unfolding turn_after
  turn_after_sound wide p below o g =
      let q = process_at s p in
      turn_sound true W s p _ _ t below
      (poll_access_range W s.limit s.limit q (omega arith) (poll_process p g))
      (still_only _ (stored_same s _ _).limit (poll_decision s s.limit q q.estimate) (stored_same s _ _).closed)
      (rw poll_limit (poll_next_sound W wide q _ o g (rw poll_limit at (sound_process_law true W s p t))))

  -- A record with another phase, an estimate above 0 and a round of at most L.
  placed : (φ : Phase) (r e : ℕ) → is_outside (status φ) ≡ false → 0 < e → r ≤ s.limit → sound_phase_as true W s.limit r φ ≡ true →
      sound_process_as true W s.limit (process φ r e) ≡ true
  unfolding sound_process_as
  placed φ r e o some low rule = rw o (and_both (and_both (lt-ltb 0 e some) (le-leb r s.limit low)) rule)

  pub proposed_sound : 1 ≤ W → (c : Counts) (p v : ℕ) → Accepted s c (Propose p v) → sound_for_as true W (after W s (Propose p v)) ≡ true
  unfolding after access_of becomes stored sound_phase_as
  proposed_sound wide c p v a =
      let q = process_at s p in
      let outside = not-false (is_outside (status q.phase)) a.own.1.0 in
      let f = process_facts W s.limit q (poll_process p (outside_here (status q.phase) outside)) in
      let start = outside_start W s.limit q.round q.phase outside f.phase in
      turn_sound true W s p _ _ t a.below tt (still_only s refl refl refl)
      (placed Waiting q.round v refl (omega (arith, eqb-false v 0 a.own.0)) (omega arith) (lt-ltb q.round W (omega arith)))

  pub crashed_sound : (c : Counts) (p : ℕ) → Accepted s c (Crash p) → sound_for_as true W (after W s (Crash p)) ≡ true
  unfolding after access_of becomes stored sound_phase_as
  crashed_sound c p a =
      let q = process_at s p in
      let f = process_facts W s.limit q (poll_process p a.own.1.0) in
      turn_sound true W s p _ _ t a.below tt (still_only s refl refl refl)
      (placed Crashed q.round q.estimate refl (inside_some f a.own.0) f.round refl)
