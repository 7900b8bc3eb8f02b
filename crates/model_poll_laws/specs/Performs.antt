-- What the machine of polls does in one operation: an accepted one has the session after it, a refused one leaves the poll; and which
-- records change.
use Rattle.std.specs.Prelude.{◌≡◌, ◌⊎◌, ◌<◌}
use Rattle.base.specs.Prelude.{ℕ, suc, zero, arith, refl, inl, inr, false, true≢false, length}
use Rattle.base.specs.Prelude.{get_or-set_same, get_or-set_other, not-false, ⊎_elim}
use Rattle.model_laws.specs.Types.{Phase, Idle, Waiting, Write, Scan, Adopt, Compare, Flag, CheckMark, CheckValue, Commit, Exhausted}
use Rattle.model_laws.specs.Types.{Crashed, Decided, HasCommitted, HasAdopted, Process, Session, Access, Counts, Propose, Crash}
use Rattle.model.specs.declared.Status.TheVariants.{Gone}
use Rattle.model.specs.Board.{process_at, idle}
use Rattle.model.specs.Step.{turn, found, process}
use Rattle.model.specs.Refusal.{refusal, status, is_outside, is_gone, stepped}
use Rattle.model.specs.Machine.{access_of, becomes, after, answered, perform}
use Rattle.model_laws.specs.Accepted.{Accepted, accepted}
use Rattle.model_laws.specs.Operations.{stored_same}
use Rattle.model_laws.specs.Phases.{outside_here}
use Rattle.model_poll.specs.Turn.{poll_access, poll_next, phase_answer, answer_of, Carries}
use Rattle.model_poll.specs.Machine.{PollOperation, proposes, turns, crashes, turn_tests, turn_after, turn_counts, given, turned, poll_perform}
use Rattle.model_poll_laws.specs.Answers.{TurnAccepted, turn_accepted}

-- The process of an operation.
abbrev pub poll_process_of : PollOperation → ℕ
poll_process_of (proposes p v) = p
poll_process_of (turns p) = p
poll_process_of (crashes p) = p

-- The poll after it, where it is accepted.
abbrev pub poll_after : (W : ℕ) → Session → PollOperation → Session
poll_after W s (proposes p v) = after W s (Propose p v)
poll_after W s (turns p) = turn_after W s p
poll_after W s (crashes p) = after W s (Crash p)

-- What an accepted operation knows.
abbrev pub PollAccepted : Session → Counts → PollOperation → Type 0
PollAccepted s c (proposes p v) = Accepted s c (Propose p v)
PollAccepted s c (turns p) = TurnAccepted s c p
PollAccepted s c (crashes p) = Accepted s c (Crash p)

-- The number and the poll that the machine answers with are by the first refusal.
stepped_session : (P : ℕ → Session → Type 0) (m : ℕ) (s t : Session) (c d : Counts) → (m ≡ 0 → P 0 t) → ((j : ℕ) → P (suc j) s) →
    P (stepped m s t c d).code (stepped m s t c d).session
stepped_session P zero s t c d done left = done refl
stepped_session P (suc j) s t c d done left = left j

-- What holds of the poll after an accepted operation, and of the poll before a refused one, holds of what the machine leaves.
pub perform_cases : (P : ℕ → Session → Type 0) (W : ℕ) (s : Session) (c : Counts) (o : PollOperation) →
    (PollAccepted s c o → P 0 (poll_after W s o)) → ((k : ℕ) → P (suc k) s) → P (poll_perform W s c o).code (poll_perform W s c o).session
unfolding poll_perform perform answered turned
perform_cases P W s c (proposes p v) done left = stepped_session P _ s _ c _ (λ e. done (accepted s c (Propose p v) e)) left
perform_cases P W s c (turns p) done left = stepped_session P _ s _ c _ (λ e. done (turn_accepted s c p e)) left
perform_cases P W s c (crashes p) done left = stepped_session P _ s _ c _ (λ e. done (accepted s c (Crash p) e)) left

-- What the machine leaves where it accepts.
pub perform_accepted : (W : ℕ) (s : Session) (c : Counts) (o : PollOperation) → (poll_perform W s c o).code ≡ 0 →
    PollAccepted s c o × ((poll_perform W s c o).session ≡ poll_after W s o)
perform_accepted W s c o =
    perform_cases (λ k t. k ≡ 0 → PollAccepted s c o × (t ≡ poll_after W s o)) W s c o (λ a e. (a, refl)) (λ k e. absurd (omega arith))

-- A turn leaves n.
pub turn_size : (W : ℕ) (s : Session) (p : ℕ) → (turn_after W s p).n ≡ s.n
unfolding turn_after turn
turn_size W s p = (stored_same s _ _).n

-- ---- the records

-- A turn changes the record of its own process alone.
pub turn_others : (s : Session) (p : ℕ) (a : Access) (f : ℕ → Process) (o : ℕ) → (o ≡ p → ⊥) → process_at (turn s p a f) o ≡ process_at s o
unfolding turn
turn_others s p a f o other = rw (stored_same s _ _).processes (get_or-set_other s.processes p o _ idle other)

pub turn_own : (s : Session) (p : ℕ) (a : Access) (f : ℕ → Process) → p < length s.processes → process_at (turn s p a f) p ≡ f (found s a)
unfolding turn
turn_own s p a f below = rw (stored_same s _ _).processes (get_or-set_same s.processes p _ idle below)

-- What an accepted operation makes of the record of its process.
abbrev pub poll_becomes : (W : ℕ) → Session → PollOperation → Process
poll_becomes W s (proposes p v) = process Waiting (process_at s p).round v
poll_becomes W s (turns p) = poll_next W s.limit (process_at s p) (found s (poll_access s.limit (process_at s p)))
poll_becomes W s (crashes p) = process Crashed (process_at s p).round (process_at s p).estimate

pub others_stay : (W : ℕ) (s : Session) (o : PollOperation) (p : ℕ) → (p ≡ poll_process_of o → ⊥) →
    process_at (poll_after W s o) p ≡ process_at s p
unfolding after turn_after
others_stay W s (proposes m v) p other = turn_others s m _ _ p other
others_stay W s (turns m) p other = turn_others s m _ _ p other
others_stay W s (crashes m) p other = turn_others s m _ _ p other

pub own_becomes : (W : ℕ) (s : Session) (o : PollOperation) → poll_process_of o < length s.processes →
    process_at (poll_after W s o) (poll_process_of o) ≡ poll_becomes W s o
unfolding after turn_after access_of becomes found
own_becomes W s (proposes m v) below = turn_own s m _ _ below
own_becomes W s (turns m) below = turn_own s m _ _ below
own_becomes W s (crashes m) below = turn_own s m _ _ below

-- ---- the answers

-- The phase of a record that holds an answer with value v, and its estimate.
pub answer_cases : (φ : Phase) (e v : ℕ) → Carries (phase_answer φ e) v → ((φ ≡ HasCommitted) ⊎ (φ ≡ HasAdopted)) × (e ≡ v)
answer_cases Idle e v c = absurd c
answer_cases Waiting e v c = absurd c
answer_cases Write e v c = absurd c
answer_cases (Scan k) e v c = absurd c
answer_cases (Adopt k) e v c = absurd c
answer_cases (Compare i) e v c = absurd c
answer_cases (Flag i) e v c = absurd c
answer_cases (CheckMark i) e v c = absurd c
answer_cases (CheckValue i) e v c = absurd c
answer_cases Commit e v c = absurd c
answer_cases Exhausted e v c = absurd c
answer_cases Crashed e v c = absurd c
answer_cases Decided e v c = absurd c
answer_cases HasCommitted e v c = (inl refl, c)
answer_cases HasAdopted e v c = (inr refl, c)

-- A process with an answer is gone.
pub answer_gone : (q : Process) (v : ℕ) → Carries (answer_of q) v → status q.phase ≡ Gone
unfolding answer_of
answer_gone q v has = ⊎_elim (λ e. rw e refl) (λ e. rw e refl) (answer_cases q.phase q.estimate v has).0

-- No accepted operation is of a process that is gone.
pub accepted_here : (s : Session) (c : Counts) (o : PollOperation) → PollAccepted s c o →
    is_gone (status (process_at s (poll_process_of o)).phase) ≡ false
accepted_here s c (proposes p v) a = outside_here (status (process_at s p).phase)
    (not-false (is_outside (status (process_at s p).phase)) a.own.1.0)
accepted_here s c (turns p) a = a.here
accepted_here s c (crashes p) a = a.own.1.0

-- 02, wish 6: "a turn or crash of an answered seat gives 8". So an answered process keeps its record through every operation.
pub answered_stays : (W : ℕ) (s : Session) (c : Counts) (o : PollOperation) (p v : ℕ) → Carries (answer_of (process_at s p)) v →
    process_at (poll_perform W s c o).session p ≡ process_at s p
answered_stays W s c o p v has =
    perform_cases (λ k t. process_at t p ≡ process_at s p) W s c o
    (λ a.
    others_stay W s o p
    (λ e. true≢false (rw (← e, answer_gone (process_at s p) v has) at (accepted_here s c o a))))
    (λ k. refl)

-- A proposal and a crash give no answer, and a turn that gives one is accepted, and gives the one that its process then has.
pub gives : (W : ℕ) (s : Session) (c : Counts) (o : PollOperation) (v : ℕ) → Carries (poll_perform W s c o).answer v →
    (p : ℕ) × (o ≡ turns p) × ((poll_perform W s c o).code ≡ 0)
    × ((poll_perform W s c o).answer ≡ answer_of (process_at (poll_perform W s c o).session p))
unfolding poll_perform turned
gives W s c (proposes p v) u has = absurd has
gives W s c (turns p) u has = let a = go (refusal (turn_tests s c p)) has in (p, refl, a.0, a.1)
  where
    go : (k : ℕ) →
        let t = stepped k s (turn_after W s p) c (turn_counts s c p) in
        Carries (given t.code (process_at t.session p)) u →
        (t.code ≡ 0) × (given t.code (process_at t.session p) ≡ answer_of (process_at t.session p))
    go zero has = (refl, refl)
    go (suc k) has = absurd has
gives W s c (crashes p) u has = absurd has

-- An accepted turn of process p gives the answer that p then has.
pub turn_gives : (W : ℕ) (s : Session) (c : Counts) (o : PollOperation) (p : ℕ) → o ≡ turns p → (poll_perform W s c o).code ≡ 0 →
    (poll_perform W s c o).answer ≡ answer_of (process_at (poll_perform W s c o).session p)
unfolding poll_perform turned
turn_gives W s c o p own e = rw (own, rw own at e) refl

-- An accepted operation is of one of the n processes.
pub accepted_below : (s : Session) (c : Counts) (o : PollOperation) → PollAccepted s c o → poll_process_of o < s.n
accepted_below s c (proposes p v) a = a.below
accepted_below s c (turns p) a = a.below
accepted_below s c (crashes p) a = a.below
