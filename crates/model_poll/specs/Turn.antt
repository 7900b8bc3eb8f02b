-- Document 02, wish 6: a turn of a poll. "Each worker walks the same steps, ending with round W": the turn is that of a session (`Step` of
-- `model`) with hint yes ("without leader hints"), and differs from it in two places alone, the turn at commit and a check that fails.
use Rattle.std.specs.Prelude.{ℕ, ◌+◌, ◌*◌, ◌≡◌, Bool, true, false, cond}
use Rattle.model.specs.declared.Phase.{Phase}
use Rattle.model.specs.declared.Phase.TheVariants.{Idle, Waiting, Write, Scan, Adopt, Compare, Flag, CheckMark}
use Rattle.model.specs.declared.Phase.TheVariants.{CheckValue, Commit, Exhausted, Crashed, Decided, HasCommitted, HasAdopted}
use Rattle.model.specs.declared.Access.{Access}
use Rattle.model.specs.declared.Access.TheVariants.{Nothing, ReadValue, WriteValue, ReadMark, SetMark}
use Rattle.model.specs.declared.Access.TheVariants.{ReadDecision, WriteDecision}
use Rattle.model.specs.declared.Process.{Process}
use Rattle.model.specs.Step.{access, next, process}
use Rattle.model_poll.specs.declared.Answer.{Answer}
use Rattle.model_poll.specs.declared.Answer.TheVariants.{Pending, Commits, Adopts}

-- ---- which register

-- Its turn at commit "writes no D".
unfoldable pub without_decision : Access → Access
without_decision Nothing = Nothing
without_decision (ReadValue r) = ReadValue r
without_decision (WriteValue r) = WriteValue r
without_decision (ReadMark r) = ReadMark r
without_decision (SetMark r) = SetMark r
without_decision ReadDecision = ReadDecision
without_decision WriteDecision = Nothing

unfoldable pub poll_access : (limit : ℕ) → Process → Access
poll_access L q = without_decision (access L q true)

-- ---- what the process becomes

-- 01: gate.
abbrev pub is_waiting : Phase → Bool
is_waiting Idle = false
is_waiting Waiting = true
is_waiting Write = false
is_waiting (Scan k) = false
is_waiting (Adopt k) = false
is_waiting (Compare i) = false
is_waiting (Flag i) = false
is_waiting (CheckMark i) = false
is_waiting (CheckValue i) = false
is_waiting Commit = false
is_waiting Exhausted = false
is_waiting Crashed = false
is_waiting Decided = false
is_waiting HasCommitted = false
is_waiting HasAdopted = false

-- The phase after a turn, by the phase before it and the one that a session's turn leaves. In a session a check that fails and the turn at
-- commit lead back to gate; here "its turn at commit answers committed with its value ..; where a check of that round fails it answers
-- adopted with its value".
unfoldable pub ending : (before left : Phase) → Phase
ending Idle left = left
ending Waiting left = left
ending Write left = left
ending (Scan k) left = left
ending (Adopt k) left = left
ending (Compare i) left = left
ending (Flag i) left = left
ending (CheckMark i) left = cond (is_waiting left) HasAdopted left
ending (CheckValue i) left = cond (is_waiting left) HasAdopted left
ending Commit left = HasCommitted
ending Exhausted left = left
ending Crashed left = left
ending Decided left = left
ending HasCommitted left = left
ending HasAdopted left = left

unfoldable pub poll_next : (W L : ℕ) → Process → (x : ℕ) → Process
poll_next W L q x = let r = next W L q true x in process (ending q.phase r.phase) r.round r.estimate

-- ---- the answer

-- The answer that a record holds: "committed with its value", "adopted with its value"; none yet in every other phase.
abbrev pub phase_answer : Phase → (estimate : ℕ) → Answer
phase_answer Idle e = Pending
phase_answer Waiting e = Pending
phase_answer Write e = Pending
phase_answer (Scan k) e = Pending
phase_answer (Adopt k) e = Pending
phase_answer (Compare i) e = Pending
phase_answer (Flag i) e = Pending
phase_answer (CheckMark i) e = Pending
phase_answer (CheckValue i) e = Pending
phase_answer Commit e = Pending
phase_answer Exhausted e = Pending
phase_answer Crashed e = Pending
phase_answer Decided e = Pending
phase_answer HasCommitted e = Commits e
phase_answer HasAdopted e = Adopts e

unfoldable pub answer_of : Process → Answer
answer_of q = phase_answer q.phase q.estimate

-- There is one; and it is committed.
abbrev pub is_answered : Answer → Bool
is_answered Pending = false
is_answered (Commits u) = true
is_answered (Adopts u) = true

abbrev pub is_committed : Answer → Bool
is_committed Pending = false
is_committed (Commits u) = true
is_committed (Adopts u) = false

-- The answer is committed or adopted, and its value is v.
abbrev pub Carries : Answer → (v : ℕ) → Type 0
Carries Pending v = ⊥
Carries (Commits u) v = u ≡ v
Carries (Adopts u) v = u ≡ v

-- "One pass": the most turns that a process can take, in a poll with window W.
abbrev pub pass_turns : (W : ℕ) → ℕ
pass_turns W = W * W + 6 * W + 1
