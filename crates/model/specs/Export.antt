-- Document 01, "Turn sheets", last paragraph: what the clinic server, written in C, gets for a sheet, a budget and a buffer.
use Rattle.std.specs.Prelude.{ℕ, cond, List, [], ◌∷◌, ◌++◌, length, eqb}
use Rattle.model.specs.declared.Phase.{Phase}
use Rattle.model.specs.declared.Phase.TheVariants.{Idle, Waiting, Write, Scan, Adopt, Compare, Flag, CheckMark}
use Rattle.model.specs.declared.Phase.TheVariants.{CheckValue, Commit, Exhausted, Crashed, Decided, HasCommitted, HasAdopted}
use Rattle.model.specs.declared.Process.{Process}
use Rattle.model.specs.declared.Caller.TheVariants.{Server}
use Rattle.model.specs.Answers.{Ending, Finished, Refused, BudgetEnded, Rejected}
use Rattle.model.specs.Bytes.{bytes32}
use Rattle.model.specs.Numbers.{bad_buffer, budget_ended}
use Rattle.model.specs.Runner.{run}

-- A process' decided value, "or 0 where there is none".
abbrev pub decided_value : Phase → (estimate : ℕ) → ℕ
decided_value Idle e = 0
decided_value Waiting e = 0
decided_value Write e = 0
decided_value (Scan k) e = 0
decided_value (Adopt k) e = 0
decided_value (Compare i) e = 0
decided_value (Flag i) e = 0
decided_value (CheckMark i) e = 0
decided_value (CheckValue i) e = 0
decided_value Commit e = 0
decided_value Exhausted e = 0
decided_value Crashed e = 0
decided_value Decided e = e
decided_value HasCommitted e = 0
decided_value HasAdopted e = 0

-- 01: "for s from 0 to 63, bytes 4s to 4s + 3 hold seat s's decided value, little-endian, or 0 where there is none."
abbrev pub decided_bytes : List Process → List ℕ
decided_bytes [] = []
decided_bytes (q ∷ qs) = bytes32 (decided_value q.phase q.estimate) ++ decided_bytes qs

-- "0 for finished, 100 for budget ended, or the refusal."
abbrev pub ending_code : Ending → ℕ
ending_code Finished = 0
ending_code (Refused k i) = k
ending_code BudgetEnded = budget_ended
ending_code (Rejected k) = k

-- "After 15, 1, 2, 10, 11, 12 the buffer is unchanged": where no session was made it is as it was.
abbrev pub ending_buffer : Ending → List Process → (buffer : List ℕ) → List ℕ
ending_buffer Finished qs b = decided_bytes qs
ending_buffer (Refused k i) qs b = decided_bytes qs
ending_buffer BudgetEnded qs b = decided_bytes qs
ending_buffer (Rejected k) qs b = b

-- 01: "a buffer of exactly 256 bytes .. 15 is tested first." 02, wish 9: "the C entry and the report use the server's" limits.
unfoldable pub export_code : (sheet : List ℕ) (budget : ℕ) (buffer : List ℕ) → ℕ
export_code s budget b = cond (eqb (length b) 256) (ending_code (run Server s budget).ending) bad_buffer

unfoldable pub export_buffer : (sheet : List ℕ) (budget : ℕ) (buffer : List ℕ) → List ℕ
export_buffer s budget b =
    let r = run Server s budget in
    cond (eqb (length b) 256) (ending_buffer r.ending r.session.processes b) b
