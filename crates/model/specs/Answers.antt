-- Document 01, "Numbers returned": what a call answers. First as the definitions have it: 0 and what was asked for, or the refusal's number
-- and what then stands. Then what the code's answers say, in these words: the code answers a `Result`. 01, "Which form to use where": "An
-- answer may be an enum. In that case, a definition gives this paper's number and values for each of the enum's cases, and the promises use
-- that definition."
use Rattle.std.specs.Prelude.{ℕ, Bool, false, Result, Ok, Err}
use Rattle.model.specs.declared.refusal.Refusal.{Refusal}
use Rattle.model.specs.declared.Process.{Process}
use Rattle.model.specs.declared.Session.{Session}
use Rattle.model.specs.declared.Counts.{Counts}
use Rattle.model.specs.declared.After.{After}
use Rattle.model.specs.declared.Register.{Register}
use Rattle.model.specs.declared.Ended.{Ended}
use Rattle.model.specs.declared.Ended.TheVariants as E
use Rattle.model.specs.declared.Run.{Run}
use Rattle.model.specs.Board.{idle, opened, no_counts}
use Rattle.model.specs.Numbers.{number}

-- ---- the answers

-- Of an operation that changes a session: 0 and the session after it, or the refusal's number and the session as it was.
pub record Changed : Type 0 where
  pub code : ℕ
  pub session : Session

-- Of an operation that also counts its register operation.
pub record Stepped : Type 0 where
  pub code : ℕ
  pub session : Session
  pub counts : Counts

-- Of the read-outs: 0 and what was asked for, or the refusal's number and blank data.
pub record RegisterAnswer : Type 0 where
  pub code : ℕ
  pub value : ℕ
  pub marked : Bool

pub record ProcessAnswer : Type 0 where
  pub code : ℕ
  pub process : Process

pub record DecisionAnswer : Type 0 where
  pub code : ℕ
  pub value : ℕ

-- How many: values that are listed; of the sheet writer (02, wish 3), bytes that are written.
pub record CountAnswer : Type 0 where
  pub code : ℕ
  pub count : ℕ

-- How a run of a sheet ended (01: finished; the refusal and the entry's index; budget ended), or the refusal of the sheet itself, in which
-- case no session was made.
pub data Ending : Type 0 where
  Finished : Ending
  Refused : (code index : ℕ) → Ending
  BudgetEnded : Ending
  Rejected : (code : ℕ) → Ending

-- What a run of a sheet gives: how many entries were carried out, the session and the counts after them, and the ending.
pub record Ran : Type 0 where
  pub carried : ℕ
  pub session : Session
  pub counts : Counts
  pub ending : Ending

-- ---- what the code's answers say

-- The number that is returned: 0 is accepted.
abbrev pub code : {A : Type 0} → Result A Refusal → ℕ
code (Ok x) = 0
code (Err e) = number e

-- Of an operation on session s, which a refused call leaves as it is.
abbrev pub told : (s : Session) → Result Session Refusal → Changed
told s (Ok t) = record { code = 0; session = t }
told s (Err e) = record { code = number e; session = s }

-- The same, with counts c.
abbrev pub told_counted : (s : Session) (c : Counts) → Result (After Session) Refusal → Stepped
told_counted s c (Ok a) = record { code = 0; session = a.state; counts = a.counts }
told_counted s c (Err e) = record { code = number e; session = s; counts = c }

-- Of an opening: refused, no session is made, and the session of no process and no round stands for it.
abbrev pub told_opened : Result Session Refusal → Changed
told_opened r = told (opened 0 0) r

-- Of the read-outs: refused, blank data.
abbrev pub told_register : Result Register Refusal → RegisterAnswer
told_register (Ok r) = record { code = 0; value = r.value; marked = r.marked }
told_register (Err e) = record { code = number e; value = 0; marked = false }

abbrev pub told_process : Result Process Refusal → ProcessAnswer
told_process (Ok q) = record { code = 0; process = q }
told_process (Err e) = record { code = number e; process = idle }

abbrev pub told_decision : Result ℕ Refusal → DecisionAnswer
told_decision (Ok v) = record { code = 0; value = v }
told_decision (Err e) = record { code = number e; value = 0 }

abbrev pub told_count : Result ℕ Refusal → CountAnswer
told_count (Ok n) = record { code = 0; count = n }
told_count (Err e) = record { code = number e; count = 0 }

-- How a run ended.
abbrev pub told_ended : Ended → Ending
told_ended E.Finished = Finished
told_ended (E.Refused e i) = Refused (number e) i
told_ended E.BudgetEnded = BudgetEnded

-- What a run gives.
abbrev pub told_ran : Run → Ran
told_ran r = record { carried = r.carried; session = r.session; counts = r.counts; ending = told_ended r.ended }

-- The same of a sheet that may be refused; then no session is made.
abbrev pub told_run : Result Run Refusal → Ran
told_run (Ok r) = told_ran r
told_run (Err e) = record { carried = 0; session = opened 0 0; counts = no_counts; ending = Rejected (number e) }
