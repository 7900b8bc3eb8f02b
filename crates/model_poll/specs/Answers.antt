-- What a turn of a poll answers (document 02, wish 6), as the definitions have it, and what the code's answers say in these words
-- (`model/specs/Answers`).
use Rattle.std.specs.Prelude.{ℕ, Result, Ok, Err}
use Rattle.model.specs.declared.refusal.Refusal.{Refusal}
use Rattle.model.specs.declared.Session.{Session}
use Rattle.model.specs.declared.Counts.{Counts}
use Rattle.model.specs.declared.After.{After}
use Rattle.model.specs.Numbers.{number}
use Rattle.model_poll.specs.declared.Answer.{Answer}
use Rattle.model_poll.specs.declared.Answer.TheVariants.{Pending}
use Rattle.model_poll.specs.declared.Polled.{Polled}

-- ---- the answers

-- Of a turn that counts its register operation: the refusal's number or 0, the poll and the counts after it, and what the process got.
pub record PollStepped : Type 0 where
  pub code : ℕ
  pub session : Session
  pub counts : Counts
  pub answer : Answer

-- The same of a turn that is lent the counts.
pub record PollChanged : Type 0 where
  pub code : ℕ
  pub session : Session
  pub answer : Answer

-- ---- what the code's answers say

-- Of a turn of poll s with counts c, which a refused call leaves as they are; it gives no answer.
abbrev pub told_polled_counted : (s : Session) (c : Counts) → Result (After Polled) Refusal → PollStepped
told_polled_counted s c (Ok a) = record { code = 0; session = a.state.session; counts = a.counts; answer = a.state.answer }
told_polled_counted s c (Err e) = record { code = number e; session = s; counts = c; answer = Pending }

-- Of a turn that is lent the counts.
abbrev pub told_polled : (s : Session) → Result Polled Refusal → PollChanged
told_polled s (Ok a) = record { code = 0; session = a.session; answer = a.answer }
told_polled s (Err e) = record { code = number e; session = s; answer = Pending }
