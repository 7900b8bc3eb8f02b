-- How a paper case of a poll is played on the machine of polls, and what it is said to show.
use Rattle.std.specs.Prelude.{ℕ, suc, Bool, true, false, ◌&&◌, List, [], ◌∷◌, eqb}
use Rattle.model.specs.declared.Caller.TheVariants.{Server}
use Rattle.model.specs.declared.Session.{Session}
use Rattle.model.specs.Window.{window}
use Rattle.model.specs.Board.{process_at, no_counts}
use Rattle.model.specs.Sound.{every}
use Rattle.model.specs.Public.{with_counts}
use Rattle.model_cases.specs.Play.{Shows, played_all, shown}
use Rattle.model_poll.specs.declared.Answer.{Answer}
use Rattle.model_poll.specs.declared.Answer.TheVariants.{Pending, Commits, Adopts}
use Rattle.model_poll.specs.Answers.{PollStepped}
use Rattle.model_poll.specs.Turn.{answer_of}
use Rattle.model_poll.specs.Machine.{PollOperation, poll_opening, poll_perform, unanswered}

-- The machine of n processes after one operation: its number, the poll, the counts and the answer that it gives.
played : (n : ℕ) → PollStepped → PollOperation → PollStepped
played n t o = poll_perform (window n) t.session t.counts o

-- Opened by the server with n processes, and an empty tally.
play : (n : ℕ) → List PollOperation → PollStepped
unfolding played
play n os = played_all (played n) (unanswered (with_counts (poll_opening Server n) no_counts)) os

answer_eq : Answer → Answer → Bool
answer_eq Pending Pending = true
answer_eq Pending (Commits v) = false
answer_eq Pending (Adopts v) = false
answer_eq (Commits u) Pending = false
answer_eq (Commits u) (Commits v) = eqb u v
answer_eq (Commits u) (Adopts v) = false
answer_eq (Adopts u) Pending = false
answer_eq (Adopts u) (Commits v) = false
answer_eq (Adopts u) (Adopts v) = eqb u v

-- The answers that the records of the processes p, p + 1, .. keep.
kept_from : Session → (p : ℕ) → List Answer → Bool
unfolding answer_eq
kept_from s p [] = true
kept_from s p (a ∷ rest) = answer_eq (answer_of (process_at s p)) a && kept_from s (suc p) rest

-- A row of the table: the opening, the operations, the answer that the last of them gives, the answers that the records then keep, from
-- process 0 on, and what else the state shows, as in the cases of sessions.
pub record PollCase : Type 0 where
  pub n : ℕ
  pub operations : List PollOperation
  pub gives : Answer
  pub keeps : List Answer
  pub shows : List Shows

unfoldable pub holds : PollCase → Bool
unfolding play answer_eq kept_from shown
holds c =
    let t = play c.n c.operations in
    answer_eq t.answer c.gives
    && kept_from t.session 0 c.keeps
    && every (shown (record { code = t.code; session = t.session; counts = t.counts })) c.shows
