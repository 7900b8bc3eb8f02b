-- The machine of polls (document 02, wish 6). It is fed proposals, turns and crashes, and never a poll; proposals and crashes are those of
-- a session.
use Rattle.std.specs.Prelude.{ℕ, suc, zero, List}
use Rattle.model.specs.declared.Process.{Process}
use Rattle.model.specs.declared.Session.{Session}
use Rattle.model.specs.declared.Counts.{Counts}
use Rattle.model.specs.declared.Operation.TheVariants.{Propose, Crash}
use Rattle.model.specs.declared.Caller.{Caller}
use Rattle.model.specs.declared.Limits.{Limits}
use Rattle.model.specs.Answers.{Changed, Stepped}
use Rattle.model.specs.Window.{window}
use Rattle.model.specs.Board.{limits_of, process_at}
use Rattle.model.specs.Step.{found, turn, counted}
use Rattle.model.specs.Refusal.{Test, refusal, learn_tests, process_tests, stepped}
use Rattle.model.specs.Machine.{opening_for, perform}
use Rattle.model_poll.specs.declared.Answer.{Answer}
use Rattle.model_poll.specs.declared.Answer.TheVariants.{Pending}
use Rattle.model_poll.specs.Answers.{PollStepped}
use Rattle.model_poll.specs.Turn.{poll_access, poll_next, answer_of}

-- "A poll has L = W": the session's opening with that limit, within a caller's limits, at window W (02, wish 7: "the window a parameter of
-- the machine .. Polls are covered too").
unfoldable pub poll_opening_for : Limits → (W n : ℕ) → Changed
poll_opening_for most W n = opening_for most W n W

-- In service: within the caller's limits (02, wish 9: "Opening, of polls too .. take the caller's limits"), at the window of n. (So 1 alone
-- can refuse it: `model_poll_laws`, `poll_opening_code`.)
abbrev pub poll_opening : Caller → (n : ℕ) → Changed
poll_opening caller n = poll_opening_for (limits_of caller) (window n) n

-- ---- a turn

-- "Numbers 1, 3 to 8 and 16 in the sessions' order; a turn or crash of an answered seat gives 8": after 3, those of a turn are 4, 7, 8, 16,
-- which are a look's. No poll has a spent process, and no turn gives 9.
abbrev pub turn_tests : Session → Counts → (p : ℕ) → List Test
turn_tests s c p = process_tests s p (λ φ. learn_tests φ c)

-- The poll and the counts after an accepted turn of process p.
unfoldable pub turn_after : (W : ℕ) → Session → (p : ℕ) → Session
turn_after W s p = let q = process_at s p in turn s p (poll_access s.limit q) (poll_next W s.limit q)

unfoldable pub turn_counts : Session → Counts → (p : ℕ) → Counts
turn_counts s c p = let a = poll_access s.limit (process_at s p) in counted a (found s a) c

-- The answer that the turn gives: the one that the record then holds; refused, it gives none.
abbrev pub given : (code : ℕ) → Process → Answer
given zero q = answer_of q
given (suc k) q = Pending

abbrev pub polled : Stepped → (p : ℕ) → PollStepped
polled a p =
    record {
      code = a.code;
      session = a.session;
      counts = a.counts;
      answer = given a.code (process_at a.session p);
    }

-- A turn of process p that brings the counts c, after the given tests.
unfoldable pub turned : List Test → (W : ℕ) → Session → Counts → (p : ℕ) → PollStepped
turned ts W s c p = polled (stepped (refusal ts) s (turn_after W s p) c (turn_counts s c p)) p

-- ---- the machine

-- 02, wish 6: "proposals, turns and crashes", each with what it brings: the process, and the number proposed.
pub data PollOperation : Type 0 where
  proposes : (p v : ℕ) → PollOperation
  turns : (p : ℕ) → PollOperation
  crashes : (p : ℕ) → PollOperation

-- A proposal and a crash give no answer.
abbrev pub unanswered : Stepped → PollStepped
unanswered a = record { code = a.code; session = a.session; counts = a.counts; answer = Pending }

-- What the machine at window W answers.
unfoldable pub poll_perform : (W : ℕ) → Session → Counts → PollOperation → PollStepped
poll_perform W s c (proposes p v) = unanswered (perform W s c (Propose p v))
poll_perform W s c (turns p) = turned (turn_tests s c p) W s c p
poll_perform W s c (crashes p) = unanswered (perform W s c (Crash p))
