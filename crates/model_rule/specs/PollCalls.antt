-- Polls as a machine, and lists of calls on them (02, wish 6: "any order of proposals, turns and crashes from an opening"; `System`).
use Rattle.std.specs.Prelude.{ℕ, suc, Bool, false, cond, ◌&&◌, List, [], ◌∷◌, eqb}
use Rattle.model.specs.declared.Session.{Session}
use Rattle.model.specs.declared.Counts.{Counts}
use Rattle.model.specs.Window.{window}
use Rattle.model.specs.Board.{process_at}
use Rattle.model.specs.Public.{with_counts}
use Rattle.model_poll.specs.Answers.{PollStepped}
use Rattle.model_poll.specs.Machine.{PollOperation, proposes, turns, crashes, unanswered, poll_perform}
use Rattle.model_poll.specs.Public.{poll_propose_for, poll_turn_for, poll_crash_for}
use Rattle.model_rule.specs.Event.{Event, proposal, step_events}
use Rattle.model_rule.specs.System.{System, Call, Run}
use Rattle.model_rule.specs.Calls.{Input}

-- The events of an accepted operation, by the record of its process: as in sessions (`events_of`).
abbrev pub poll_events_of : Session → PollOperation → List Event
poll_events_of s (proposes p v) = proposal v ∷ []
poll_events_of s (turns p) = let q = process_at s p in step_events p q.round q.estimate q.phase
poll_events_of s (crashes p) = []

-- The machine of polls at window W.
abbrev pub polls : (W : ℕ) → System Session (Input PollOperation) PollStepped Event
polls W =
    record {
      perform = λ s f. poll_perform W s f.counts f.operation;
      state = λ a. a.session;
      code = λ a. a.code;
      accepted = λ s f. poll_events_of s f.operation;
    }

-- One call. Its answer has the counts as they stand afterwards.
abbrev pub PollCall : Type 0
PollCall = Call (Input PollOperation) PollStepped

-- What the called operation answers at window W, given poll s. (A proposal and a crash are lent no counts, theirs are any and stand as they
-- stood; and they give no answer.)
abbrev pub poll_promised_for : (W : ℕ) → Session → Counts → PollOperation → PollStepped
poll_promised_for W s c (proposes p v) = unanswered (with_counts (poll_propose_for W s p v) c)
poll_promised_for W s c (turns p) = poll_turn_for W s p c
poll_promised_for W s c (crashes p) = unanswered (with_counts (poll_crash_for W s p) c)

-- In service, at the window of the poll's n: what the contract of the called function says, `poll_change::propose`, `poll_turn_lent::turn`,
-- `poll_change::crash` (`theory_functions`).
abbrev pub poll_promised : Session → Counts → PollOperation → PollStepped
poll_promised s c o = poll_promised_for (window s.n) s c o

-- A list of calls, where w n is the window of n processes: "each call of a run or order gets the .. poll .. that the one before left".
abbrev pub PollRunWith : (w : ℕ → ℕ) → Session → List PollCall → Session → Type 0
PollRunWith w =
    Run (λ (a : PollStepped). a.session)
    (λ (s : Session) (f : Input PollOperation). poll_promised_for (w s.n) s f.counts f.operation)

-- How many of the calls are accepted turns of process p.
abbrev pub is_turn_of : (p : ℕ) → PollOperation → Bool
is_turn_of p (proposes o v) = false
is_turn_of p (turns o) = eqb o p
is_turn_of p (crashes o) = false

abbrev pub turns_of : (p : ℕ) → List PollCall → ℕ
turns_of p [] = 0
turns_of p (c ∷ cs) = cond (eqb c.answer.code 0 && is_turn_of p c.input.operation) (suc (turns_of p cs)) (turns_of p cs)
