-- Sessions as a machine, and lists of calls on them (document 01, "The agreement rule"; `System`).
use Rattle.std.specs.Prelude.{ℕ, List}
use Rattle.model.specs.declared.Session.{Session}
use Rattle.model.specs.declared.Counts.{Counts}
use Rattle.model.specs.declared.Operation.TheVariants.{Propose, Step, Learn, Crash}
use Rattle.model.specs.Answers.{Stepped}
use Rattle.model.specs.Window.{window}
use Rattle.model.specs.Machine.{Command, acts, closes, execute}
use Rattle.model.specs.Public.{with_counts, propose_for, step_for, learn_for, crash_for, close_for}
use Rattle.model_rule.specs.Event.{Event, command_events}
use Rattle.model_rule.specs.System.{System, Call, Run}

-- "For each call the machine is fed the operation with its seat, number, hint and tally, as far as it has them, and never the session."
pub record Input (Operation : Type 0) : Type 0 where
  pub operation : Operation
  pub counts : Counts

-- The machine of sessions at window W. 02, wish 10: "The agreement rule takes closes among its operations".
abbrev pub sessions : (W : ℕ) → System Session (Input Command) Stepped Event
sessions W =
    record {
      perform = λ s f. execute W s f.counts f.operation;
      state = λ a. a.session;
      code = λ a. a.code;
      accepted = λ s f. command_events s f.operation;
    }

-- One call. Its answer has the counts as they stand afterwards.
abbrev pub SessionCall : Type 0
SessionCall = Call (Input Command) Stepped

-- What the called operation answers at window W, given session s. (A proposal, a crash and a close are lent no counts: theirs are any, and
-- stand as they stood.)
abbrev pub promised_for : (W : ℕ) → Session → Counts → Command → Stepped
promised_for W s c (acts (Propose p v)) = with_counts (propose_for W s p v) c
promised_for W s c (acts (Step p leader)) = step_for W s p leader c
promised_for W s c (acts (Learn p)) = learn_for W s p c
promised_for W s c (acts (Crash p)) = with_counts (crash_for W s p) c
promised_for W s c closes = with_counts (close_for W s) c

-- In service, at the window of the session's n: what the contract of the called function says, `session_propose::propose`,
-- `session_step_lent::step`, `session_step_lent::learn`, `session_crash::crash`, `session_close::close` (`theory_functions`).
abbrev pub promised : Session → Counts → Command → Stepped
promised s c o = promised_for (window s.n) s c o

-- A list of calls, where w n is the window of n processes: "Each call is given the session that the last one returned or, refused, left."
abbrev pub RunWith : (w : ℕ → ℕ) → Session → List SessionCall → Session → Type 0
RunWith w = Run (λ (a : Stepped). a.session) (λ (s : Session) (f : Input Command). promised_for (w s.n) s f.counts f.operation)
