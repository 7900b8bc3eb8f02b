-- What is said of any machine, and of lists of calls, newest first. Sessions and polls are two such machines (`Calls`, `PollCalls`), and
-- houses a third (`Rule` of `model_house`).
use Rattle.std.specs.Prelude.{ℕ, zero, suc, ◌≡◌, List, [], ◌∷◌, ◌++◌}
use Rattle.model.specs.Numbers.{unsound}

-- ---- the machine

-- What the machine answers to an input, the state and the number in an answer, and the events that an input has where it is accepted.
pub record System (State Input Answer Event : Type 0) : Type 0 where
  pub perform : State → Input → Answer
  pub state : Answer → State
  pub code : Answer → ℕ
  pub accepted : State → Input → List Event

-- What an input adds to the past: an accepted one its events, a refused one none.
abbrev pub if_accepted : {Event : Type 0} → (code : ℕ) → List Event → List Event
if_accepted zero es = es
if_accepted (suc k) es = []

-- ---- the calls

-- One call: what was fed, and the answer that came back.
pub record Call (Input Answer : Type 0) : Type 0 where
  pub input : Input
  pub answer : Answer

-- What the calls were fed.
abbrev pub inputs : {Input Answer : Type 0} → List (Call Input Answer) → List Input
inputs [] = []
inputs (c ∷ cs) = c.input ∷ inputs cs

-- A list of calls, and the state that they come to: each is given the state that the one before left, and answers as promised.
pub data Run {State Input Answer : Type 0} (state : Answer → State) (promised : State → Input → Answer) (start : State) :
    List (Call Input Answer) → State → Type 0 where
  none : Run state promised start [] start
  call : {cs : List (Call Input Answer)} {s : State} → Run state promised start cs s → (c : Call Input Answer) →
      c.answer ≡ promised s c.input → Run state promised start (c ∷ cs) (state c.answer)

module _ {State Input Answer Event : Type 0} (M : System State Input Answer Event) where
  -- The machine, begun at a state, after a list of inputs.
  abbrev pub machine : State → List Input → State
  machine start [] = start
  machine start (f ∷ fs) = M.state (M.perform (machine start fs) f)

  -- The past of the machine.
  abbrev pub events : State → Input → List Event
  events s f = if_accepted (M.code (M.perform s f)) (M.accepted s f)

  abbrev pub past : State → List Input → List Event
  past start [] = []
  past start (f ∷ fs) = events (machine start fs) f ++ past start fs

  -- Each call is answered as the machine answers that is fed the same inputs, and never with 3, "session not sound".
  abbrev pub EachAsTheMachine : State → List (Call Input Answer) → Type 0
  EachAsTheMachine start [] = Unit {0}
  EachAsTheMachine start (c ∷ cs) =
      (c.answer ≡ M.perform (machine start (inputs cs)) c.input) × (M.code c.answer ≡ unsound → ⊥) × EachAsTheMachine start cs

  -- P holds of the start and no calls, and after each call of the state that it left and the calls up to it.
  abbrev pub AfterEach : (P : State → List (Call Input Answer) → Type 0) → State → List (Call Input Answer) → Type 0
  AfterEach P start [] = P start []
  AfterEach P start (c ∷ cs) = P (M.state c.answer) (c ∷ cs) × AfterEach P start cs
