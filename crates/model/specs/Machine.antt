-- The Janus machine (document 01, "One turn at a time" and "The agreement rule"): it is fed operations, and closes (02,
-- wish 10), and never a session. A call that the table refuses leaves it as it is. Its states are sessions; it tests none for soundness.
use Rattle.std.specs.Prelude.{ℕ, List}
use Rattle.model.specs.declared.Phase.TheVariants.{Waiting, Crashed}
use Rattle.model.specs.declared.Access.{Access}
use Rattle.model.specs.declared.Access.TheVariants.{Nothing, ReadDecision}
use Rattle.model.specs.declared.Process.{Process}
use Rattle.model.specs.declared.Session.{Session}
use Rattle.model.specs.declared.Counts.{Counts}
use Rattle.model.specs.declared.Caller.{Caller}
use Rattle.model.specs.declared.Limits.{Limits}
use Rattle.model.specs.declared.Operation.{Operation}
use Rattle.model.specs.declared.Operation.TheVariants.{Propose, Step, Learn, Crash}
use Rattle.model.specs.Answers.{Changed, Stepped}
use Rattle.model.specs.Window.{window}
use Rattle.model.specs.Board.{process_at, opened, limits_of, with_closed}
use Rattle.model.specs.Step.{access, next, learnt, found, turn, counted, process}
use Rattle.model.specs.Refusal.{Test, refusal, open_tests_for, tests, changed, stepped}

-- ---- opening

-- Opening within a caller's limits, at window W: 02, wish 7, has "the window a parameter of the machine". Refused, no session is made: the
-- answer holds the session of no process and no round, which is not sound.
unfoldable pub opening_for : Limits → (W n L : ℕ) → Changed
opening_for most W n L = changed (refusal (open_tests_for most W n L)) (opened 0 0) (opened n L)

-- In service: within the caller's limits (02, wish 9: "Opening .. take the caller's limits"), at the window of n.
abbrev pub opening : Caller → (n L : ℕ) → Changed
opening caller n L = opening_for (limits_of caller) (window n) n L

-- ---- one operation: its process, what it accesses, and what the process becomes

-- The process that an operation names.
abbrev pub process_of : Operation → ℕ
process_of (Propose p v) = p
process_of (Step p leader) = p
process_of (Learn p) = p
process_of (Crash p) = p

-- The one register operation, by the record q of the process: a proposal and a crash have none; a work turn as its phase says; "A look
-- reads D".
unfoldable pub access_of : (limit : ℕ) → Process → Operation → Access
access_of L q (Propose p v) = Nothing
access_of L q (Step p leader) = access L q leader
access_of L q (Learn p) = ReadDecision
access_of L q (Crash p) = Nothing

-- What the process becomes by the value x that was read, at window W: "A proposal moves a seat from out to gate with own value v"; a work
-- turn and a look as `Step` has them; "A crash moves a working or spent seat to crashed; round and own value remain".
unfoldable pub becomes : (W L : ℕ) → Process → Operation → (x : ℕ) → Process
becomes W L q (Propose p v) x = process Waiting q.round v
becomes W L q (Step p leader) x = next W L q leader x
becomes W L q (Learn p) x = learnt q x
becomes W L q (Crash p) x = process Crashed q.round q.estimate

-- ---- the machine

-- The session after an accepted operation.
unfoldable pub after : (W : ℕ) → Session → Operation → Session
after W s o =
    let q = process_at s (process_of o) in
    turn s (process_of o) (access_of s.limit q o) (becomes W s.limit q o)

-- The counts after it.
unfoldable pub counts_after : Session → Counts → Operation → Counts
counts_after s c o = let a = access_of s.limit (process_at s (process_of o)) o in counted a (found s a) c

-- An operation that brings the counts c, after the given tests: the number, the session and the counts.
unfoldable pub answered : List Test → (W : ℕ) → Session → Counts → Operation → Stepped
answered ts W s c o = stepped (refusal ts) s (after W s o) c (counts_after s c o)

-- What the machine at window W answers to an operation of a process.
unfoldable pub perform : (W : ℕ) → Session → Counts → Operation → Stepped
perform W s c o = answered (tests s c o) W s c o

-- What a session is told: an operation of one of its processes, or a close (02, wish 10), which names none.
pub data Command : Type 0 where
  acts : Operation → Command
  closes : Command

-- What the machine answers to a command. 02, wish 10: "A close sets it", the closed mark, "also where it is set already". A close makes no
-- register operation and counts nothing, and the machine never refuses one.
unfoldable pub execute : (W : ℕ) → Session → Counts → Command → Stepped
execute W s c (acts o) = perform W s c o
execute W s c closes = record { code = 0; session = with_closed s; counts = c }
