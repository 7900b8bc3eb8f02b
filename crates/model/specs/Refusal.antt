-- Document 01, "Numbers returned": the refusals, and the order of their tests.
use Rattle.std.specs.Prelude.{ℕ, suc, zero, Bool, true, false, cond, not, ◌&&◌, ◌||◌, List, [], ◌∷◌, leb, eqb}
use Rattle.model.specs.declared.Phase.{Phase}
use Rattle.model.specs.declared.Phase.TheVariants.{Idle, Waiting, Write, Scan, Adopt, Compare, Flag, CheckMark}
use Rattle.model.specs.declared.Phase.TheVariants.{CheckValue, Commit, Exhausted, Crashed, Decided, HasCommitted, HasAdopted}
use Rattle.model.specs.declared.Status.{Status}
use Rattle.model.specs.declared.Status.TheVariants.{Outside, Active, Spent, Gone}
use Rattle.model.specs.declared.Session.{Session}
use Rattle.model.specs.declared.Counts.{Counts}
use Rattle.model.specs.declared.Limits.{Limits}
use Rattle.model.specs.declared.Operation.{Operation}
use Rattle.model.specs.declared.Operation.TheVariants.{Propose, Step, Learn, Crash}
use Rattle.model.specs.Answers.{Changed, Stepped}
use Rattle.model.specs.Window.{window}
use Rattle.model.specs.Board.{process_at}
use Rattle.model.specs.Numbers.{bad_process_count, bad_round_limit, no_such_process, blank_proposal, second_proposal}
use Rattle.model.specs.Numbers.{process_out, process_gone, process_spent, counts_full, closed_to_proposals}

-- A test that refuses, and the number that is then returned.
abbrev pub Test : Type 0
Test = Bool × ℕ

-- The number of the first test that holds, in the order of the list; 0, accepted, where none does.
abbrev pub refusal : List Test → ℕ
refusal [] = 0
refusal (t ∷ ts) = cond t.0 t.1 (refusal ts)

-- ---- the situations of a process

-- 01: "seat out"; working, "gate to commit"; "seat spent"; "seat crashed or decided". 02, wish 6: "a turn or crash of an answered seat
-- gives 8".
abbrev pub status : Phase → Status
status Idle = Outside
status Waiting = Active
status Write = Active
status (Scan k) = Active
status (Adopt k) = Active
status (Compare i) = Active
status (Flag i) = Active
status (CheckMark i) = Active
status (CheckValue i) = Active
status Commit = Active
status Exhausted = Spent
status Crashed = Gone
status Decided = Gone
status HasCommitted = Gone
status HasAdopted = Gone

abbrev pub is_outside : Status → Bool
is_outside Outside = true
is_outside Active = false
is_outside Spent = false
is_outside Gone = false

abbrev pub is_active : Status → Bool
is_active Outside = false
is_active Active = true
is_active Spent = false
is_active Gone = false

abbrev pub is_spent : Status → Bool
is_spent Outside = false
is_spent Active = false
is_spent Spent = true
is_spent Gone = false

abbrev pub is_gone : Status → Bool
is_gone Outside = false
is_gone Active = false
is_gone Spent = false
is_gone Gone = true

-- 01: "seat .. decided" alone.
abbrev pub is_decided : Phase → Bool
is_decided Idle = false
is_decided Waiting = false
is_decided Write = false
is_decided (Scan k) = false
is_decided (Adopt k) = false
is_decided (Compare i) = false
is_decided (Flag i) = false
is_decided (CheckMark i) = false
is_decided (CheckValue i) = false
is_decided Commit = false
is_decided Exhausted = false
is_decided Crashed = false
is_decided Decided = true
is_decided HasCommitted = false
is_decided HasAdopted = false

-- The largest count, 2 ^ 32 - 1.
abbrev pub max_count : ℕ
max_count = 4294967295

-- 01: "some tally count already 4,294,967,295".
unfoldable pub full : Counts → Bool
full c = leb max_count c.reads || leb max_count c.writes || leb max_count c.contested

-- ---- the tests of each operation, in their order

-- Opening with n processes and round limit L, within a caller's limits, at window W: 1, 2. (02, wish 9: "1 and 2 speak of the caller's
-- limits".)
abbrev pub open_tests_for : Limits → (W n L : ℕ) → List Test
open_tests_for most W n L =
    (not (leb 1 n && leb n most.processes), bad_process_count)
    ∷ (not (leb W L && leb L most.rounds), bad_round_limit)
    ∷ []

-- In service: at the window of n.
abbrev pub open_tests : Limits → (n L : ℕ) → List Test
open_tests most n L = open_tests_for most (window n) n L

-- The operations' own tests, by the phase of the process that they name. Proposal: 5, 6. 02, wish 10: "18: proposal to a closed session,
-- tested last, after 6".
abbrev pub propose_tests : (closed : Bool) → Phase → (v : ℕ) → List Test
propose_tests closed φ v =
    (eqb v 0, blank_proposal) ∷ (not (is_outside (status φ)), second_proposal) ∷ (closed, closed_to_proposals) ∷ []

-- Work: 7, 8, 9, 16.
abbrev pub step_tests : Phase → Counts → List Test
step_tests φ c =
    (is_outside (status φ), process_out)
    ∷ (is_gone (status φ), process_gone)
    ∷ (is_spent (status φ), process_spent)
    ∷ (full c, counts_full)
    ∷ []

-- Look: 7, 8, 16.
abbrev pub learn_tests : Phase → Counts → List Test
learn_tests φ c = (is_outside (status φ), process_out) ∷ (is_gone (status φ), process_gone) ∷ (full c, counts_full) ∷ []

-- Crash: 7, 8.
abbrev pub crash_tests : Phase → List Test
crash_tests φ = (is_outside (status φ), process_out) ∷ (is_gone (status φ), process_gone) ∷ []

-- In front of them 4, of an operation that names process p.
abbrev pub process_tests : Session → (p : ℕ) → (own : Phase → List Test) → List Test
process_tests s p own = (leb s.n p, no_such_process) ∷ own (process_at s p).phase

-- "Order: .. Proposal 3, 4, 5, 6. Work 3, 4, 7, 8, 9, 16. Look 3, 4, 7, 8, 16. Crash 3, 4, 7, 8." (3, session not sound, is in front of
-- all in `Public`.) 02, wish 10, "proposals are then refused and all else goes on": no other test reads the closed mark.
abbrev pub tests : Session → Counts → Operation → List Test
tests s c (Propose p v) = process_tests s p (λ φ. propose_tests s.closed φ v)
tests s c (Step p leader) = process_tests s p (λ φ. step_tests φ c)
tests s c (Learn p) = process_tests s p (λ φ. learn_tests φ c)
tests s c (Crash p) = process_tests s p crash_tests

-- ---- the answers

-- By the number of the refusal: 0 and the session after, or the number and the session before.
abbrev pub changed : ℕ → (before after : Session) → Changed
changed zero before after = record { code = 0; session = after }
changed (suc k) before after = record { code = suc k; session = before }

-- The same with the counts.
abbrev pub stepped : ℕ → (before after : Session) → (counts counts' : Counts) → Stepped
stepped zero before after c c' = record { code = 0; session = after; counts = c' }
stepped (suc k) before after c c' = record { code = suc k; session = before; counts = c }
