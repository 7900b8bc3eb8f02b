-- Document 01, "One turn at a time": what an accepted turn does. A turn makes at most one register operation. So it is
-- given in three parts: which register it accesses (`access`), what the process becomes by the value read (`next`), and
-- what is written (`stored`). The counts follow from the access and, at a flag write, from the mark that it found (`counted`).
use Rattle.std.specs.Prelude.{ℕ, ◌+◌, ◌-◌, min, Bool, true, false, cond, set, leb, ltb, eqb}
use Rattle.model.specs.declared.Phase.{Phase}
use Rattle.model.specs.declared.Phase.TheVariants.{Idle, Waiting, Write, Scan, Adopt, Compare, Flag, CheckMark}
use Rattle.model.specs.declared.Phase.TheVariants.{CheckValue, Commit, Exhausted, Crashed, Decided, HasCommitted, HasAdopted}
use Rattle.model.specs.declared.Access.{Access}
use Rattle.model.specs.declared.Access.TheVariants.{Nothing, ReadValue, WriteValue, ReadMark, SetMark}
use Rattle.model.specs.declared.Access.TheVariants.{ReadDecision, WriteDecision}
use Rattle.model.specs.declared.Process.{Process}
use Rattle.model.specs.declared.Session.{Session}
use Rattle.model.specs.declared.Counts.{Counts}
use Rattle.model.specs.Board.{value_at, mark_at, process_at, with_values, with_marks, with_decision, with_process}

-- ---- a process that waits

-- gate, which of its rules holds: of three answers, one for each rule, that of the first rule that holds. In 01 "the rules are read in this
-- order. Hint no: nothing happens. Round equal to L: spent. Otherwise the round r grows by one and T[r] is read; .."; in 02, wish 5: "The
-- round limit is read first from now on. A work turn with hint no at that place now gives spent". (A round above L, which no sound session
-- has, counts as L: here and in `phase_next`.)
unfoldable pub waiting_rule : {A : Type 0} → (limit r : ℕ) → (leader : Bool) → (exhausted stays leads : A) → A
waiting_rule L r leader exhausted stays leads = cond (ltb r L) (cond leader leads stays) exhausted

-- ---- which register

-- The access of a process in round r, at round limit L, with the leader hint.
unfoldable pub phase_access : (limit r : ℕ) → Phase → (leader : Bool) → Access
phase_access L r Idle leader = Nothing
phase_access L r Waiting leader = waiting_rule L r leader Nothing Nothing (ReadValue (r + 1))
phase_access L r Write leader = WriteValue r
phase_access L r (Scan k) leader = ReadValue k
phase_access L r (Adopt k) leader = ReadValue k
phase_access L r (Compare i) leader = ReadValue (r - i)
phase_access L r (Flag i) leader = SetMark (r - i)
phase_access L r (CheckMark i) leader = ReadMark (r - i)
phase_access L r (CheckValue i) leader = ReadValue (r - i)
phase_access L r Commit leader = WriteDecision
phase_access L r Exhausted leader = Nothing
phase_access L r Crashed leader = Nothing
phase_access L r Decided leader = Nothing
phase_access L r HasCommitted leader = Nothing
phase_access L r HasAdopted leader = Nothing

unfoldable pub access : (limit : ℕ) → Process → (leader : Bool) → Access
access L q leader = phase_access L q.round q.phase leader

-- A mark that is read, as a number.
abbrev pub bit : Bool → ℕ
bit false = 0
bit true = 1

-- What the register operation finds: the value read; at a flag write, which reads nothing, the mark that stood there, by which no process
-- goes (`phase_next`, flag), but the counts do (`counted`); 0 otherwise.
unfoldable pub found : Session → Access → ℕ
found s Nothing = 0
found s (ReadValue r) = value_at s r
found s (WriteValue r) = 0
found s (ReadMark r) = bit (mark_at s r)
found s (SetMark r) = bit (mark_at s r)
found s ReadDecision = s.decision
found s WriteDecision = 0

-- ---- what the process becomes

abbrev pub process : Phase → (round estimate : ℕ) → Process
process φ r e = record { phase = φ; round = r; estimate = e }

-- "Go on": compare i + 1 while i + 1 is below the smaller of r and W; then check-mark 0 if r is at least W, else gate.
unfoldable pub go_on : (W r i : ℕ) → Phase
go_on W r i = cond (ltb (i + 1) (min r W)) (Compare (i + 1)) (cond (leb W r) (CheckMark 0) Waiting)

-- From round r with estimate e, by the value x that was read; W and L are the window and the round limit. The document's words for
-- each stance stand above its clause.
unfoldable pub phase_next : (W L r e : ℕ) → Phase → (leader : Bool) → (x : ℕ) → Process
phase_next W L r e Idle leader x = process Idle r e
-- gate: spent; nothing happens; or "the round r grows by one and T[r] is read; blank: put; filled: take L where r = L, else seek r + 1."
phase_next W L r e Waiting leader x =
    waiting_rule L r leader
    (process Exhausted r e)
    (process Waiting r e)
    (process (cond (eqb x 0) Write (cond (ltb (r + 1) L) (Scan (r + 2)) (Adopt L))) (r + 1) e)
-- put: "write the own value to T[r]; compare 0."
phase_next W L r e Write leader x = process (Compare 0) r e
-- seek k: "read T[k]. Blank: take k - 1. Filled: take L if k = L, else seek k + 1."
phase_next W L r e (Scan k) leader x = process (cond (eqb x 0) (Adopt (k - 1)) (cond (ltb k L) (Scan (k + 1)) (Adopt L))) r e
-- take k: "read T[k] again, adopt it (a blank, impossible after opening, leaves the own value), round becomes k; compare 0."
phase_next W L r e (Adopt k) leader x = process (Compare 0) k (cond (eqb x 0) e x)
-- compare i: "read T[r - i]. Different from the own value: flag i. Equal: go on."
phase_next W L r e (Compare i) leader x = process (cond (eqb x e) (go_on W r i) (Flag i)) r e
-- flag i: "mark C[r - i]; go on."
phase_next W L r e (Flag i) leader x = process (go_on W r i) r e
-- check-mark i: "read C[r - i]; marked: gate; else check-value i."
phase_next W L r e (CheckMark i) leader x = process (cond (eqb x 0) (CheckValue i) Waiting) r e
-- check-value i: "read T[r - i]; different: gate; else check-mark i + 1 while i + 1 < W, then commit."
phase_next W L r e (CheckValue i) leader x = process (cond (eqb x e) (cond (ltb (i + 1) W) (CheckMark (i + 1)) Commit) Waiting) r e
-- commit: "write the own value to D; gate."
phase_next W L r e Commit leader x = process Waiting r e
-- spent, crashed, decided and answered take no turn (9, 8; 02, wish 5: "each later one 9 while the seat stays spent"): nothing changes
phase_next W L r e Exhausted leader x = process Exhausted r e
phase_next W L r e Crashed leader x = process Crashed r e
phase_next W L r e Decided leader x = process Decided r e
phase_next W L r e HasCommitted leader x = process HasCommitted r e
phase_next W L r e HasAdopted leader x = process HasAdopted r e

unfoldable pub next : (W L : ℕ) → Process → (leader : Bool) → ℕ → Process
next W L q leader x = phase_next W L q.round q.estimate q.phase leader x

-- "A look reads D; blank: nothing; filled: the seat is decided and takes D's number as its own value."
unfoldable pub learnt : Process → ℕ → Process
learnt q x = cond (eqb x 0) q (process Decided q.round x)

-- ---- what is written: the session with the estimate stored in a register, or with a mark

unfoldable pub stored : Session → Access → (estimate : ℕ) → Session
stored s Nothing e = s
stored s (ReadValue r) e = s
stored s (WriteValue r) e = with_values s (set s.values (r - 1) e)
stored s (ReadMark r) e = s
stored s (SetMark r) e = with_marks s (set s.marks (r - 1) true)
stored s ReadDecision e = s
stored s WriteDecision e = with_decision s e

-- ---- the turn

-- A turn of process p: one access, what is written by it, and the process as the value read makes it.
unfoldable pub turn : Session → (p : ℕ) → Access → (ℕ → Process) → Session
turn s p a becomes = with_process (stored s a (process_at s p).estimate) p (becomes (found s a))

-- 1 where a flag write found its round unmarked (x is the mark that it found), else 0.
abbrev pub newly_marked : (x : ℕ) → ℕ
newly_marked x = cond (eqb x 0) 1 0

-- 01: "register reads, register writes (T, C and D), and contested", there "the number of flag writes"; in 02, wish 2, "the number of flag
-- writes that found their round unmarked". "A second flag on a marked round is still a register write." x is what the operation found.
unfoldable pub counted : Access → (x : ℕ) → Counts → Counts
counted Nothing x c = c
counted (ReadValue r) x c = record { reads = c.reads + 1; writes = c.writes; contested = c.contested }
counted (WriteValue r) x c = record { reads = c.reads; writes = c.writes + 1; contested = c.contested }
counted (ReadMark r) x c = record { reads = c.reads + 1; writes = c.writes; contested = c.contested }
counted (SetMark r) x c = record { reads = c.reads; writes = c.writes + 1; contested = c.contested + newly_marked x }
counted ReadDecision x c = record { reads = c.reads + 1; writes = c.writes; contested = c.contested }
counted WriteDecision x c = record { reads = c.reads; writes = c.writes + 1; contested = c.contested }
