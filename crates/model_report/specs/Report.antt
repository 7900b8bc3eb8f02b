-- Document 01, "The board report": the lines that the program prints for a sheet, as bytes.
use Rattle.std.specs.Prelude.{ℕ, suc, zero, ◌+◌, ◌/◌, ◌%◌, Bool, true, false, cond, List, [], ◌∷◌, ◌++◌, take, ltb}
use Prim.Native.Char.{code}
use Prim.Native.String as Text
use Prim.Native.String.{String}
use Rattle.model.specs.declared.Phase.{Phase}
use Rattle.model.specs.declared.Phase.TheVariants.{Idle, Waiting, Write, Scan, Adopt, Compare, Flag, CheckMark}
use Rattle.model.specs.declared.Phase.TheVariants.{CheckValue, Commit, Exhausted, Crashed, Decided, HasCommitted, HasAdopted}
use Rattle.model.specs.declared.Process.{Process}
use Rattle.model.specs.declared.Session.{Session}
use Rattle.model.specs.declared.Counts.{Counts}
use Rattle.model.specs.declared.Caller.TheVariants.{Server}
use Rattle.model.specs.Answers.{Ending, Finished, Refused, BudgetEnded, Rejected, Ran}
use Rattle.model.specs.Board.{highest_filled}
use Rattle.model.specs.Runner.{run}

-- 01: "a budget of 10,921".
abbrev pub report_budget : ℕ
report_budget = 10921

-- ---- words and numbers

-- The bytes of a text.
abbrev pub bytes : String → List ℕ
bytes Text.[] = []
bytes (Text.◌∷◌ c t) = code c ∷ bytes t

-- A number in decimal digits, at most as many as told.
unfoldable pub digits : (most v : ℕ) → List ℕ
digits zero v = []
digits (suc most) v = cond (ltb v 10) ((48 + v) ∷ []) (digits most (v / 10) ++ ((48 + v % 10) ∷ []))

-- A number in decimal: 20 digits are enough for 64 bits.
abbrev pub decimal : ℕ → List ℕ
decimal v = digits 20 v

-- A space and a number.
abbrev pub field : ℕ → List ℕ
field v = 32 ∷ decimal v

-- A line's end.
abbrev pub newline : List ℕ
newline = 10 ∷ []

-- ---- the lines

-- 01: "sheet refused CODE"; "outcome refused CODE INDEX"; otherwise "outcome finished" and the number of entries carried out.
abbrev pub outcome_line : Ending → (carried : ℕ) → List ℕ
outcome_line Finished k = bytes "outcome finished" ++ field k ++ newline
outcome_line (Refused c i) k = bytes "outcome refused" ++ field c ++ field i ++ newline
outcome_line BudgetEnded k = bytes "outcome finished" ++ field k ++ newline
outcome_line (Rejected c) k = bytes "sheet refused" ++ field c ++ newline

-- "The tally line is reads, writes, contested".
abbrev pub tally_line : Counts → List ℕ
tally_line c = bytes "tally" ++ field c.reads ++ field c.writes ++ field c.contested ++ newline

-- The closed mark as a field of a line: a space and its word.
abbrev pub closed_word : (closed : Bool) → List ℕ
closed_word true = bytes " closed"
closed_word false = bytes " open"

-- 01: "the board line is the highest filled round (0 for none) and D." 02, wish 10: "The board line gains a third field, "open" or
-- "closed"."
abbrev pub board_line : Session → List ℕ
board_line s = bytes "board" ++ field (highest_filled s) ++ field s.decision ++ closed_word s.closed ++ newline

-- "out", "working ROUND VALUE", "spent VALUE", "crashed" or "decided VALUE".
abbrev pub status_words : Phase → (round estimate : ℕ) → List ℕ
status_words Idle r e = bytes " out"
status_words Waiting r e = bytes " working" ++ field r ++ field e
status_words Write r e = bytes " working" ++ field r ++ field e
status_words (Scan k) r e = bytes " working" ++ field r ++ field e
status_words (Adopt k) r e = bytes " working" ++ field r ++ field e
status_words (Compare i) r e = bytes " working" ++ field r ++ field e
status_words (Flag i) r e = bytes " working" ++ field r ++ field e
status_words (CheckMark i) r e = bytes " working" ++ field r ++ field e
status_words (CheckValue i) r e = bytes " working" ++ field r ++ field e
status_words Commit r e = bytes " working" ++ field r ++ field e
status_words Exhausted r e = bytes " spent" ++ field e
status_words Crashed r e = bytes " crashed"
status_words Decided r e = bytes " decided" ++ field e
-- answered: no session has such a seat (`Sound`), and a poll has no sheet, so no report has this line
status_words HasCommitted r e = bytes " working" ++ field r ++ field e
status_words HasAdopted r e = bytes " working" ++ field r ++ field e

-- "Seats 0 to n - 1 follow, each as "seat", its number and one of" the words above.
abbrev pub seat_line : (p : ℕ) → Process → List ℕ
seat_line p q = bytes "seat" ++ field p ++ status_words q.phase q.round q.estimate ++ newline

abbrev pub seat_lines : (p : ℕ) → List Process → List ℕ
seat_lines p [] = []
seat_lines p (q ∷ qs) = seat_line p q ++ seat_lines (suc p) qs

-- "A refused sheet gives only" its line; any other the four kinds of lines.
abbrev pub more_lines : Ending → Session → Counts → List ℕ
more_lines Finished s c = tally_line c ++ board_line s ++ seat_lines 0 (take s.n s.processes)
more_lines (Refused k i) s c = tally_line c ++ board_line s ++ seat_lines 0 (take s.n s.processes)
more_lines BudgetEnded s c = tally_line c ++ board_line s ++ seat_lines 0 (take s.n s.processes)
more_lines (Rejected k) s c = []

abbrev pub report_of : Ran → List ℕ
report_of r = outcome_line r.ending r.carried ++ more_lines r.ending r.session r.counts

-- Of a sheet that is run. 02, wish 9: "the C entry and the report use the server's" limits.
unfoldable pub report : (sheet : List ℕ) → List ℕ
report s = report_of (run Server s report_budget)
