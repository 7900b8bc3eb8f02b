-- The longest report: what each line takes at most, and that the whole fits on a page.
use Rattle.std.specs.Prelude.{◌+◌, ◌*◌, ◌≤◌, ◌≡◌, ◌∷◌, ◌++◌}
use Prim.Native.String.{String}
use Rattle.base.specs.Prelude.{ℕ, suc, arith, Bool, true, false, List, []}
use Rattle.base.specs.Prelude.{length, take, length-append, length-take}
use Rattle.model.specs.declared.Phase.{Phase}
use Rattle.model.specs.declared.Phase.TheVariants.{Idle, Waiting, Write, Scan, Adopt, Compare, Flag, CheckMark}
use Rattle.model.specs.declared.Phase.TheVariants.{CheckValue, Commit, Exhausted, Crashed, Decided, HasCommitted, HasAdopted}
use Rattle.model.specs.declared.Process.{Process}
use Rattle.model.specs.declared.Session.{Session}
use Rattle.model.specs.declared.Counts.{Counts}
use Rattle.model.specs.Answers.{Ending, Finished, Refused, BudgetEnded, Rejected, Ran}
use Rattle.model.specs.Board.{max_processes, highest_filled}
use Rattle.model_report.specs.Report.{bytes, field, newline, outcome_line, tally_line, closed_word, board_line, status_words, seat_lines}
use Rattle.model_report.specs.Report.{more_lines, report_of}
use Rattle.use_text.specs.Numbers.{with_fields, digits_length}

-- What words and numbers take at most: a space and 20 digits for each number.
abbrev fields_room : (words numbers : ℕ) → ℕ
fields_room w n = w + n * (1 + 20)

-- On a line of their own.
abbrev line_room : String → (numbers : ℕ) → ℕ
line_room words n = fields_room (length (bytes words)) n + 1

-- The longest report: 5,046 bytes.
abbrev pub report_room : ℕ
report_room = line_room "outcome refused" 2 + line_room "tally" 3 + line_room "board closed" 2 + max_processes * line_room "seat working" 3

-- ---- what is taken

fields_low : (t vs : List ℕ) → length (with_fields t vs) ≤ fields_room (length t) (length vs)
fields_low t [] = omega arith
fields_low t (v ∷ vs) = omega (arith, fields_low (t ++ field v) vs, length-append t (field v), digits_length 20 v)

line_low : (words : String) (vs : List ℕ) → length (with_fields (bytes words) vs ++ newline) ≤ line_room words (length vs)
line_low words vs = rw length-append (omega (arith, fields_low (bytes words) vs))

-- The longest word of the closed mark is that of a closed session.
mark_low : (closed : Bool) → length (closed_word closed) ≤ length (bytes " closed")
mark_low true = omega arith
mark_low false = omega arith

board_low : (s : Session) → length (board_line s) ≤ line_room "board closed" 2
board_low s =
    simp length-append (omega (arith, digits_length 20 (highest_filled s), digits_length 20 s.decision, mark_low s.closed))

-- The longest status is that of a working seat.
status_low : (φ : Phase) (r e : ℕ) → length (status_words φ r e) ≤ fields_room (length (bytes " working")) 2
status_low Idle r e = omega arith
status_low Waiting r e = fields_low (bytes " working") (r ∷ e ∷ [])
status_low Write r e = fields_low (bytes " working") (r ∷ e ∷ [])
status_low (Scan k) r e = fields_low (bytes " working") (r ∷ e ∷ [])
status_low (Adopt k) r e = fields_low (bytes " working") (r ∷ e ∷ [])
status_low (Compare i) r e = fields_low (bytes " working") (r ∷ e ∷ [])
status_low (Flag i) r e = fields_low (bytes " working") (r ∷ e ∷ [])
status_low (CheckMark i) r e = fields_low (bytes " working") (r ∷ e ∷ [])
status_low (CheckValue i) r e = fields_low (bytes " working") (r ∷ e ∷ [])
status_low Commit r e = fields_low (bytes " working") (r ∷ e ∷ [])
status_low Exhausted r e = omega (arith, fields_low (bytes " spent") (e ∷ []))
status_low Crashed r e = omega arith
status_low Decided r e = omega (arith, fields_low (bytes " decided") (e ∷ []))
status_low HasCommitted r e = fields_low (bytes " working") (r ∷ e ∷ [])
status_low HasAdopted r e = fields_low (bytes " working") (r ∷ e ∷ [])

seats_low : (p : ℕ) (l : List Process) → length (seat_lines p l) ≤ length l * line_room "seat working" 3
seats_low p [] = omega arith
seats_low p (q ∷ l) =
    simp length-append (omega (arith, digits_length 20 p, status_low q.phase q.round q.estimate, seats_low (suc p) l))

-- Behind the first line.
more_low : (s : Session) (c : Counts) → length s.processes ≡ max_processes
    → length (tally_line c ++ board_line s ++ seat_lines 0 (take s.n s.processes)) + line_room "outcome refused" 2 ≤ report_room
more_low s c h =
    let tally = line_low "tally" (c.reads ∷ c.writes ∷ c.contested ∷ []) in
    let board = board_low s in
    rw (length-append, length-append) (omega (arith, seats_low 0 (take s.n s.processes), length-take s.n s.processes))

all_low : (e : Ending) (k : ℕ) (s : Session) (c : Counts) → length s.processes ≡ max_processes
    → length (outcome_line e k ++ more_lines e s c) ≤ report_room
all_low Finished k s c h = rw length-append (omega (arith, line_low "outcome finished" (k ∷ []), more_low s c h))
all_low (Refused r i) k s c h = rw length-append (omega (arith, line_low "outcome refused" (r ∷ i ∷ []), more_low s c h))
all_low BudgetEnded k s c h = rw length-append (omega (arith, line_low "outcome finished" (k ∷ []), more_low s c h))
all_low (Rejected r) k s c h = rw length-append (omega (arith, line_low "sheet refused" (r ∷ [])))

-- The report of any run is at most so long.
pub report_low : (r : Ran) → length r.session.processes ≡ max_processes → length (report_of r) ≤ report_room
report_low r h = all_low r.ending r.carried r.session r.counts h
