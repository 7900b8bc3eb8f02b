-- Document 01, "Turn sheets": what a sheet gives, entry after entry, up to its budget or first refused entry.
use Rattle.std.specs.Prelude.{ℕ, suc, zero, cond, List, [], ◌∷◌, eqb}
use Rattle.model.specs.declared.Session.{Session}
use Rattle.model.specs.declared.Counts.{Counts}
use Rattle.model.specs.declared.Caller.{Caller}
use Rattle.model.specs.declared.Limits.{Limits}
use Rattle.model.specs.declared.Entry.{Entry}
use Rattle.model.specs.declared.Entry.TheVariants.{Acts, Closes, Malformed}
use Rattle.model.specs.Answers.{Stepped, Ending, Finished, Refused, BudgetEnded, Rejected, Ran}
use Rattle.model.specs.Window.{window}
use Rattle.model.specs.Board.{opened, no_counts, limits_of}
use Rattle.model.specs.Numbers.{bad_entry}
use Rattle.model.specs.Machine.{Command, acts, closes, execute}
use Rattle.model.specs.Sheet.{process_count, round_limit, entries, sheet_refusal}

abbrev pub ran : (carried : ℕ) → Session → Counts → Ending → Ran
ran k s c e = record { carried = k; session = s; counts = c; ending = e }

-- What an entry answers, where `answer` says what a command answers: "each entry 13 first, then its operation's own order".
abbrev pub entry_answer : (answer : Session → Counts → Command → Stepped) → Session → Counts → Entry → Stepped
entry_answer answer s c (Acts o) = answer s c (acts o)
entry_answer answer s c Closes = answer s c closes
entry_answer answer s c Malformed = record { code = bad_entry; session = s; counts = c }

-- The entries one after another, k of them carried out before: "It ends finished when none is left, with the refusal and the entry's index
-- (from 0) at the first refused one, or budget ended after as many entries as the budget allows with more left; that next one is not
-- tried."
unfoldable pub run_by : (answer : Session → Counts → Command → Stepped) → (budget k : ℕ) → Session → Counts → List Entry → Ran
run_by answer b k s c [] = ran k s c Finished
run_by answer zero k s c (e ∷ es) = ran k s c BudgetEnded
run_by answer (suc b) k s c (e ∷ es) =
    let a = entry_answer answer s c e in
    cond (eqb a.code 0) (run_by answer b (suc k) a.session a.counts es) (ran k s c (Refused a.code k))

-- By the machine at window W.
abbrev pub run_from : (W budget k : ℕ) → Session → Counts → List Entry → Ran
run_from W = run_by (execute W)

-- By the refusal of the sheet: "no session made", or the run.
abbrev pub ran_or : (refusal : ℕ) → Ran → Ran
ran_or zero r = r
ran_or (suc k) r = ran 0 (opened 0 0) no_counts (Rejected (suc k))

-- A sheet within a caller's limits: "The runner opens a session and an empty tally".
unfoldable pub run_within : Limits → (sheet : List ℕ) → (budget : ℕ) → Ran
run_within most s budget =
    ran_or (sheet_refusal most s)
    (run_from (window (process_count s)) budget 0 (opened (process_count s) (round_limit s)) no_counts (entries s))

-- In service: within the caller's (02, wish 9: "sheet reading and writing take the caller's limits").
unfoldable pub run : Caller → (sheet : List ℕ) → (budget : ℕ) → Ran
run caller s budget = run_within (limits_of caller) s budget
