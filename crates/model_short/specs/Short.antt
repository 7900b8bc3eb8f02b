-- Document 02, wish 12, "Every short sheet there is": "all legal entry lists of a given length, 0 to 6, for one or two seats with L at its
-- least".
use Rattle.std.specs.Prelude.{ℕ, suc, zero, ◌+◌, Bool, true, false, cond, ◌&&◌, ◌||◌, List, [], ◌∷◌, ◌++◌, map, length, ltb, eqb}
use Rattle.model.specs.declared.Entry.{Entry}
use Rattle.model.specs.Answers.{Ending, Finished, Refused, BudgetEnded, Rejected}
use Rattle.model.specs.Window.{window}
use Rattle.model.specs.Board.{opened, no_counts}
use Rattle.model.specs.Sound.{every}
use Rattle.model.specs.Sheet.{entry_of}
use Rattle.model.specs.Runner.{run_from}
use Rattle.model_short.specs.declared.RawEntry.{RawEntry}

-- ---- entries

abbrev pub entry : (kind p value : ℕ) → RawEntry
entry k p v = record { kind = k; process = p; value = v }

-- What the entry says, as the reader of a sheet has it.
abbrev pub said : RawEntry → Entry
said e = entry_of e.kind e.process e.value

-- The entries f gives for each of the processes 0 to n - 1, in that order.
abbrev pub each : (n : ℕ) → (f : ℕ → List RawEntry) → List RawEntry
each zero f = []
each (suc k) f = each k f ++ f k

-- The entries that a list may have, "by kind, then seat, then value": proposals ("Seat s proposes only s + 1"), work turns with hint no and
-- with hint yes, looks, crashes. "Closes are left out."
unfoldable pub choices : (n : ℕ) → List RawEntry
choices n =
    each n (λ p. entry 0 p (p + 1) ∷ [])
    ++ each n (λ p. entry 1 p 0 ∷ entry 1 p 1 ∷ [])
    ++ each n (λ p. entry 2 p 0 ∷ [])
    ++ each n (λ p. entry 3 p 0 ∷ [])

abbrev pub same : RawEntry → RawEntry → Bool
same e f = eqb e.kind f.kind && (eqb e.process f.process && eqb e.value f.value)

abbrev pub among : List RawEntry → RawEntry → Bool
among [] e = false
among (f ∷ fs) e = same e f || among fs e

-- ---- legal lists

abbrev pub is_finished : Ending → Bool
is_finished Finished = true
is_finished (Refused code k) = false
is_finished BudgetEnded = false
is_finished (Rejected code) = false

-- "Legal: no entry is refused from a fresh session", of n seats "with L at its least", which is the window: the run of these entries, the
-- runner's own, ends finished. And each of them is one that a list may have.
unfoldable pub legal : (n : ℕ) → List RawEntry → Bool
legal n l =
    every (among (choices n)) l
    && is_finished (run_from (window n) (length l) 0 (opened n (window n)) no_counts (map said l)).ending

-- ---- all of them, in order

-- Each entry in front of each list, entry by entry.
abbrev pub in_front : List RawEntry → List (List RawEntry) → List (List RawEntry)
in_front [] ls = []
in_front (e ∷ es) ls = map (λ (l : List RawEntry). e ∷ l) ls ++ in_front es ls

-- Every list of m of the given entries, "ordered by their first differing entry".
unfoldable pub lists_of : List RawEntry → (m : ℕ) → List (List RawEntry)
lists_of es zero = [] ∷ []
lists_of es (suc k) = in_front es (lists_of es k)

-- Those of which the test holds, in their order.
abbrev pub kept : (test : List RawEntry → Bool) → List (List RawEntry) → List (List RawEntry)
kept test [] = []
kept test (l ∷ ls) = cond (test l) (l ∷ kept test ls) (kept test ls)

-- The legal lists of m entries.
unfoldable pub legal_lists : (n m : ℕ) → List (List RawEntry)
legal_lists n m = kept (legal n) (lists_of (choices n) m)

-- ---- one after another

abbrev pub same_list : List RawEntry → List RawEntry → Bool
same_list [] [] = true
same_list [] (f ∷ fs) = false
same_list (e ∷ es) [] = false
same_list (e ∷ es) (f ∷ fs) = same e f && same_list es fs

abbrev pub is_listed : List RawEntry → List (List RawEntry) → Bool
is_listed l [] = false
is_listed l (x ∷ xs) = same_list l x || is_listed l xs

-- The lists that come after l; none where l is the last, or is not there.
unfoldable pub following : (l : List RawEntry) → List (List RawEntry) → List (List RawEntry)
following l [] = []
following l (x ∷ xs) = cond (same_list l x) xs (following l xs)

-- "Lists are ordered by their first differing entry, entries by kind, then seat, then value."
unfoldable pub earlier : RawEntry → RawEntry → Bool
earlier e f =
    ltb e.kind f.kind
    || (eqb e.kind f.kind && (ltb e.process f.process || (eqb e.process f.process && ltb e.value f.value)))

unfoldable pub precedes : List RawEntry → List RawEntry → Bool
precedes [] l = false
precedes (e ∷ es) [] = false
precedes (e ∷ es) (f ∷ fs) = earlier e f || (same e f && precedes es fs)

-- Each comes before all that stand behind it.
unfoldable pub ascending : List (List RawEntry) → Bool
ascending [] = true
ascending (l ∷ ls) = every (precedes l) ls && ascending ls
