-- Document 02, wish 12, "Every short sheet there is": calls with what each gives, and that every row holds of the definitions.
use Rattle.std.specs.Prelude.{ℕ, ◌≡◌, refl, Bool, true, false, ◌&&◌, List, [], ◌∷◌, ◌++◌, length, replicate, eqb}
use Rattle.model.specs.Window.{window, root_up, root_from}
use Rattle.model.specs.Board.{opened}
use Rattle.model.specs.Step as step
use Rattle.model.specs.Refusal.{full}
use Rattle.model.specs.Machine as machine
use Rattle.model.specs.Sound.{every}
use Rattle.model.specs.Runner.{run_by}
use Rattle.model_short.specs.declared.RawEntry.{RawEntry}
use Rattle.model_short.specs.Short.{entry, choices, legal, lists_of, legal_lists, following}
use Rattle.model_short.specs.Calls.{ListResult, list_bytes, raw_at, raws_at, first_result, next_result}

-- ---- entries, in words

abbrev propose : (p v : ℕ) → RawEntry
propose p v = entry 0 p v

abbrev work : (p hint : ℕ) → RawEntry
work p hint = entry 1 p hint

abbrev no : ℕ
no = 0

abbrev yes : ℕ
yes = 1

abbrev look : (p : ℕ) → RawEntry
look p = entry 2 p 0

abbrev crash : (p : ℕ) → RawEntry
crash p = entry 3 p 0

abbrev close : RawEntry
close = entry 4 0 0

-- Bytes that say nothing.
abbrev junk : (k : ℕ) → List ℕ
junk k = replicate k 9

-- ---- a row

-- What a call gives: 0, and a list in its buffer; or a number, and its buffer is unchanged.
pub data Gives : Type 0 where
  writes : (list : List RawEntry) → Gives
  refuses : (code : ℕ) → Gives

-- A row of the table: the call for the first list of m entries, or for the next one, with what stands in its buffer, and what it gives.
-- `next_after` is the call for the next one where that list stands in the buffer.
pub data Row : Type 0 where
  first : (n m : ℕ) → (buffer : List ℕ) → Gives → Row
  next : (n m : ℕ) → (buffer : List ℕ) → Gives → Row
  next_after : (n : ℕ) → (list : List RawEntry) → Gives → Row

abbrev same_bytes : List ℕ → List ℕ → Bool
same_bytes [] [] = true
same_bytes [] (y ∷ ys) = false
same_bytes (x ∷ xs) [] = false
same_bytes (x ∷ xs) (y ∷ ys) = eqb x y && same_bytes xs ys

-- Whether a result is what a row says, where b is the buffer before the call.
abbrev shown : ListResult → (buffer : List ℕ) → Gives → Bool
shown r b (writes l) = eqb r.code 0 && same_bytes r.buffer (list_bytes l)
shown r b (refuses k) = eqb r.code k && same_bytes r.buffer b

unfoldable pub holds : Row → Bool
holds (first n m b g) = shown (first_result n m b) b g
holds (next n m b g) = shown (next_result n m b) b g
holds (next_after n l g) = let b = list_bytes l in shown (next_result n (length l) b) b g

-- ---- the table

pub table : List Row
table =
    -- "Asked for the first, it writes that", whatever stands in the buffer: of 0, 1 and 2 entries, for one seat and for two; of 6, for one
    first 1 0 [] (writes [])
    ∷ first 2 0 [] (writes [])
    ∷ first 1 1 (junk 6) (writes (propose 0 1 ∷ []))
    ∷ first 2 1 (junk 6) (writes (propose 0 1 ∷ []))
    ∷ first 1 2 (junk 12) (writes (propose 0 1 ∷ work 0 no ∷ []))
    ∷ first 2 2 (junk 12) (writes (propose 0 1 ∷ propose 1 2 ∷ []))
    ∷ first 1 6 (junk 36) (writes (propose 0 1 ∷ replicate 5 (work 0 no)))
    -- "Given a legal list in a buffer, the builder writes the next of that length over it": all ten of two entries, for two seats, "ordered
    -- by their first differing entry, entries by kind, then seat, then value"; after the fifth the first entry changes
    ∷ next_after 2 (propose 0 1 ∷ propose 1 2 ∷ []) (writes (propose 0 1 ∷ work 0 no ∷ []))
    ∷ next_after 2 (propose 0 1 ∷ work 0 no ∷ []) (writes (propose 0 1 ∷ work 0 yes ∷ []))
    ∷ next_after 2 (propose 0 1 ∷ work 0 yes ∷ []) (writes (propose 0 1 ∷ look 0 ∷ []))
    ∷ next_after 2 (propose 0 1 ∷ look 0 ∷ []) (writes (propose 0 1 ∷ crash 0 ∷ []))
    ∷ next_after 2 (propose 0 1 ∷ crash 0 ∷ []) (writes (propose 1 2 ∷ propose 0 1 ∷ []))
    ∷ next_after 2 (propose 1 2 ∷ propose 0 1 ∷ []) (writes (propose 1 2 ∷ work 1 no ∷ []))
    ∷ next_after 2 (propose 1 2 ∷ work 1 no ∷ []) (writes (propose 1 2 ∷ work 1 yes ∷ []))
    ∷ next_after 2 (propose 1 2 ∷ work 1 yes ∷ []) (writes (propose 1 2 ∷ look 1 ∷ []))
    ∷ next_after 2 (propose 1 2 ∷ look 1 ∷ []) (writes (propose 1 2 ∷ crash 1 ∷ []))
    ∷ next_after 2 (propose 1 2 ∷ crash 1 ∷ []) (refuses 21)
    -- kind before seat: a work turn of seat 1 comes after those of seat 0, and before the look of seat 0
    ∷ next_after 2 (propose 0 1 ∷ propose 1 2 ∷ work 0 yes ∷ []) (writes (propose 0 1 ∷ propose 1 2 ∷ work 1 no ∷ []))
    ∷ next_after 2 (propose 0 1 ∷ propose 1 2 ∷ work 1 yes ∷ []) (writes (propose 0 1 ∷ propose 1 2 ∷ look 0 ∷ []))
    -- "The choice of an entry leads to the choice of the rest": an entry that has no legal rest is passed over. With one seat nothing
    -- follows its crash; with two, nothing follows both crashes
    ∷ next_after 1 (propose 0 1 ∷ work 0 yes ∷ crash 0 ∷ []) (writes (propose 0 1 ∷ look 0 ∷ work 0 no ∷ []))
    ∷ next_after 1 (propose 0 1 ∷ look 0 ∷ crash 0 ∷ []) (refuses 21)
    ∷ next_after 1 (propose 0 1 ∷ work 0 no ∷ look 0 ∷ crash 0 ∷ []) (writes (propose 0 1 ∷ work 0 yes ∷ work 0 no ∷ work 0 no ∷ []))
    ∷ next_after 2 (propose 0 1 ∷ crash 0 ∷ propose 1 2 ∷ []) (writes (propose 1 2 ∷ propose 0 1 ∷ work 0 no ∷ []))
    ∷ next_after 2 (propose 0 1 ∷ propose 1 2 ∷ crash 0 ∷ look 1 ∷ crash 1 ∷ [])
    (writes (propose 0 1 ∷ propose 1 2 ∷ crash 1 ∷ work 0 no ∷ work 0 no ∷ []))
    -- "21: no list follows it": of no entry there is one list, of one entry one or two
    ∷ next_after 1 [] (refuses 21)
    ∷ next_after 2 [] (refuses 21)
    ∷ next_after 1 (propose 0 1 ∷ []) (refuses 21)
    ∷ next_after 2 (propose 0 1 ∷ []) (writes (propose 1 2 ∷ []))
    ∷ next_after 2 (propose 1 2 ∷ []) (refuses 21)
    -- "1 for a seat count other than 1 or 2": before 17, 15, 20 and 21
    ∷ first 0 0 [] (refuses 1)
    ∷ first 3 1 (junk 6) (refuses 1)
    ∷ first 257 1 (junk 6) (refuses 1)
    ∷ first 0 7 (junk 42) (refuses 1)
    ∷ first 3 1 (junk 5) (refuses 1)
    ∷ next 0 7 (junk 42) (refuses 1)
    ∷ next 3 1 (junk 5) (refuses 1)
    ∷ next 3 1 (junk 6) (refuses 1)
    ∷ next_after 3 [] (refuses 1)
    -- "17 for a length over 6": before 15 and 20
    ∷ first 1 7 (junk 42) (refuses 17)
    ∷ first 2 7 (junk 41) (refuses 17)
    ∷ next 1 7 (junk 42) (refuses 17)
    ∷ next 2 7 [] (refuses 17)
    -- "15 for a buffer not 6 times the length", shorter or longer: before 20 and 21
    ∷ first 1 0 (junk 1) (refuses 15)
    ∷ first 1 1 (junk 5) (refuses 15)
    ∷ first 2 1 (junk 7) (refuses 15)
    ∷ first 2 2 (junk 6) (refuses 15)
    ∷ next 1 1 (junk 5) (refuses 15)
    ∷ next 2 1 (junk 7) (refuses 15)
    ∷ next 1 0 (list_bytes (propose 0 1 ∷ [])) (refuses 15)
    ∷ next 1 2 (list_bytes (propose 0 1 ∷ [])) (refuses 15)
    ∷ next 1 1 (list_bytes (propose 0 1 ∷ []) ++ (0 ∷ [])) (refuses 15)
    -- "20: the given list is not legal." "Legal: no entry is refused from a fresh session": a seat that has not proposed, one that proposes
    -- again, one that crashed
    ∷ next_after 1 (work 0 no ∷ []) (refuses 20)
    ∷ next_after 1 (look 0 ∷ []) (refuses 20)
    ∷ next_after 2 (propose 0 1 ∷ look 1 ∷ []) (refuses 20)
    ∷ next_after 1 (propose 0 1 ∷ propose 0 1 ∷ []) (refuses 20)
    ∷ next_after 1 (propose 0 1 ∷ crash 0 ∷ look 0 ∷ []) (refuses 20)
    -- "Seat s proposes only s + 1": another number, and 257, whose low byte is 1
    ∷ next_after 2 (propose 0 2 ∷ []) (refuses 20)
    ∷ next_after 2 (propose 1 1 ∷ []) (refuses 20)
    ∷ next_after 1 (propose 0 257 ∷ []) (refuses 20)
    ∷ next_after 1 (propose 0 16777217 ∷ []) (refuses 20)
    -- "Closes are left out"
    ∷ next_after 1 (close ∷ []) (refuses 20)
    ∷ next_after 1 (propose 0 1 ∷ close ∷ []) (refuses 20)
    -- no such seat; a hint of 2, and of 256, whose low byte is 0; a look and a crash with a value; an unknown kind
    ∷ next_after 1 (propose 1 2 ∷ []) (refuses 20)
    ∷ next_after 2 (propose 2 3 ∷ []) (refuses 20)
    ∷ next_after 1 (propose 0 1 ∷ work 0 2 ∷ []) (refuses 20)
    ∷ next_after 1 (propose 0 1 ∷ work 0 256 ∷ []) (refuses 20)
    ∷ next_after 1 (propose 0 1 ∷ entry 2 0 1 ∷ []) (refuses 20)
    ∷ next_after 1 (propose 0 1 ∷ entry 3 0 1 ∷ []) (refuses 20)
    ∷ next_after 1 (propose 0 1 ∷ entry 5 0 0 ∷ []) (refuses 20)
    -- "20, 21": not legal, and later than every legal list
    ∷ next_after 1 (crash 0 ∷ []) (refuses 20)
    ∷ next_after 2 (propose 1 2 ∷ crash 1 ∷ crash 1 ∷ []) (refuses 20)
    ∷ []

-- Every row holds.
pub short_cases : every holds table ≡ true
unfolding
    table holds window root_up root_from opened step.waiting_rule step.phase_access step.access step.found step.go_on step.phase_next step.next
    step.learnt step.stored step.turn step.counted full machine.access_of machine.becomes machine.after machine.counts_after machine.answered
    machine.perform machine.execute run_by choices legal lists_of legal_lists following list_bytes raw_at raws_at first_result next_result
short_cases = refl
