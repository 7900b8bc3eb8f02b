-- Document 02, wish 12: "Going on from the first gives each legal list once and nothing else."
use Rattle.std.specs.Prelude.{ℕ, suc, zero, ◌<◌, ◌≡◌, true, ◌&&◌, List, [], ◌∷◌, map, length, get_or, eqb}
use Rattle.model.specs.Numbers.{last_list}
use Rattle.model_short.specs.declared.RawEntry.{RawEntry}
use Rattle.model_short.specs.Short.{legal, legal_lists, is_listed, ascending}
use Rattle.model_short.specs.Calls.{ListResult, listed, list_bytes, first_result, next_result}

-- What the last of these calls gives: one for the first list, then k for the next, each given the buffer that the one before left.
unfoldable pub going_on : (n m : ℕ) → (buffer : List ℕ) → (k : ℕ) → ListResult
going_on n m b zero = first_result n m b
going_on n m b (suc k) = next_result n m (going_on n m b k).buffer

-- How many legal lists of m entries there are, and the one at place k, from 0.
abbrev pub how_many : (n m : ℕ) → ℕ
how_many n m = length (legal_lists n m)

abbrev pub place : (n m k : ℕ) → List RawEntry
place n m k = get_or (legal_lists n m) k []

pub record EachOnce (n m : ℕ) (b : List ℕ) : Type 0 where
  -- "Each legal list .. and nothing else" is among them,
  pub exactly : (l : List RawEntry) → is_listed l (legal_lists n m) ≡ (eqb (length l) m && legal n l)
  -- "once", and in order: each comes before all that stand behind it.
  pub in_order : ascending (legal_lists n m) ≡ true
  -- The call for the first and k calls for the next are accepted, and leave the one at place k;
  pub each_place : (k : ℕ) → k < how_many n m → going_on n m b k ≡ listed 0 (list_bytes (place n m k))
  -- the call after these is refused with 21, and leaves the last.
  pub then_none : (k : ℕ) → suc k ≡ how_many n m → going_on n m b (suc k) ≡ listed last_list (list_bytes (place n m k))

-- The claim, of every call for the first that is accepted.
abbrev pub ShortClaim : Type 0
ShortClaim = (n m : ℕ) (b : List ℕ) → (first_result n m b).code ≡ 0 → EachOnce n m b

-- How many there are of the lengths 0 to 6, for one and for two processes.
abbrev pub short_lengths : List ℕ
short_lengths = 0 ∷ 1 ∷ 2 ∷ 3 ∷ 4 ∷ 5 ∷ 6 ∷ []

abbrev pub ShortCounts : Type 0
ShortCounts =
    (map (how_many 1) short_lengths ≡ 1 ∷ 1 ∷ 4 ∷ 12 ∷ 36 ∷ 108 ∷ 324 ∷ [])
    × (map (how_many 2) short_lengths ≡ 1 ∷ 2 ∷ 10 ∷ 48 ∷ 264 ∷ 1536 ∷ 9144 ∷ [])
