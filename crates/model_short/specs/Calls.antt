-- Document 02, wish 12: the two calls, for the first list and for the next one, given any buffer at all.
use Rattle.std.specs.Prelude.{ℕ, suc, zero, ◌+◌, ◌*◌, Bool, true, false, not, ◌&&◌, List, [], ◌∷◌, ◌++◌, length, leb, ltb, eqb}
use Rattle.model.specs.Bytes.{byte_at, word32, bytes32}
use Rattle.model.specs.Numbers.{bad_process_count, bad_buffer, bad_cuts, illegal_list, last_list}
use Rattle.model.specs.Refusal.{Test, refusal}
use Rattle.model_short.specs.declared.RawEntry.{RawEntry}
use Rattle.model_short.specs.Short.{entry, legal, legal_lists, following}

-- ---- bytes: 01, "An entry has 6 bytes: kind, seat, 32-bit value."

abbrev pub raw_bytes : RawEntry → List ℕ
raw_bytes e = e.kind ∷ e.process ∷ bytes32 e.value

unfoldable pub list_bytes : List RawEntry → List ℕ
list_bytes [] = []
list_bytes (e ∷ es) = raw_bytes e ++ list_bytes es

unfoldable pub raw_at : List ℕ → (offset : ℕ) → RawEntry
raw_at b i = entry (byte_at b i) (byte_at b (i + 1)) (word32 b (i + 2))

-- The entries at an offset, as many as told.
unfoldable pub raws_at : List ℕ → (offset count : ℕ) → List RawEntry
raws_at b i zero = []
raws_at b i (suc k) = raw_at b i ∷ raws_at b (i + 6) k

-- The list of m entries that stands in a buffer.
abbrev pub given_list : (m : ℕ) → (buffer : List ℕ) → List RawEntry
given_list m b = raws_at b 0 m

-- ---- the numbers

-- "Order: 1 for a seat count other than 1 or 2, 17 for a length over 6, 15 for a buffer not 6 times the length".
abbrev pub first_tests : (n m : ℕ) → (buffer : List ℕ) → List Test
first_tests n m b =
    (not (leb 1 n && leb n 2), bad_process_count) ∷ (ltb 6 m, bad_cuts) ∷ (not (eqb (length b) (6 * m)), bad_buffer) ∷ []

-- "20: the given list is not legal."
abbrev pub given_tests : (n m : ℕ) → (buffer : List ℕ) → List Test
given_tests n m b = first_tests n m b ++ ((not (legal n (given_list m b)), illegal_list) ∷ [])

abbrev pub none : List (List RawEntry) → Bool
none [] = true
none (l ∷ ls) = false

-- "21: no list follows it."
abbrev pub next_tests : (n m : ℕ) → (buffer : List ℕ) → List Test
next_tests n m b = given_tests n m b ++ ((none (following (given_list m b) (legal_lists n m)), last_list) ∷ [])

-- ---- what a call gives: its number, and what its buffer then holds

pub record ListResult : Type 0 where
  pub code : ℕ
  pub buffer : List ℕ

abbrev pub listed : (code : ℕ) → (buffer : List ℕ) → ListResult
listed k b = record { code = k; buffer = b }

-- By the number: the bytes of the list; refused, "the buffer is then unchanged".
abbrev pub list_result : (code : ℕ) → (list : List RawEntry) → (buffer : List ℕ) → ListResult
list_result zero l b = listed 0 (list_bytes l)
list_result (suc k) l b = listed (suc k) b

abbrev pub head_of : List (List RawEntry) → List RawEntry
head_of [] = []
head_of (l ∷ ls) = l

-- "Asked for the first, it writes that."
unfoldable pub first_result : (n m : ℕ) → (buffer : List ℕ) → ListResult
first_result n m b = list_result (refusal (first_tests n m b)) (head_of (legal_lists n m)) b

-- "Given a legal list in a buffer, the builder writes the next of that length over it."
unfoldable pub next_result : (n m : ℕ) → (buffer : List ℕ) → ListResult
next_result n m b = list_result (refusal (next_tests n m b)) (head_of (following (given_list m b) (legal_lists n m))) b
