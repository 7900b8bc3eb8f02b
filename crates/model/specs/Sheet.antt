-- Document 01, "Turn sheets": from the bytes of a sheet (01: a turn sheet) to its header, runs and entries.
use Rattle.std.specs.Prelude.{ℕ, suc, zero, ◌+◌, ◌*◌, ◌/◌, ◌%◌, Bool, true, false, cond, not, ◌&&◌, List, [], ◌∷◌, ◌++◌, length, leb, eqb}
use Rattle.model.specs.declared.Limits.{Limits}
use Rattle.model.specs.declared.Operation.TheVariants.{Propose, Step, Learn, Crash}
use Rattle.model.specs.declared.Entry.{Entry}
use Rattle.model.specs.declared.Entry.TheVariants.{Acts, Closes, Malformed}
use Rattle.model.specs.Bytes.{byte_at, word16, word32}
use Rattle.model.specs.Numbers.{bad_sheet, bad_pairs, bad_run}
use Rattle.model.specs.Refusal.{Test, open_tests, refusal}
use Rattle.model.specs.Sound.{every}

-- ---- the header: "Byte 0: n. Byte 1: the count p of pairs, 0 to 16. Bytes 2 and 3: L."

abbrev pub process_count : List ℕ → ℕ
process_count s = byte_at s 0

abbrev pub run_count : List ℕ → ℕ
run_count s = byte_at s 1

abbrev pub round_limit : List ℕ → ℕ
round_limit s = word16 s 2

-- ---- the runs: "Then p pairs, 16-bit offset and 16-bit length, offsets from the sheet's start, sorted by offset."

-- A run of entries: where it starts, and its length in bytes (01: a pair).
pub record EntryRun : Type 0 where
  pub offset : ℕ
  pub size : ℕ

abbrev pub run_at : List ℕ → ℕ → EntryRun
run_at s i = record { offset = word16 s (4 + 4 * i); size = word16 s (4 + 4 * i + 2) }

-- The runs i, i + 1, .., as many as told.
abbrev pub runs_from : List ℕ → (i count : ℕ) → List EntryRun
runs_from s i zero = []
runs_from s i (suc k) = run_at s i ∷ runs_from s (suc i) k

abbrev pub runs : List ℕ → List EntryRun
runs s = runs_from s 0 (run_count s)

-- Where the pairs end: "byte 4 + 4p".
abbrev pub header_end : List ℕ → ℕ
header_end s = 4 + 4 * run_count s

-- "A run starts at or after byte 4 + 4p and at or after the end of the run before it, and ends within the sheet."
abbrev pub is_in_order : (from size : ℕ) → List EntryRun → Bool
is_in_order from size [] = true
is_in_order from size (x ∷ xs) = leb from x.offset && leb (x.offset + x.size) size && is_in_order (x.offset + x.size) size xs

-- 12: "a run's length not a multiple of 6".
abbrev pub whole_entries : EntryRun → Bool
whole_entries x = eqb (x.size % 6) 0

-- 10: "sheet under 4 or over 65,535 bytes, over 16 pairs, or too short for its pairs".
abbrev pub has_header : List ℕ → Bool
has_header s = leb 4 (length s) && leb (length s) 65535 && leb (run_count s) 16 && leb (header_end s) (length s)

-- "Sheet 10, 1, 2, 11 over all pairs, 12 over all runs".
abbrev pub sheet_tests : Limits → List ℕ → List Test
sheet_tests most s =
    (not (has_header s), bad_sheet)
    ∷ open_tests most (process_count s) (round_limit s)
    ++ ((not (is_in_order (header_end s) (length s) (runs s)), bad_pairs) ∷ (not (every whole_entries (runs s)), bad_run) ∷ [])

unfoldable pub sheet_refusal : Limits → List ℕ → ℕ
sheet_refusal most s = refusal (sheet_tests most s)

-- ---- the entries: "An entry has 6 bytes: kind, seat, 32-bit value."

-- "Kinds: 0 propose (any value), 1 work (value 0 is hint no, 1 is yes), 2 look (0), 3 crash (0)." 02, wish 10: "Sheets get kind 4, seat 0,
-- value 0"; "kind 4 with another seat or value is 13".
abbrev pub entry_of : (kind p value : ℕ) → Entry
entry_of kind p v =
    cond (eqb kind 0) (Acts (Propose p v))
    (cond (eqb kind 1) (cond (eqb v 0) (Acts (Step p false)) (cond (eqb v 1) (Acts (Step p true)) Malformed))
    (cond (eqb kind 2) (cond (eqb v 0) (Acts (Learn p)) Malformed)
    (cond (eqb kind 3) (cond (eqb v 0) (Acts (Crash p)) Malformed)
    (cond (eqb kind 4) (cond (eqb p 0 && eqb v 0) Closes Malformed) Malformed))))

abbrev pub is_malformed : Entry → Bool
is_malformed (Acts o) = false
is_malformed Closes = false
is_malformed Malformed = true

abbrev pub entry_at : List ℕ → (offset : ℕ) → Entry
entry_at s i = entry_of (byte_at s i) (byte_at s (i + 1)) (word32 s (i + 2))

-- The entries at an offset, 6 bytes each, as many as told.
abbrev pub entries_at : List ℕ → (offset count : ℕ) → List Entry
entries_at s i zero = []
entries_at s i (suc k) = entry_at s i ∷ entries_at s (i + 6) k

-- The entries of the runs, one run after another.
abbrev pub entries_of : List ℕ → List EntryRun → List Entry
entries_of s [] = []
entries_of s (x ∷ xs) = entries_at s x.offset (x.size / 6) ++ entries_of s xs

unfoldable pub entries : List ℕ → List Entry
entries s = entries_of s (runs s)
