-- Document 02, wish 3, "Write the sheet too": "given n, L, entries of 6 bytes in a lent buffer and a list of run lengths in entries, it
-- writes, and returns the size of, a sheet whose first run starts at 4 + 4p and whose runs follow without gaps."
use Rattle.std.specs.Prelude.{ℕ, ◌+◌, ◌*◌, ◌/◌, ◌%◌, Bool, not, ◌&&◌, List, [], ◌∷◌, ◌++◌, length, leb, ltb, eqb}
use Rattle.model.specs.declared.Limits.{Limits}
use Rattle.model.specs.declared.Entry.{Entry}
use Rattle.model.specs.Answers.{CountAnswer}
use Rattle.model.specs.Bytes.{bytes16}
use Rattle.model.specs.Numbers.{bad_run, bad_cuts, bad_entry, bad_buffer}
use Rattle.model.specs.Refusal.{Test, refusal, open_tests}
use Rattle.model.specs.Sound.{every}
use Rattle.model.specs.ReadOut.{count_answer, buffered}
use Rattle.model.specs.Sheet.{EntryRun, entries_at, is_malformed}

-- ---- the sheet

-- Runs of these lengths in entries (02: cuts), the first at byte `from`, each next one at the end of the one before: "without gaps".
abbrev pub laid_out : (from : ℕ) (lengths : List ℕ) → List EntryRun
laid_out from [] = []
laid_out from (m ∷ ms) = record { offset = from; size = 6 * m } ∷ laid_out (from + 6 * m) ms

-- 01: "p pairs, 16-bit offset and 16-bit length".
abbrev pub pair_bytes : List EntryRun → List ℕ
pair_bytes [] = []
pair_bytes (x ∷ xs) = bytes16 x.offset ++ (bytes16 x.size ++ pair_bytes xs)

-- 01: "Byte 0: n. Byte 1: the count p of pairs, 0 to 16. Bytes 2 and 3: L. Then p pairs"; 02: "first run starts at 4 + 4p". Then the
-- entries.
unfoldable pub sheet_of : (n L : ℕ) (entries lengths : List ℕ) → List ℕ
sheet_of n L es ms = (n ∷ length ms ∷ bytes16 L) ++ (pair_bytes (laid_out (4 + 4 * length ms) ms) ++ es)

-- ---- the refusals

-- The sum of the lengths, however large.
abbrev pub total : List ℕ → ℕ
total [] = 0
total (m ∷ ms) = m + total ms

-- "12 for the entry buffer": it is whole entries of 6 bytes.
abbrev pub whole_buffer : (entries : List ℕ) → Bool
whole_buffer es = eqb (length es % 6) 0

-- "17: more than 16 runs, over 65,535 bytes, or run lengths that do not add up to the entries."
abbrev pub writable : (n L : ℕ) (entries lengths : List ℕ) → Bool
writable n L es ms = leb (length ms) 16 && leb (length (sheet_of n L es ms)) 65535 && eqb (total ms) (length es / 6)

-- 01, 13: "entry with an unknown kind or a wrong value".
abbrev pub well_formed : List Entry → Bool
well_formed xs = every (λ x. not (is_malformed x)) xs

-- What the bytes of an entry buffer say.
abbrev pub buffer_entries : (entries : List ℕ) → List Entry
buffer_entries es = entries_at es 0 (length es / 6)

-- "Order: 1, 2, 12 for the entry buffer, 17, 13, then 15 if the output is too short", within a caller's limits; room is the output's
-- length.
abbrev pub write_tests : Limits → (n L : ℕ) (entries lengths : List ℕ) (room : ℕ) → List Test
write_tests most n L es ms room =
    open_tests most n L
    ++ ((not (whole_buffer es), bad_run)
    ∷ (not (writable n L es ms), bad_cuts)
    ∷ (not (well_formed (buffer_entries es)), bad_entry)
    ∷ (ltb room (length (sheet_of n L es ms)), bad_buffer)
    ∷ [])

unfoldable pub write_refusal : Limits → (n L : ℕ) (entries lengths : List ℕ) (room : ℕ) → ℕ
write_refusal most n L es ms room = refusal (write_tests most n L es ms room)

-- ---- the call

-- What a call of the writer gives: its answer, the refusal or 0 and the size, and what the output buffer then holds.
pub record WriteResult : Type 0 where
  pub answer : CountAnswer
  pub buffer : List ℕ

abbrev pub wrote : CountAnswer → (buffer : List ℕ) → WriteResult
wrote a b = record { answer = a; buffer = b }

-- "A refused call leaves the output buffer unchanged; otherwise only the sheet's bytes in it change."
unfoldable pub write_result : Limits → (n L : ℕ) (entries lengths output : List ℕ) → WriteResult
write_result most n L es ms out =
    let code = write_refusal most n L es ms (length out) in
    let sheet = sheet_of n L es ms in
    wrote (count_answer code (length sheet)) (buffered code sheet out)
