-- Document 02, wish 3, the two round trips of writer and reader, as claims about the definitions. `theory_write/proofs/Functions.antt` has
-- them of the functions.
use Rattle.std.specs.Prelude.{ℕ, ◌+◌, ◌/◌, ◌≤◌, ◌<◌, ◌≡◌, Bool, true, ◌&&◌, List, [], ◌∷◌, ◌++◌, map, length, take, drop, eqb}
use Rattle.model.specs.declared.Limits.{Limits}
use Rattle.model.specs.Bytes.{byte_at}
use Rattle.model.specs.Board.{opened, no_counts}
use Rattle.model.specs.Window.{window}
use Rattle.model.specs.ReadOut.{count_answer}
use Rattle.model.specs.Sheet.{EntryRun, process_count, round_limit, runs, header_end, sheet_refusal, entries}
use Rattle.model.specs.Runner.{run_from, run_within}
use Rattle.model_write.specs.Write.{well_formed, buffer_entries, wrote, write_result}

-- ---- what is read of a sheet besides n and L

-- Its cuts: the lengths of its runs, in entries.
abbrev pub lengths : List EntryRun → List ℕ
lengths xs = map (λ (x : EntryRun). x.size / 6) xs

abbrev pub lengths_of : List ℕ → List ℕ
lengths_of s = lengths (runs s)

-- The bytes of its entries: those of its runs, one run after another.
abbrev pub run_bytes : List ℕ → List EntryRun → List ℕ
run_bytes s [] = []
run_bytes s (x ∷ xs) = take x.size (drop x.offset s) ++ run_bytes s xs

abbrev pub entry_bytes : List ℕ → List ℕ
entry_bytes s = run_bytes s (runs s)

-- 02: "no gaps and no trailing bytes": the first run starts where the pairs end, each next one where the run before it ends, and the sheet
-- ends with the last run; a sheet of no runs ends with its pairs.
abbrev pub follow : (from size : ℕ) → List EntryRun → Bool
follow from size [] = eqb from size
follow from size (x ∷ xs) = eqb x.offset from && follow (x.offset + x.size) size xs

unfoldable pub gapless : List ℕ → Bool
gapless s = follow (header_end s) (length s) (runs s)

-- ---- written, then read

-- "The reader finds in it the same header, entries and cuts": what holds of a sheet that was written.
pub record ReadsAs (most : Limits) (n L : ℕ) (es ms sheet : List ℕ) : Type 0 where
  pub accepted : sheet_refusal most sheet ≡ 0
  pub processes : process_count sheet ≡ n
  pub limit : round_limit sheet ≡ L
  pub cuts : lengths_of sheet ≡ ms
  pub bytes : entry_bytes sheet ≡ es
  pub operations : entries sheet ≡ buffer_entries es
  pub no_gaps : gapless sheet ≡ true
  -- Running it is running the entries.
  pub runs : (budget : ℕ) → run_within most sheet budget ≡ run_from (window n) budget 0 (opened n L) no_counts (buffer_entries es)

-- Of every accepted call: the sheet is the first bytes of the output, as many as the call answers. L has 16 bits in a sheet, and so the
-- limits' rounds have in `Limits`.
abbrev pub WrittenReads : Type 0
WrittenReads =
    (most : Limits) (n L : ℕ) (es ms out : List ℕ)
    → most.rounds < 65536
    → (write_result most n L es ms out).answer.code ≡ 0
    → let w = write_result most n L es ms out in
    ReadsAs most n L es ms (take w.answer.count w.buffer)

-- ---- read, then written

-- "A sheet with an accepted header, well-formed entries, no gaps and no trailing bytes, read and written again, comes back byte for byte",
-- to every output that is long enough.
abbrev pub ReadWrites : Type 0
ReadWrites =
    (most : Limits) (s out : List ℕ)
    → ((i : ℕ) → byte_at s i < 256)
    → sheet_refusal most s ≡ 0
    → well_formed (entries s) ≡ true
    → gapless s ≡ true
    → length s ≤ length out
    → write_result most (process_count s) (round_limit s) (entry_bytes s) (lengths_of s) out
    ≡ wrote (count_answer 0 (length s)) (s ++ drop (length s) out)
