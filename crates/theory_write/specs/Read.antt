-- Document 02, wish 3: what is read is written again.
use Rattle.std.specs.Prelude.{◌+◌, ◌*◌, ◌≤◌, ◌≡◌}
use Rattle.std.proofs.Common.{length-drop}
use Rattle.base.specs.Prelude.{ℕ, arith, sym, ◌∙◌, ap, true, List, length, length-map, drop, take_all}
use Rattle.model.specs.Sheet.{process_count, run_count, round_limit, runs, header_end, whole_entries}
use Rattle.model.specs.Sound.{every}
use Rattle.model_laws.specs.ByteLaws.{AreBytes}
use Rattle.model_laws.specs.SheetLaws.{length_runs_from}
use Rattle.model_write.specs.Write.{laid_out, sheet_of, total, write_result}
use Rattle.model_write.specs.RoundTrip.{lengths_of, run_bytes, entry_bytes, gapless, ReadWrites}
use Rattle.theory_write.specs.Follow.{laid_out_lengths, total_lengths, run_bytes_laid_out}
use Rattle.theory_write.specs.Pairs.{sheet_parts}
use Rattle.theory_write.specs.SheetOf.{entries_sheet_of}
use Rattle.model_write_laws.specs.Facts.{WriteFacts, facts_write}
use Rattle.model_laws.specs.SheetFacts.{sheet_facts}

-- As many cuts as runs.
pub length_lengths_of : (s : List ℕ) → length (lengths_of s) ≡ run_count s
length_lengths_of s = simp (length-map, length_runs_from)

-- Of a sheet without gaps whose runs are whole entries:
module _ (s : List ℕ) (whole : every whole_entries (runs s) ≡ true) (gap : gapless s ≡ true) where
  -- Its runs are laid out by its cuts.
  runs_laid_out : laid_out (header_end s) (lengths_of s) ≡ runs s
  unfolding gapless
  runs_laid_out = laid_out_lengths (header_end s) (length s) (runs s) gap whole

  -- Its cuts add up to the bytes behind the pairs.
  total_lengths_of : header_end s + 6 * total (lengths_of s) ≡ length s
  unfolding gapless
  total_lengths_of = total_lengths (header_end s) (length s) (runs s) gap whole

  -- These are its entries' bytes.
  entry_bytes_gapless : entry_bytes s ≡ drop (header_end s) s
  entry_bytes_gapless =
      let all : length (drop (header_end s) s) ≤ 6 * total (lengths_of s) = rw length-drop (omega (arith, total_lengths_of)) in
      ap (run_bytes s) (sym runs_laid_out) ∙ run_bytes_laid_out s (header_end s) (lengths_of s) ∙ take_all _ _ all

  -- So its cuts add up to its entries.
  length_entry_bytes : 6 * total (lengths_of s) ≡ length (entry_bytes s)
  length_entry_bytes = rw (entry_bytes_gapless, length-drop) (omega (arith, total_lengths_of))

  -- Written again, it is the same sheet.
  pub sheet_of_read : AreBytes s → header_end s ≤ length s → sheet_of (process_count s) (round_limit s) (entry_bytes s) (lengths_of s) ≡ s
  unfolding sheet_of
  sheet_of_read bytes header = rw (length_lengths_of s, runs_laid_out, entry_bytes_gapless) (sym (sheet_parts s bytes header))

-- So the call that is given what was read is accepted, and writes the sheet.
pub read_writes : ReadWrites
unfolding write_result
read_writes most s out bytes ok formed gap room =
    let a = sheet_facts most s ok in
    let n = process_count s in
    let L = round_limit s in
    let es = entry_bytes s in
    let ms = lengths_of s in
    let same : sheet_of n L es ms ≡ s = sheet_of_read s a.whole gap bytes a.header in
    let sum : 6 * total ms ≡ length es = length_entry_bytes s a.whole gap in
    let few : length (sheet_of n L es ms) ≤ 65535 = rw same a.few in
    let b : WriteFacts most n L es ms (length out) =
    record {
      opens = a.opens;
      whole = sum;
      count = rw (length_lengths_of s) a.count;
      few = few;
      formed = rw (← entries_sheet_of n L es ms few sum, same) formed;
      fits = rw same room;
    }
    in
    rw (facts_write most n L es ms (length out) b, same)
