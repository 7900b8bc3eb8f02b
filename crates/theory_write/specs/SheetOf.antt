-- A sheet as it is written: what is read of it.
use Rattle.std.specs.Prelude.{◌+◌, ◌*◌, ◌/◌, ◌≤◌, ◌<◌, ◌≡◌}
use Rattle.std.proofs.Math.Seq.{drop_at}
use Rattle.base.specs.Prelude.{ℕ, arith, add-zero, refl, sym, ◌∙◌, ap, true, List, length, drop, drop-drop}
use Rattle.base.specs.Prelude.{take_all}
use Rattle.model.specs.Sheet.{process_count, run_count, round_limit, runs, whole_entries, entries_of, entries}
use Rattle.model.specs.Sound.{every}
use Rattle.model_laws.specs.ByteLaws.{word16_at}
use Rattle.model_laws.specs.SheetLaws.{entries_at_drop}
use Rattle.model_write.specs.Write.{laid_out, pair_bytes, sheet_of, total, buffer_entries}
use Rattle.model_write.specs.RoundTrip.{lengths, lengths_of, run_bytes, entry_bytes, follow, gapless}
use Rattle.theory_write.specs.Follow.{lengths_laid_out, whole_laid_out, follow_laid_out, entries_of_laid_out, run_bytes_laid_out}
use Rattle.theory_write.specs.Pairs.{runs_from_pair_bytes}
use Rattle.model_write_laws.specs.Sizes.{length_laid_out, length_pair_bytes, length_sheet_of}

-- ---- its header, and its entries behind the pairs

module _ (n L : ℕ) (es ms : List ℕ) where
  -- Byte 0, byte 1, and bytes 2 and 3.
  pub process_count_sheet_of : process_count (sheet_of n L es ms) ≡ n
  unfolding sheet_of
  process_count_sheet_of = refl

  pub run_count_sheet_of : run_count (sheet_of n L es ms) ≡ length ms
  unfolding sheet_of
  run_count_sheet_of = refl

  pub round_limit_sheet_of : L < 65536 → round_limit (sheet_of n L es ms) ≡ L
  unfolding sheet_of
  round_limit_sheet_of low = word16_at (sheet_of n L es ms) _ 2 L refl low

  -- The entries' bytes stand behind the pairs.
  drop_sheet_of : drop (4 + 4 * length ms) (sheet_of n L es ms) ≡ es
  unfolding sheet_of
  drop_sheet_of =
      let pairs = pair_bytes (laid_out (4 + 4 * length ms) ms) in
      sym (drop-drop (4 * length ms) 4 (sheet_of n L es ms)) ∙ drop_at pairs es (4 * length ms) (simp (length_pair_bytes, length_laid_out))

-- ---- its runs and its entries: where it is small enough, and the lengths add up to the entries

module _ (n L : ℕ) (es ms : List ℕ) (few : length (sheet_of n L es ms) ≤ 65535) (whole : 6 * total ms ≡ length es) where
  -- The runs that are laid out end with the sheet.
  laid_out_sheet_of : follow (4 + 4 * length ms) (length (sheet_of n L es ms)) (laid_out (4 + 4 * length ms) ms) ≡ true
  laid_out_sheet_of = follow_laid_out _ _ ms (omega (arith, length_sheet_of n L es ms))

  -- They are the runs that are read,
  pub runs_sheet_of : runs (sheet_of n L es ms) ≡ laid_out (4 + 4 * length ms) ms
  unfolding sheet_of
  runs_sheet_of =
      let xs = laid_out (4 + 4 * length ms) ms in
      let low : length (sheet_of n L es ms) < 65536 = omega arith in
      rw length_laid_out at (runs_from_pair_bytes (sheet_of n L es ms) es xs 0 _ _ low laid_out_sheet_of refl)

  -- which are whole entries,
  pub whole_sheet_of : every whole_entries (runs (sheet_of n L es ms)) ≡ true
  whole_sheet_of = rw runs_sheet_of (whole_laid_out _ ms)

  -- without gaps,
  pub gapless_sheet_of : gapless (sheet_of n L es ms) ≡ true
  unfolding gapless
  gapless_sheet_of = rw (runs_sheet_of, run_count_sheet_of n L es ms) laid_out_sheet_of

  -- of the lengths given,
  pub lengths_of_sheet_of : lengths_of (sheet_of n L es ms) ≡ ms
  lengths_of_sheet_of = ap lengths runs_sheet_of ∙ lengths_laid_out _ ms

  -- with the bytes given,
  pub entry_bytes_sheet_of : entry_bytes (sheet_of n L es ms) ≡ es
  entry_bytes_sheet_of =
      let s = sheet_of n L es ms in
      ap (run_bytes s) runs_sheet_of ∙ run_bytes_laid_out s _ ms ∙ rw drop_sheet_of (take_all (6 * total ms) es (omega arith))

  -- and with the entries that these say.
  pub entries_sheet_of : entries (sheet_of n L es ms) ≡ buffer_entries es
  unfolding entries
  entries_sheet_of =
      let s = sheet_of n L es ms in
      let all : total ms ≡ length es / 6 = omega arith in
      let behind = rw (drop_sheet_of, add-zero) at (entries_at_drop (4 + 4 * length ms) s 0 (total ms)) in
      ap (entries_of s) runs_sheet_of ∙ entries_of_laid_out s _ ms ∙ sym behind ∙ rw all
