-- How long what is written is.
use Rattle.std.specs.Prelude.{◌+◌, ◌*◌, ◌≡◌, ◌∷◌}
use Rattle.base.specs.Prelude.{ℕ, suc, arith, refl, ap, List, [], length, length-append}
use Rattle.model.specs.Sheet.{EntryRun}
use Rattle.model_write.specs.Write.{laid_out, pair_bytes, sheet_of}

-- As many runs are laid out as there are lengths.
pub length_laid_out : (from : ℕ) (ms : List ℕ) → length (laid_out from ms) ≡ length ms
length_laid_out from [] = refl
length_laid_out from (m ∷ ms) = ap suc (length_laid_out (from + 6 * m) ms)

-- A pair has four bytes.
pub length_pair_bytes : (xs : List EntryRun) → length (pair_bytes xs) ≡ 4 * length xs
length_pair_bytes [] = refl
length_pair_bytes (x ∷ xs) = omega (arith, length_pair_bytes xs)

-- The header has four bytes, the pairs have four each, and the entries theirs.
pub length_sheet_of : (n L : ℕ) (es ms : List ℕ) → length (sheet_of n L es ms) ≡ 4 + 4 * length ms + length es
unfolding sheet_of
length_sheet_of n L es ms = simp (length-append, length_pair_bytes, length_laid_out) (omega arith)
