-- Runs laid out without gaps: one run more.
use Rattle.std.specs.Prelude.{◌+◌, ◌*◌, ◌≤◌, ◌<◌, ◌≡◌, ◌∷◌, ◌++◌}
use Rattle.base.specs.Prelude.{ℕ, suc, zero, arith, add-one, le_of_lt, ap, ◌∙◌, List, []}
use Rattle.base.specs.Prelude.{length, get_or, take, take-suc, length-take-le, sets}
use Rattle.base.specs.Arrays.{sets_append}
use Rattle.model.specs.Bytes.{bytes16}
use Rattle.model.specs.Sheet.{EntryRun}
use Rattle.model_write.specs.Write.{laid_out, pair_bytes, total}
use Rattle.model_write_laws.specs.Sizes.{length_laid_out, length_pair_bytes}

-- A run of m entries behind those of the lengths ms.
abbrev pub run_behind : (from : ℕ) (ms : List ℕ) (m : ℕ) → EntryRun
run_behind from ms m = record { offset = from + 6 * total ms; size = 6 * m }

pub total_more : (ms : List ℕ) (m : ℕ) → total (ms ++ m ∷ []) ≡ total ms + m
total_more [] m = omega arith
total_more (x ∷ ms) m = omega (arith, total_more ms m)

-- The pairs of one run more: its own come last.
pairs_behind : (from : ℕ) (ms : List ℕ) (m : ℕ)
    → pair_bytes (laid_out from (ms ++ m ∷ [])) ≡ pair_bytes (laid_out from ms) ++ pair_bytes (run_behind from ms m ∷ [])
pairs_behind from [] m = let e : from + 6 * 0 ≡ from = omega arith in rw e
pairs_behind from (x ∷ ms) m =
    let e : from + 6 * x + 6 * total ms ≡ from + 6 * (x + total ms) = omega arith in
    ap (λ (r : List ℕ). bytes16 from ++ (bytes16 (6 * x) ++ r)) (pairs_behind (from + 6 * x) ms m ∙ rw e)

module _ (ms : List ℕ) (i : ℕ) (h : i < length ms) where
  -- The lengths up to i, and the one there.
  taken_more : take (i + 1) ms ≡ take i ms ++ get_or ms i 0 ∷ []
  taken_more = rw add-one (take-suc ms i 0 h)

  pub total_taken : total (take (i + 1) ms) ≡ total (take i ms) + get_or ms i 0
  total_taken = rw taken_more (total_more (take i ms) (get_or ms i 0))

  -- A pair stored behind those before it.
  pub pairs_more : (s : List ℕ) (from : ℕ)
      → let x = run_behind from (take i ms) (get_or ms i 0) in
      sets (sets (sets s 4 (pair_bytes (laid_out from (take i ms)))) (4 + 4 * i) (bytes16 x.offset)) (6 + 4 * i) (bytes16 x.size)
      ≡ sets s 4 (pair_bytes (laid_out from (take (i + 1) ms)))
  pairs_more s from =
      let e : length (pair_bytes (laid_out from (take i ms))) ≡ 4 * i = simp
      (length_pair_bytes, length_laid_out, length-take-le i ms (le_of_lt h)) in
      let size : 6 + 4 * i ≡ suc (suc (4 + 4 * i)) = omega arith in
      rw (taken_more, pairs_behind, sets_append, e, size)

-- No part of the lengths adds up to more than all of them.
pub total_part : (ms : List ℕ) (i : ℕ) → total (take i ms) ≤ total ms
total_part ms zero = omega arith
total_part [] (suc i) = omega arith
total_part (m ∷ ms) (suc i) = omega (arith, total_part ms i)
