-- The pairs: runs that were written are read, and runs that were read are written.
use Rattle.std.specs.Prelude.{◌+◌, ◌*◌, ◌≤◌, ◌<◌, ◌≡◌, ◌∷◌, ◌++◌}
use Rattle.base.specs.Prelude.{ℕ, suc, zero, arith, zero-add, add-zero, refl, ap, true, List, []}
use Rattle.base.specs.Prelude.{length, drop, drop-cons}
use Rattle.model.specs.Bytes.{bytes16}
use Rattle.model.specs.Sheet.{EntryRun, process_count, run_count, round_limit, runs_from, runs, header_end}
use Rattle.model_laws.specs.ByteLaws.{AreBytes, word16_at, drop_bytes16, drop_word16}
use Rattle.model_write.specs.Write.{pair_bytes}
use Rattle.model_write.specs.RoundTrip.{follow}
use Rattle.theory_write.specs.Follow.{follow_cons, follow_le}

-- Where the pairs of runs stand that follow one another and end within 16 bits, these runs are read.
pub runs_from_pair_bytes : (s rest : List ℕ) (xs : List EntryRun) (i from size : ℕ) → size < 65536 → follow from size xs ≡ true
    → drop (4 + 4 * i) s ≡ pair_bytes xs ++ rest → runs_from s i (length xs) ≡ xs
runs_from_pair_bytes s rest [] i from size low f e = refl
runs_from_pair_bytes s rest (x ∷ xs) i from size low f e =
    let g = follow_cons from size x xs f in
    let ends = follow_le (x.offset + x.size) size xs g.1 in
    let a = 4 + 4 * i in
    let behind : drop (a + 2) s ≡ bytes16 x.size ++ (pair_bytes xs ++ rest) = drop_bytes16 s _ a x.offset e in
    let next : 4 + 4 * suc i ≡ a + 2 + 2 = omega arith in
    let later : drop (4 + 4 * suc i) s ≡ pair_bytes xs ++ rest = rw next (drop_bytes16 s _ (a + 2) x.size behind) in
    rw (word16_at s _ a x.offset e (omega arith), word16_at s _ (a + 2) x.size behind (omega arith))
    (ap (λ r. x ∷ r) (runs_from_pair_bytes s rest xs (suc i) (x.offset + x.size) size low g.1 later))

module _ (s : List ℕ) (bytes : AreBytes s) where
  -- The pairs of runs that are read from bytes are these bytes.
  pub pair_bytes_runs_from : (i k : ℕ) → 4 + 4 * (i + k) ≤ length s
      → drop (4 + 4 * i) s ≡ pair_bytes (runs_from s i k) ++ drop (4 + 4 * (i + k)) s
  pair_bytes_runs_from i zero h = rw add-zero
  pair_bytes_runs_from i (suc k) h =
      let a = 4 + 4 * i in
      let next : a + 2 + 2 ≡ 4 + 4 * suc i = omega arith in
      let same : i + suc k ≡ suc i + k = omega arith in
      let later = pair_bytes_runs_from (suc i) k (omega arith) in
      rw (drop_word16 s a bytes (omega arith), drop_word16 s (a + 2) bytes (omega arith), next, same, later)

  -- A sheet is its header, its pairs and what stands behind them.
  pub sheet_parts : header_end s ≤ length s
      → s ≡ (process_count s ∷ run_count s ∷ bytes16 (round_limit s)) ++ (pair_bytes (runs s) ++ drop (header_end s) s)
  sheet_parts h =
      let pairs = simp zero-add at (pair_bytes_runs_from 0 (run_count s) (simp zero-add h)) in
      cc (drop-cons s 0 0 (omega arith), drop-cons s 1 0 (omega arith), drop_word16 s 2 bytes (omega arith), pairs)
