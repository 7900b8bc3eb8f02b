-- The search for the rounded-up root of n, by the sum s of the first m odd numbers: for the loop of `window`, with any n as its end.
-- Assumes nothing.
use Rattle.std.specs.Prelude.{◌+◌, ◌*◌, ◌-◌, ◌≤◌, ◌<◌, ◌≡◌}
use Rattle.base.specs.Prelude.{ℕ, suc, zero, refl, add-one, arith, le-leb, lt-leb}
use Rattle.base.specs.Squares.{odd_sum, odd_sum_square, le_square}
use Rattle.model.specs.Window.{root_from}

-- Where the sum reaches n, the search from m stops at m.
pub root_found : (fuel m : ℕ) {s n : ℕ} → s ≡ odd_sum m → n ≤ s → root_from fuel m n ≡ m
unfolding root_from
root_found zero m sum h = refl
root_found (suc fuel) m {s} {n} sum h = simp (le-leb n (m * m) (omega (arith, sum, odd_sum_square m)))

-- Where it does not, m + 1 is at most n,
pub root_below : (m : ℕ) {s n : ℕ} → s ≡ odd_sum m → s < n → m + 1 ≤ n
root_below m sum h = omega (arith, sum, odd_sum_square m, le_square m)

-- and the search goes on at m + 1.
pub root_above : (m : ℕ) {s n : ℕ} → s ≡ odd_sum m → s < n → root_from (n - m) m n ≡ root_from (n - (m + 1)) (m + 1) n
unfolding root_from
root_above m {s} {n} sum h =
    let one : n - m ≡ suc (n - (m + 1)) = omega (arith, root_below m sum h) in
    rw (one, lt-leb n (m * m) (omega (arith, sum, odd_sum_square m)), add-one m)
