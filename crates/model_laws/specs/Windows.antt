-- The rounded-up root, and the window made of it.
use Rattle.std.specs.Prelude.{◌+◌, ◌*◌, ◌≤◌}
use Rattle.base.specs.Prelude.{ℕ, suc, zero, arith, leb, leb-true, leb-false}
use Rattle.base.specs.Bools.{cond_cases}
use Rattle.base.specs.Squares.{le_square}
use Rattle.model.specs.Window.{root_from, root_up, window}

-- The number found has a square of at least n, if the last number tried has.
pub root_from_square : (fuel m n : ℕ) → n ≤ (m + fuel) * (m + fuel) → n ≤ root_from fuel m n * root_from fuel m n
unfolding root_from
root_from_square zero m n h = omega arith
root_from_square (suc fuel) m n h =
    cond_cases (λ k. n ≤ k * k) (leb n (m * m)) (leb-true n (m * m)) (λ t. root_from_square fuel (suc m) n (omega arith))

-- The square of the rounded-up root of n is at least n.
pub root_square : (n : ℕ) → n ≤ root_up n * root_up n
unfolding root_up
root_square n = root_from_square n 0 n (omega (arith, le_square n))

-- The number found is at most m + k, if the square of m + k is at least n.
root_from_smallest : (fuel m k n : ℕ) → n ≤ (m + k) * (m + k) → root_from fuel m n ≤ m + k
unfolding root_from
root_from_smallest zero m k n h = omega arith
root_from_smallest (suc fuel) m zero n h = cond_cases (λ x. x ≤ m + 0) (leb n (m * m)) (λ t. omega arith)
    (λ t. absurd (omega (arith, leb-false n (m * m) t)))
root_from_smallest (suc fuel) m (suc k) n h =
    cond_cases (λ x. x ≤ m + suc k) (leb n (m * m)) (λ t. omega arith)
    (λ t. omega (arith, root_from_smallest fuel (suc m) k n (omega arith)))

-- No smaller number than the rounded-up root of n has a square of at least n.
pub root_smallest : (m n : ℕ) → n ≤ m * m → root_up n ≤ m
unfolding root_up
root_smallest m n h = omega (arith, root_from_smallest n 0 m n (omega arith))

-- A window whose square is at least 4n is at least 2, where there is a process.
pub wide_enough : (W n : ℕ) → 1 ≤ n → 4 * n ≤ W * W → 2 ≤ W
wide_enough zero n some square = absurd (omega arith)
wide_enough (suc zero) n some square = absurd (omega arith)
wide_enough (suc (suc W)) n some square = omega arith

-- The window's square is at least 4n: all that the agreement rule asks of a window.
pub window_square : (n : ℕ) → 4 * n ≤ window n * window n
unfolding window
window_square n = omega (arith, root_square (4 * n))

-- And no smaller number than the window has such a square: 02, wish 8, "the smallest whole number with W times W at least 4n".
pub window_smallest : (W n : ℕ) → 4 * n ≤ W * W → window n ≤ W
unfolding window
window_smallest W n wide = root_smallest W (4 * n) wide

-- The window of one process or more is at least 2.
pub window_least : (n : ℕ) → 1 ≤ n → 2 ≤ window n
window_least n some = wide_enough (window n) n some (window_square n)

-- The window is at most twice the number of processes and one: no more than the rounds that a session holds.
pub window_low : (n : ℕ) → window n ≤ 2 * n + 1
window_low n = window_smallest (2 * n + 1) n (omega arith)
