-- Squares of natural numbers.
use Rattle.std.specs.Prelude.{◌+◌, ◌*◌, ◌≤◌, ◌≡◌}
use Rattle.base.specs.Prelude.{ℕ, suc, zero, refl, add-one, arith}

-- A number is at most its square.
pub le_square : (n : ℕ) → n ≤ n * n
le_square zero = omega arith
le_square (suc n) = omega arith

-- The sum of the first m odd numbers, 1 + 3 + .. + (2m - 1).
unfoldable pub odd_sum : ℕ → ℕ
odd_sum zero = 0
odd_sum (suc m) = odd_sum m + (2 * m + 1)

-- One odd number more.
pub odd_sum_next : (m : ℕ) → odd_sum m + (2 * m + 1) ≡ odd_sum (m + 1)
unfolding odd_sum
odd_sum_next m = rw (add-one m)

-- The sum of the first m odd numbers is the square of m.
pub odd_sum_square : (m : ℕ) → odd_sum m ≡ m * m
unfolding odd_sum
odd_sum_square zero = refl
odd_sum_square (suc m) = omega (arith, odd_sum_square m)

-- The square of the smaller number is the smaller square.
pub square_le : (m n : ℕ) → m ≤ n → m * m ≤ n * n
square_le zero n low = omega arith
square_le (suc m) zero low = absurd (omega arith)
square_le (suc m) (suc n) low = omega (arith, square_le m n (omega arith))
