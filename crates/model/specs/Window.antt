-- Document 01, "The board and the seats", and 02, wish 8: the window W.
use Rattle.std.specs.Prelude.{ℕ, suc, zero, ◌*◌, cond, leb}

-- The first of m, m + 1, .., m + fuel whose square is at least n.
unfoldable pub root_from : ℕ → ℕ → ℕ → ℕ
root_from zero m n = m
root_from (suc fuel) m n = cond (leb n (m * m)) m (root_from fuel (suc m) n)

-- 01: "the root of n, rounded up to a whole number": the smallest m with m · m at least n.
unfoldable pub root_up : ℕ → ℕ
root_up n = root_from n 0 n

-- 01 had "Window W = 2 times (the root of n, rounded up to a whole number) + 1." Document 02, wish 8: "W becomes the smallest whole number
-- with W times W at least 4n: n = 1, 2, 4, 5, 9, 16, 64 give 2, 3, 4, 5, 6, 8, 16." That is the root of 4n, rounded up. Wish 4 has a root
-- worked out "by adding odd numbers, without a product": the code and its proof (`part_window`) do.
unfoldable pub window : ℕ → ℕ
window n = root_up (4 * n)
