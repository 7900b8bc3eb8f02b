-- The highest filled round, register by register.
use Rattle.std.specs.Prelude.{◌+◌, ◌<◌, ◌≡◌}
use Rattle.base.specs.Prelude.{ℕ, add-one, cond, List, length, get_or, drop, drop-cons, eqb}
use Rattle.model.specs.Board.{highest_from}

pub highest_next : (l : List ℕ) (top r : ℕ) → r < length l
    → highest_from top r (drop r l) ≡ highest_from (cond (eqb (get_or l r 0) 0) top (r + 1)) (r + 1) (drop (r + 1) l)
highest_next l top r h = rw (add-one r, drop-cons l r 0 h)
