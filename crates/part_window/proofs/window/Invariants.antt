-- The loop of `window`: `square` is the sum of the first `root` odd numbers, `odd` is the next one, and the search from `root`, which is at
-- most `end`, finds the root of `end`. What `square` lacks to be above `end` falls.
use Rattle.std.specs.Prelude.{◌+◌, ◌*◌, ◌-◌, ◌≤◌, ◌≡◌}
use Rattle.base.specs.Squares.{odd_sum}
use Rattle.model.specs.Window.{root_from, root_up}
use Rattle.part_window.proofs.window.Given as goal

abbrev pub invariant-loop-square : goal.invariant-loop-square
invariant-loop-square l = record {
  sum : l.square ≡ odd_sum l.root;
  next : l.odd ≡ 2 * l.root + 1;
  low : l.root ≤ l.end;
  found : root_up l.end ≡ root_from (l.end - l.root) l.root l.end;
}

abbrev pub decreases-loop-square : goal.decreases-loop-square
decreases-loop-square l = l.end + 1 - l.square
