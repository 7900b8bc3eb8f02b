use Rattle.std.specs.Prelude.{◌≡◌, ◌+◌}
use Rattle.base.specs.Prelude.{◌∙◌, ap, ap₂, sub-zero, refl, arith}
use Rattle.base.specs.Squares.{odd_sum, odd_sum_next}
use Rattle.model.specs.Window.{root_from, root_up, window}
use Rattle.part_window.proofs.Root.{root_found, root_below, root_above}
use Rattle.part_window.proofs.window.Goals as goal

pub loop-square-init : goal.loop-square-init
unfolding root_up odd_sum
loop-square-init c = record { sum = refl; next = refl; low = omega arith; found = simp sub-zero }

pub loop-square-preserved : goal.loop-square-preserved
loop-square-preserved c =
    let i = c.loop-square.invariant in record {
      sum = ap₂ ◌+◌ i.sum i.next ∙ odd_sum_next _;
      next = omega arith;
      low = root_below _ i.sum (omega arith);
      found = i.found ∙ root_above _ i.sum (omega arith);
    }

pub returns : goal.returns
unfolding window
returns c =
    let i = c.loop-square.invariant in
    let whole : window c.args.n ≡ c.loop-square.root =
    ap root_up (omega arith) ∙ i.found ∙ root_found _ _ i.sum (omega arith) in
    omega (arith, whole)
