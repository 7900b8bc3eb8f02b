-- A byte more is stored: within the buffer it is written, and past the end that changes nothing.
use Rattle.std.specs.Prelude.{◌+◌}
use Rattle.base.specs.Prelude.{ℕ, List, arith, ◌∙◌, sym, ap, set, set_out, get_or}
use Rattle.base.specs.Arrays.{sets_more}
use Rattle.part_bytes_put.proofs.put_bytes.Goals as goal
use Rattle.part_bytes_put.proofs.put_bytes.Goals.{then-at-i, else-at-i}

pub loop-i-preserved : goal.loop-i-preserved
loop-i-preserved c =
    let at = c.args.at + c.loop-i.i in
    let b = get_or c.args.bytes.now c.loop-i.i 0 in
    let stored = ap (λ (l : List ℕ). set l at b) c.loop-i.invariant ∙ sets_more c.args.buffer.now c.args.at c.args.bytes.now c.loop-i.i c.loop-i-test.true in
    elim c.if-at-i.branch [
      | then-at-i w ↦ w.buffer-is ∙ stored
      | else-at-i w ↦ w.buffer-is ∙ sym (set_out c.loop-i.buffer at b (omega arith)) ∙ stored
    ]
