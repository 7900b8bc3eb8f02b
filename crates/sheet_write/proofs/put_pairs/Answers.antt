-- The next run ends within 65,535 bytes.
use Rattle.std.specs.Prelude.{◌+◌, ◌*◌, ◌≤◌, ◌<◌, ◌≡◌}
use Rattle.base.specs.Prelude.{ℕ, arith, List, length, get_or, take}
use Rattle.model_write.specs.Write.{total}
use Rattle.model_write_laws.specs.Laid.{total_taken, total_part}
use Rattle.sheet_write.proofs.put_pairs.Goals as goal

low : (ms : List ℕ) (i : ℕ) {from : ℕ} → i < length ms → from ≡ 4 + 4 * length ms + 6 * total (take i ms)
    → 4 + 4 * length ms + 6 * total ms ≤ 65535 → from + 6 * get_or ms i 0 ≤ 65535
low ms i h e few = omega (arith, total_taken ms i h, total_part ms (i + 1))

pub overflow_mul-size : goal.overflow_mul-size
overflow_mul-size c = omega (arith, low c.args.lengths.now c.loop-i.i c.loop-i-test.true c.loop-i.invariant.ends c.requires.lengths_bound)

pub overflow_cast-size : goal.overflow_cast-size
overflow_cast-size c = omega (arith, low c.args.lengths.now c.loop-i.i c.loop-i-test.true c.loop-i.invariant.ends c.requires.lengths_bound)

pub overflow_add-from-in-loop-i : goal.overflow_add-from-in-loop-i
overflow_add-from-in-loop-i c =
    omega (arith, low c.args.lengths.now c.loop-i.i c.loop-i-test.true c.loop-i.invariant.ends c.requires.lengths_bound)
