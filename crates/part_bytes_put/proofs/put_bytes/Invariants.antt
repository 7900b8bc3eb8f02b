-- The loop's invariant: the first i bytes are stored.
use Rattle.std.specs.Prelude.{◌≡◌}
use Rattle.base.specs.Prelude.{take, sets}
use Rattle.part_bytes_put.proofs.put_bytes.Given as goal

abbrev pub invariant-loop-i : goal.invariant-loop-i
invariant-loop-i l = l.buffer ≡ sets l.initial.buffer l.at (take l.i l.bytes)
