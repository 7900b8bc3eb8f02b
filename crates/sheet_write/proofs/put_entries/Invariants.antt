-- The loop's invariant: the first i bytes are stored.
use Rattle.std.specs.Prelude.{◌≡◌}
use Rattle.base.specs.Prelude.{take, sets}
use Rattle.sheet_write.proofs.put_entries.Given as goal

abbrev pub invariant-loop-i : goal.invariant-loop-i
invariant-loop-i l = l.sheet ≡ sets l.initial.sheet l.at (take l.i l.entries)
