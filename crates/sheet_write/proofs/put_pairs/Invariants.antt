-- The loop's invariant: the pairs of the first i runs are stored, and `from` is where they end.
use Rattle.std.proofs.Common.{◌≡◌, ◌+◌, ◌*◌, length, take}
use Rattle.std.proofs.lemmas.List.Edits.{sets}
use Rattle.model_write.specs.Write.{laid_out, pair_bytes, total}
use Rattle.sheet_write.proofs.put_pairs.Given as goal

abbrev pub invariant-loop-i : goal.invariant-loop-i
invariant-loop-i l = record {
  ends : l.from ≡ 4 + 4 * length l.lengths + 6 * total (take l.i l.lengths);
  stored : l.sheet ≡ sets l.initial.sheet 4 (pair_bytes (laid_out (4 + 4 * length l.lengths) (take l.i l.lengths)));
}
