-- The loop's invariant: the entries from i on decide.
use Rattle.std.specs.Prelude.{◌≡◌, drop}
use Rattle.model.specs.Sound.{every}
use Rattle.sheet_write_refusal.proofs.Chunks.{chunk_formed}
use Rattle.sheet_write_refusal.proofs.well_formed.Given as goal

abbrev pub invariant-loop-kind : goal.invariant-loop-kind
invariant-loop-kind l = every chunk_formed l.whole ≡ every chunk_formed (drop l.kind-index l.whole)
