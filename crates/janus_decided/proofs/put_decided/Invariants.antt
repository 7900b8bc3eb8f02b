-- The loop's invariant: the buffer holds the bytes of the first p processes.
use Rattle.std.proofs.Common.{◌≡◌, take}
use Rattle.std.proofs.lemmas.List.Edits.{sets}
use Rattle.model.specs.Export.{decided_bytes}
use Rattle.janus_decided.proofs.put_decided.Given as goal

abbrev pub invariant-loop-p : goal.invariant-loop-p
invariant-loop-p l = l.buffer ≡ sets l.initial.buffer 0 (decided_bytes (take l.p l.fn.s.processes))
