-- The loop's invariant: the bytes so far are put.
use Rattle.std.proofs.Common.{take}
use Rattle.use_text.specs.Page.{Put}
use Rattle.use_text.proofs.Page.put_words.Given as goal

abbrev pub invariant-loop-b : goal.invariant-loop-b
invariant-loop-b l = Put l.initial.self (take l.b-index l.words) l.self
