-- The loop's invariant: the words and the numbers so far are put.
use Rattle.std.proofs.Common.{take}
use Rattle.use_text.specs.Page.{Put}
use Rattle.use_text.specs.Numbers.{with_fields}
use Rattle.use_text.proofs.Page.put_fields.Given as goal

abbrev pub invariant-loop-v : goal.invariant-loop-v
invariant-loop-v l = Put l.fn.self (with_fields l.words (take l.v-index l.fields)) l.self
