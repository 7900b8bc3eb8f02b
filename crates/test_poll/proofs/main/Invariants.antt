-- The measure is what is left of the input: what is left after a poll is shorter.
use Rattle.std.proofs.Common.{length}
use Rattle.test_poll.proofs.main.Given as goal

abbrev pub decreases-loop-rest : goal.decreases-loop-rest
decreases-loop-rest l = length l.rest
