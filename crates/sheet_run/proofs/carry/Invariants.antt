-- The loop's invariant is `Reads`: the run from here on gives the answer, and the session is sound. The measure is the number of entries
-- left.
use Rattle.std.proofs.Common.{length}
use Rattle.model.specs.Runner.{run_from}
use Rattle.model.specs.Sheet.{entries}
use Rattle.sheet_laws.specs.Reading.{left_to}
use Rattle.sheet_laws.specs.Carried.{Reads}
use Rattle.sheet_run.proofs.carry.Given as goal

abbrev pub invariant-loop-e : goal.invariant-loop-e
invariant-loop-e l =
    Reads (run_from l.window l.budget 0 l.initial.s l.initial.c (entries l.sheet)) l.budget l.window l.s l.c l.k l.reader

abbrev pub decreases-loop-e : goal.decreases-loop-e
decreases-loop-e l = length (left_to l.reader)
