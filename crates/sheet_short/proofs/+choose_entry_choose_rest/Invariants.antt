-- The recursion of `choose_entry` and `choose_rest`: 16 left + (10 - e), and 16 left + 15, fall.
use Rattle.std.specs.Prelude.{◌+◌, ◌*◌, ◌-◌}
use Rattle.sheet_short.proofs.+choose_entry_choose_rest.Given as goal

abbrev pub decreases-choose_entry : goal.decreases-choose_entry
decreases-choose_entry l = 16 * l.search.now.left + (10 - l.e)

abbrev pub decreases-choose_rest : goal.decreases-choose_rest
decreases-choose_rest l = 16 * l.search.now.left + 15
