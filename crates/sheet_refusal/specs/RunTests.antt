-- Document 01, "Numbers returned", Order: ".. 11 over all pairs, 12 over all runs".
use Rattle.std.specs.Prelude.{◌∷◌}
use Rattle.base.specs.Prelude.{ℕ, cond, not, List, [], length}
use Rattle.model.specs.Numbers.{bad_pairs, bad_run}
use Rattle.model.specs.Refusal.{Test}
use Rattle.model.specs.Sheet.{EntryRun, runs, header_end, is_in_order, whole_entries}
use Rattle.model.specs.Sound.{every}

-- The last two of the sheet's tests.
abbrev pub run_tests : List ℕ → List Test
run_tests s =
    (not (is_in_order (header_end s) (length s) (runs s)), bad_pairs) ∷ (not (every whole_entries (runs s)), bad_run) ∷ []

-- The refusal by the runs that are left: `from` is where the run before ended, and n what the lengths before say.
abbrev pub left_refusal : (from size n : ℕ) → List EntryRun → ℕ
left_refusal from size n xs = cond (not (is_in_order from size xs)) 11 (cond (not (every whole_entries xs)) 12 n)
