-- How many entries a sheet can have: at most 10,921, the budget of document 01's board report.
use Rattle.std.specs.Prelude.{◌+◌, ◌*◌, ◌≤◌, ◌≡◌, ◌∷◌}
use Rattle.base.specs.Prelude.{ℕ, suc, zero, arith, refl, ap, true, List, [], length, length-append}
use Rattle.model.specs.declared.Limits.{Limits}
use Rattle.model.specs.Sheet.{EntryRun, runs, header_end, is_in_order, entries_at, entries_of, entries, sheet_refusal}
use Rattle.model_laws.specs.SheetFacts.{sheet_facts}
use Rattle.sheet_laws.specs.Ordered.{in_order}

length_entries_at : (s : List ℕ) (i k : ℕ) → length (entries_at s i k) ≡ k
length_entries_at s i zero = refl
length_entries_at s i (suc k) = ap suc (length_entries_at s (i + 6) k)

-- Runs in order, from one byte on up to another, have 6 bytes between those for each entry.
most_of : (s : List ℕ) (from size : ℕ) (xs : List EntryRun) → from ≤ size → is_in_order from size xs ≡ true
    → 6 * length (entries_of s xs) + from ≤ size
most_of s from size [] f h = omega arith
most_of s from size (x ∷ xs) f h =
    let o = in_order from size x xs h in
    rw (length-append, length_entries_at) (omega (arith, most_of s (x.offset + x.size) size xs o.1 o.2))

-- 01: "a budget of 10,921" is enough for every sheet that is accepted.
pub most_entries : (most : Limits) (s : List ℕ) → sheet_refusal most s ≡ 0 → length (entries s) ≤ 10921
unfolding entries
most_entries most s h =
    let a = sheet_facts most s h in
    omega (arith, a.few, most_of s (header_end s) (length s) (runs s) a.header a.ordered)
