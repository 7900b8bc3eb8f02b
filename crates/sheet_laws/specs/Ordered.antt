-- Runs in order, and that those of an accepted sheet, within whatever limits, end within its bytes.
use Rattle.std.specs.Prelude.{◌+◌, ◌≤◌, ◌<◌, ◌≡◌, ◌∷◌}
use Rattle.base.specs.Prelude.{ℕ, suc, zero, arith, true, List, length, leb-true}
use Rattle.base.specs.Bools.{and_left, and_right}
use Rattle.model.specs.declared.Limits.{Limits}
use Rattle.model.specs.Sheet.{EntryRun, run_at, run_count, runs_from, header_end, is_in_order, sheet_refusal}
use Rattle.model_laws.specs.SheetFacts.{sheet_facts}
use Rattle.sheet_laws.specs.Places.{Inside}

-- The first of runs in order lies where it may, and the others are in order behind it.
pub in_order : (from size : ℕ) (x : EntryRun) (xs : List EntryRun) → is_in_order from size (x ∷ xs) ≡ true
    → (from ≤ x.offset) × (x.offset + x.size ≤ size) × (is_in_order (x.offset + x.size) size xs ≡ true)
in_order from size x xs h = search (and_left, and_right, leb-true)

-- Runs in order end where they may: run j is d behind the first.
ends_in : (s : List ℕ) (size k from i : ℕ) → is_in_order from size (runs_from s i k) ≡ true
    → (j d : ℕ) → j ≡ i + d → d < k → (run_at s j).offset + (run_at s j).size ≤ size
ends_in s size zero from i h j d e l = absurd (omega arith)
ends_in s size (suc k) from i h j zero e l =
    let f : j ≡ i = omega arith in
    rw f (in_order from size (run_at s i) (runs_from s (suc i) k) h).1
ends_in s size (suc k) from i h j (suc d) e l =
    let x = run_at s i in
    ends_in s size k (x.offset + x.size) (suc i) (in_order from size x (runs_from s (suc i) k) h).2 j d (omega arith) (omega arith)

-- So every run of it ends within 65,535 bytes.
pub accepted_inside : (most : Limits) (s : List ℕ) → sheet_refusal most s ≡ 0 → Inside s
accepted_inside most s h =
    let a = sheet_facts most s h in
    let ends = ends_in s (length s) (run_count s) (header_end s) 0 a.ordered in
    record { ends = λ i l. omega (arith, a.few, ends i i (omega arith) l) }
