-- Runs without gaps: each starts where the one before it ends.
use Rattle.std.specs.Prelude.{◌+◌, ◌*◌, ◌/◌, ◌%◌, ◌≤◌, ◌≡◌, ◌∷◌}
use Rattle.std.proofs.Common.{take-add}
use Rattle.base.specs.Prelude.{ℕ, arith, refl, sym, ap, ap₂, true, List, [], take, drop, drop-drop}
use Rattle.base.specs.Prelude.{le-leb, eqb-true, eq-eqb}
use Rattle.base.specs.Bools.{and_left, and_right, and_both}
use Rattle.model.specs.Sheet.{EntryRun, is_in_order, whole_entries, entries_at, entries_of}
use Rattle.model.specs.Sound.{every}
use Rattle.model_laws.specs.SheetLaws.{entries_at_add}
use Rattle.model_write.specs.Write.{laid_out, total}
use Rattle.model_write.specs.RoundTrip.{lengths, run_bytes, follow}

-- ---- runs that follow one another

-- The first starts at the byte given, and the others follow it.
pub follow_cons : (from size : ℕ) (x : EntryRun) (xs : List EntryRun) → follow from size (x ∷ xs) ≡ true
    → (x.offset ≡ from) × (follow (x.offset + x.size) size xs ≡ true)
follow_cons from size x xs h = search (and_left, and_right, eqb-true)

-- They start no later than they end.
pub follow_le : (from size : ℕ) (xs : List EntryRun) → follow from size xs ≡ true → from ≤ size
follow_le from size [] h = omega (arith, eqb-true from size h)
follow_le from size (x ∷ xs) h =
    let f = follow_cons from size x xs h in
    omega (arith, follow_le (x.offset + x.size) size xs f.1)

-- They are in order.
pub follow_in_order : (from size : ℕ) (xs : List EntryRun) → follow from size xs ≡ true → is_in_order from size xs ≡ true
follow_in_order from size [] h = refl
follow_in_order from size (x ∷ xs) h =
    let f = follow_cons from size x xs h in
    let starts : from ≤ x.offset = omega arith in
    let ends = follow_le (x.offset + x.size) size xs f.1 in
    let later = follow_in_order (x.offset + x.size) size xs f.1 in
    search (and_both, le-leb)

-- ---- runs of whole entries that follow one another

-- The first has six bytes to an entry, and the others are whole.
whole_cons : (x : EntryRun) (xs : List EntryRun) → every whole_entries (x ∷ xs) ≡ true
    → (6 * (x.size / 6) ≡ x.size) × (every whole_entries xs ≡ true)
whole_cons x xs w =
    let six : x.size % 6 ≡ 0 = search (and_left, eqb-true) in
    (omega arith, search and_right)

-- They are laid out by their lengths.
pub laid_out_lengths : (from size : ℕ) (xs : List EntryRun) → follow from size xs ≡ true → every whole_entries xs ≡ true
    → laid_out from (lengths xs) ≡ xs
laid_out_lengths from size [] h w = refl
laid_out_lengths from size (x ∷ xs) h w =
    let f = follow_cons from size x xs h in
    let v = whole_cons x xs w in
    rw (v.0, ← f.0) (ap (λ r. x ∷ r) (laid_out_lengths (x.offset + x.size) size xs f.1 v.1))

-- Their lengths add up to the bytes between their start and their end.
pub total_lengths : (from size : ℕ) (xs : List EntryRun) → follow from size xs ≡ true → every whole_entries xs ≡ true
    → from + 6 * total (lengths xs) ≡ size
total_lengths from size [] h w = omega (arith, eqb-true from size h)
total_lengths from size (x ∷ xs) h w =
    let f = follow_cons from size x xs h in
    let v = whole_cons x xs w in
    omega (arith, total_lengths (x.offset + x.size) size xs f.1 v.1)

-- ---- runs laid out

-- Six bytes to an entry.
sixth : (m : ℕ) → 6 * m / 6 ≡ m
sixth m = omega arith

-- They have the lengths that they were laid out by.
pub lengths_laid_out : (from : ℕ) (ms : List ℕ) → lengths (laid_out from ms) ≡ ms
lengths_laid_out from [] = refl
lengths_laid_out from (m ∷ ms) = ap₂ ◌∷◌ (sixth m) (lengths_laid_out (from + 6 * m) ms)

-- They are of whole entries.
pub whole_laid_out : (from : ℕ) (ms : List ℕ) → every whole_entries (laid_out from ms) ≡ true
whole_laid_out from [] = refl
whole_laid_out from (m ∷ ms) = and_both (eq-eqb (6 * m % 6) 0 (omega arith)) (whole_laid_out (from + 6 * m) ms)

-- They follow one another.
pub follow_laid_out : (from size : ℕ) (ms : List ℕ) → from + 6 * total ms ≡ size → follow from size (laid_out from ms) ≡ true
follow_laid_out from size [] h = eq-eqb from size (omega arith)
follow_laid_out from size (m ∷ ms) h = and_both (eq-eqb from from refl) (follow_laid_out (from + 6 * m) size ms (omega arith))

module _ (s : List ℕ) where
  -- Their entries are those from the first byte on.
  pub entries_of_laid_out : (from : ℕ) (ms : List ℕ) → entries_of s (laid_out from ms) ≡ entries_at s from (total ms)
  entries_of_laid_out from [] = refl
  entries_of_laid_out from (m ∷ ms) = rw (sixth m, entries_of_laid_out (from + 6 * m) ms) (sym (entries_at_add s from m (total ms)))

  -- Their bytes are those from the first one on.
  pub run_bytes_laid_out : (from : ℕ) (ms : List ℕ) → run_bytes s (laid_out from ms) ≡ take (6 * total ms) (drop from s)
  run_bytes_laid_out from [] = refl
  run_bytes_laid_out from (m ∷ ms) =
      let sum : 6 * (m + total ms) ≡ 6 * m + 6 * total ms = omega arith in
      rw (sum, take-add, drop-drop, run_bytes_laid_out (from + 6 * m) ms)
