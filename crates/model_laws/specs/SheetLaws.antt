-- The runs and the entries that are read from bytes.
use Rattle.std.specs.Prelude.{◌+◌, ◌*◌, ◌≡◌, ◌∷◌, ◌++◌}
use Rattle.std.proofs.Common.{get_or-drop}
use Rattle.base.specs.Prelude.{ℕ, zero, suc, arith, refl, ◌∙◌, ap, ap₂, List, length, drop}
use Rattle.base.specs.Prelude.{zero-add, add-zero, suc-add, add_assoc}
use Rattle.model.specs.Sheet.{runs_from, entry_at, entries_at}
use Rattle.model_laws.specs.ByteLaws.{word32_drop}

-- As many runs are read as told.
pub length_runs_from : (s : List ℕ) (i k : ℕ) → length (runs_from s i k) ≡ k
length_runs_from s i zero = refl
length_runs_from s i (suc k) = ap suc (length_runs_from s (suc i) k)

-- The entry at place i behind the first n bytes, and the entries from there on.
pub entry_at_drop : (n : ℕ) (s : List ℕ) (i : ℕ) → entry_at (drop n s) i ≡ entry_at s (n + i)
entry_at_drop n s i =
    cc (get_or-drop n s i 0, get_or-drop n s (i + 1) 0, word32_drop n s (i + 2), add_assoc n i 1, add_assoc n i 2)

pub entries_at_drop : (n : ℕ) (s : List ℕ) (i k : ℕ) → entries_at (drop n s) i k ≡ entries_at s (n + i) k
entries_at_drop n s i zero = refl
entries_at_drop n s i (suc k) = ap₂ ◌∷◌ (entry_at_drop n s i) (entries_at_drop n s (i + 6) k ∙ rw (add_assoc n i 6))

-- The first a entries, and b behind them.
pub entries_at_add : (s : List ℕ) (i a b : ℕ) → entries_at s i (a + b) ≡ entries_at s i a ++ entries_at s (i + 6 * a) b
entries_at_add s i zero b = rw (zero-add, add-zero)
entries_at_add s i (suc a) b =
    let next : i + 6 * suc a ≡ i + 6 + 6 * a = omega arith in
    rw (suc-add, next) (ap (λ es. entry_at s i ∷ es) (entries_at_add s (i + 6) a b))
