-- The test of all numbers below the count is that of all runs.
use Rattle.std.specs.Prelude.{◌≡◌, ◌&&◌}
use Rattle.std.specs.List.{list_all, range_with_len}
use Rattle.std.proofs.Common.{tests}
use Rattle.std.proofs.lemmas.Iterator.{YieldsList-from_range}
use Rattle.std.proofs.lemmas.Iterator.Search.{all_from_yields_List}
use Rattle.base.specs.Prelude.{ℕ, zero, suc, List, refl, ◌∙◌, ap, add-one, arith, rules}
use Rattle.model.specs.Sheet.{run_at, runs_from, whole_entries}
use Rattle.model.specs.Sound.{every}
use Rattle.sheet_refusal.proofs.whole.Goals as goal

all_whole : (s : List ℕ) (i k : ℕ) → list_all (λ j. whole_entries (run_at s j)) (range_with_len i k) ≡ every whole_entries (runs_from s i k)
all_whole s i zero = refl
all_whole s i (suc k) = rw (add-one i) (ap (λ b. whole_entries (run_at s i) && b) (all_whole s (suc i) k))

pub returns : goal.returns
returns c =
    let s = c.args.s.now in
    let n = c.byte-count.result in
    all_from_yields_List (λ i. whole_entries (run_at s i)) c.all.new.self _ c.all.result c.all.ensures.ran
    (YieldsList-from_range 0 n n refl (omega arith))
    (λ x b q k. (search rules, search (rules, tests)))
    ∙ all_whole s 0 n
    ∙ ap (λ k. every whole_entries (runs_from s 0 k)) c.byte-count.ensures
