-- None of the choices below the number that `find` gives is the entry; where it gives none, no choice is.
use Rattle.std.specs.Prelude.{◌+◌, ◌*◌, ◌<◌, ◌≤◌, ◌≡◌, MatchOption, Option, Some, None, unwrap_or}
use Rattle.std.proofs.Common.{tests}
use Rattle.std.proofs.lemmas.Iterator.{first_from_Range}
use Rattle.base.specs.Prelude.{ℕ, zero, suc, true, false, drop, ◌∙◌, arith, rules}
use Rattle.model_short.specs.declared.RawEntry.{RawEntry}
use Rattle.model_short.specs.Short.{choices, same}
use Rattle.model_short_laws.specs.Entries.{index_in}
use Rattle.model_short_laws.specs.Numbered.{choice, index_end, index_here, index_next}
use Rattle.part_raw_entry.proofs.number_of.Goals as goal

module _ (n : ℕ) (x : RawEntry) where
  -- The first i are others: x is to be found from number i on.
  behind : (i : ℕ) → i ≤ 5 * n → ((k : ℕ) → 0 ≤ k → k < i → same x (choice n k) ≡ false)
      → index_in x (choices n) ≡ i + index_in x (drop i (choices n))
  behind zero low others = omega arith
  behind (suc i) low others =
      behind i (omega arith) (λ k z h. others k z (omega arith))
      ∙ omega (arith, index_next n i x (omega arith) (others i (omega arith) (omega arith)))

  by_search : (end : ℕ) (r : Option ℕ) → end ≡ 5 * n
      → MatchOption r ((k : ℕ) → 0 ≤ k → k < end → same x (choice n k) ≡ false)
      (λ i. (0 ≤ i) × (i < end) × (same x (choice n i) ≡ true) × ((k : ℕ) → 0 ≤ k → k < i → same x (choice n k) ≡ false))
      → (unwrap_or r end ≡ index_in x (choices n)) × (unwrap_or r end ≤ 5 * n)
  by_search end None all others = (omega (arith, behind end (omega arith) others, index_end n end x (omega arith)), omega arith)
  by_search end (Some i) all found = (omega (arith, behind i (omega arith) found.3, index_here n i x (omega arith) found.2), omega arith)

pub returns : goal.returns
returns c =
    let n = c.args.n in
    let x = c.args.x in
    let found = first_from_Range _ _ _ c.find.result (λ e. same x (choice n e) ≡ true) (λ e. same x (choice n e) ≡ false) c.find.ensures.ran
    (λ e q k. search (rules, tests)) (λ e q k. search (rules, tests)) in
    rw c.unwrap_or.ensures (by_search n x _ c.find.result (omega arith) found)
