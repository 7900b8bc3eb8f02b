-- The highest filled round of a session is the highest written round of its past, and no mark stands above it.
use Rattle.std.specs.Prelude.{◌+◌, ◌≤◌, ◌<◌, ◌≡◌, ◌∷◌}
use Rattle.base.specs.Prelude.{ℕ, suc, min, arith, unary_clauses, refl, sym, ◌∙◌, true, List, [], get_or, eqb, cond}
use Rattle.base.specs.Prelude.{eqb-true, eqb-false}
use Rattle.base.specs.Bools.{cond_cases}
use Rattle.model.specs.declared.Session.{Session}
use Rattle.model.specs.Board.{mark_at, highest_from, highest_filled}
use Rattle.model_rule.specs.Event.{Event}
use Rattle.theory_board.specs.Epoch.{top, last}
use Rattle.theory_board.specs.Past.{past_before}
use Rattle.theory_board.specs.Registers.{top_le, wrote_round, last_written}
use Rattle.theory_board.specs.Lawful.{lawful_at, blank_above}
use Rattle.theory_board.specs.Invariant.{Invariant}

-- Of registers that are filled up to round T and blank above it, T is the highest filled one.
highest_from_law : (T t r : ℕ) (xs : List ℕ) → t ≡ min r T → ((k : ℕ) → get_or xs k 0 ≡ 0 → T < r + suc k) →
    ((k : ℕ) → 0 < get_or xs k 0 → r + suc k ≤ T) → highest_from t r xs ≡ T
highest_from_law T t r [] e blank filled = omega (arith, blank 0 refl)
highest_from_law T t r (x ∷ xs) e blank filled =
    highest_from_law T (cond (eqb x 0) t (suc r)) (suc r) xs
    (cond_cases (λ (y : ℕ). y ≡ min (suc r) T) (eqb x 0)
    (λ z. omega (arith, blank 0 (eqb-true x 0 z)))
    (λ z. let some = eqb-false x 0 z in omega (arith, filled 0 (omega arith))))
    (λ k z. omega (arith, blank (suc k) z))
    (λ k some. omega (arith, filled (suc k) some))

module _ {W : ℕ} {s : Session} {h : List Event} (i : Invariant W s h) where
  -- Place k holds the register of round k + 1.
  value_at_law : (k : ℕ) → get_or s.values k 0 ≡ last h (suc k)
  value_at_law k = simp unary_clauses at (i.matches.values (suc k) (omega arith))

  pub highest_top : highest_filled s ≡ top h
  highest_top =
      highest_from_law (top h) 0 0 s.values (omega arith)
      (λ k z. omega (arith, blank_above i.lawful (suc k) (omega arith) (sym (value_at_law k) ∙ z)))
      (λ k some. omega (arith, wrote_round (last_written h (suc k) (rw (value_at_law k) at some)).1))

  -- A marked round is not above the highest filled one.
  pub marked_low : (j : ℕ) → 1 ≤ j → mark_at s j ≡ true → j ≤ top h
  marked_low j low m =
      let f = (i.matches.marks j low).0 m in
      omega (arith, lawful_at i.lawful f.past, top_le (past_before f.past))
