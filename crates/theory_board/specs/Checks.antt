-- The checks of a round that is over.
use Rattle.std.specs.Prelude.{◌+◌, ◌-◌, ◌≡◌}
use Rattle.base.specs.Prelude.{ℕ, suc, cond, List, by_cases, ltb, eqb, ltb-false, eqb-true, dec_lt, arith}
use Rattle.model_laws.specs.Types.{Phase, Waiting, CheckMark, CheckValue, Commit}
use Rattle.model_rule.specs.Event.{Event}
use Rattle.theory_board.specs.Epoch.{Flagged}
use Rattle.theory_board.specs.Lawful.{Unflagged}
use Rattle.base.specs.Bools.{cond_cases}
use Rattle.theory_board.specs.Place.{Placed}

-- One more round found with no flag.
unflagged_more : (m r : ℕ) {h : List Event} → Unflagged m r h → ((e : ℕ) → Flagged (r - m) e h → ⊥) → Unflagged (suc m) r h
unflagged_more m r u n j e a b f =
    by_cases (dec_lt r (j + m)) (λ c. u j e a c f) (λ c. let last_one : j ≡ r - m = omega arith in absurd (n e (rw last_one at f)))

-- A step that checks a mark, and found x.
pub check_mark_placed : (W p r v i x : ℕ) (h : List Event) → Placed W p r v (CheckMark i) h →
    (x ≡ 0 → (e : ℕ) → Flagged (r - i) e h → ⊥) → Placed W p r v (cond (eqb x 0) (CheckValue i) Waiting) h
check_mark_placed W p r v i x h a n =
    cond_cases (λ (φ : Phase). Placed W p r v φ h) (eqb x 0)
    (λ t. (a.0, unflagged_more i r a.1 (n (eqb-true x 0 t))))
    (λ t b. a.0)

-- A step that checks a value.
pub check_value_placed : (W p r v i x : ℕ) (h : List Event) → Placed W p r v (CheckValue i) h →
    Placed W p r v (cond (eqb x v) (cond (ltb (i + 1) W) (CheckMark (i + 1)) Commit) Waiting) h
check_value_placed W p r v i x h a =
    cond_cases (λ (φ : Phase). Placed W p r v φ h) (eqb x v)
    (λ t.
    cond_cases (λ (φ : Phase). Placed W p r v φ h) (ltb (i + 1) W)
    (λ u. (a.0, λ j e b c. a.1 j e b (omega arith)))
    (λ u. (a.0, λ j e b c. a.1 j e b (omega (arith, ltb-false (i + 1) W u)))))
    (λ t b. a.0)
