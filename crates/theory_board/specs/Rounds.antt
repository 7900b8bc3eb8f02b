-- The walk of a round: the comparisons and the flags, and what they come to.
use Rattle.std.specs.Prelude.{◌+◌, ◌-◌, ◌≤◌, ◌≡◌, ◌∷◌}
use Rattle.base.specs.Prelude.{ℕ, min, ◌∙◌, refl, sym, cond, List, inl, inr, by_cases, ltb, leb, eqb, ltb-false}
use Rattle.base.specs.Prelude.{eqb-true, dec_lt, arith}
use Rattle.model_laws.specs.Types.{Phase, Compare, Flag}
use Rattle.model.specs.Step.{go_on}
use Rattle.model_rule.specs.Event.{Event, flag}
use Rattle.theory_board.specs.Epoch.{top, last, ComparedBy}
use Rattle.model_rule.specs.Event.Past.{here}
use Rattle.base.specs.Bools.{cond_cases}
use Rattle.theory_board.specs.Place.{Walked, Placed}
use Rattle.theory_board.specs.Stays.{walked_event}

-- One more round compared.
walked_more : {m p r v : ℕ} {h : List Event} → Walked m p r v h → (top h ≡ r → ComparedBy p r (r - m) v h) → Walked (m + 1) p r v h
walked_more {m} {p} {r} x c =
    record {
      written = x.written;
      compared =
          λ e j a b d.
          by_cases (dec_lt r (j + m)) (x.compared e j a b) (λ n. let last_one : j ≡ r - m = omega arith in rw last_one (c e));
    }

-- The whole window compared: the round is over.
walked_over : {W m p r v : ℕ} {h : List Event} → Walked m p r v h → min r W ≤ m → Walked W p r v h
walked_over x a = record { written = x.written; compared = λ e j b c d. x.compared e j b c (omega arith) }

-- "Go on" after distance i was compared.
go_on_placed : (W p r v i : ℕ) (h : List Event) → Walked (i + 1) p r v h → Placed W p r v (go_on W r i) h
unfolding go_on
go_on_placed W p r v i h x =
    cond_cases (λ (φ : Phase). Placed W p r v φ h) (ltb (i + 1) (min r W))
    (λ t. x)
    (λ t.
    let over = walked_over x (ltb-false (i + 1) (min r W) t) in
    cond_cases (λ (φ : Phase). Placed W p r v φ h) (leb W r) (λ u. (over, λ j e a b f. absurd (omega arith))) (λ u a. over))

-- A step of the comparison, which found x.
pub compare_placed : (W p r v i x : ℕ) (h : List Event) → Placed W p r v (Compare i) h → x ≡ last h (r - i) →
    Placed W p r v (cond (eqb x v) (go_on W r i) (Flag i)) h
compare_placed W p r v i x h a e =
    cond_cases (λ (φ : Phase). Placed W p r v φ h) (eqb x v)
    (λ t.
    let holds = sym e ∙ eqb-true x v t in
    go_on_placed W p r v i h (walked_more a (λ c. inr (record { moment = h; past = here; epoch = c; holds = holds; own = λ r' w b z. z }))))
    (λ t. a)

-- A step that flags.
pub flag_placed : (W p r v i : ℕ) (h : List Event) → Placed W p r v (Flag i) h → Placed W p r v (go_on W r i) (flag (r - i) ∷ h)
flag_placed W p r v i h a =
    go_on_placed W p r v i (flag (r - i) ∷ h)
    (walked_more (walked_event (λ r' w e. let z : ◌≡◌ {A = ℕ} 0 1 = cc in omega arith) a)
    (λ e. inl (top h, omega arith, record { before = h; past = here; epoch = refl })))
