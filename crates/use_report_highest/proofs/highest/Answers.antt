-- The registers behind the one that `rposition` finds are blank; where it finds none, all are.
use Rattle.std.specs.Prelude.{◌+◌, ◌<◌, ◌≡◌, ◌≢◌, ◌∷◌, MatchOption, Option, Some, None}
use Rattle.base.specs.Prelude.{ℕ, zero, suc, List, [], cond, length, get_or, eqb, refl, ◌∙◌, sym, eq-eqb, ne_eqb, arith, rules}
use Rattle.model.specs.Board.{highest_from}
use Rattle.use_report_highest.proofs.highest.Goals as goal

-- No register is filled.
none_filled : (top r : ℕ) (l : List ℕ) → ((k : ℕ) → k < length l → get_or l k 0 ≡ 0) → highest_from top r l ≡ top
none_filled top r [] blank = refl
none_filled top r (x ∷ l) blank =
    rw (eq-eqb x 0 (blank 0 (omega arith))) (none_filled top (suc r) l (λ k h. blank (suc k) (omega arith)))

-- Register i is the last that is filled.
last_filled : (top r : ℕ) (l : List ℕ) (i : ℕ) → i < length l → get_or l i 0 ≢ 0
    → ((k : ℕ) → i < k → k < length l → get_or l k 0 ≡ 0) → highest_from top r l ≡ r + i + 1
last_filled top r [] i low filled blank = absurd (omega arith)
last_filled top r (x ∷ l) zero low filled blank =
    rw (ne_eqb x 0 filled) (none_filled (suc r) (suc r) l (λ k h. blank (suc k) (omega arith) (omega arith)) ∙ omega arith)
last_filled top r (x ∷ l) (suc i) low filled blank =
    last_filled (cond (eqb x 0) top (suc r)) (suc r) l i (omega arith) filled (λ k h j. blank (suc k) (omega arith) (omega arith)) ∙ omega arith

-- The round by the register that was found.
round_of : (l : List ℕ) (r : Option ℕ) (m : ℕ)
    → MatchOption r ((k : ℕ) → k < length l → get_or l k 0 ≡ 0)
    (λ i. (i < length l) × (get_or l i 0 ≢ 0) × ((k : ℕ) → i < k → k < length l → get_or l k 0 ≡ 0))
    → MatchOption r (m ≡ 0) (λ i. m ≡ i + 1) → m ≡ highest_from 0 0 l
round_of l None m blank e = e ∙ sym (none_filled 0 0 l blank)
round_of l (Some i) m last e = e ∙ sym (last_filled 0 0 l i last.0 last.1 last.2 ∙ omega arith)

pub returns : goal.returns
returns c = round_of c.args.values.now c.rposition.result _ (search rules) (search rules)
