-- One round more: what the loops over the rounds do to the list, and one place more of a copy. Assumes nothing.
use Rattle.std.specs.Prelude.{◌+◌, ◌<◌, ◌≡◌, ◌∷◌}
use Rattle.base.specs.Prelude.{ℕ, zero, suc, sym, true, false, or-true, List, [], not-suc-le-zero}
use Rattle.base.specs.Prelude.{add-one, arith, length, get_or, take, set, take-suc, take-suc-set}
use Rattle.base.specs.Prelude.{eqb, eq-eqb, ne_eqb}
use Rattle.model.specs.ReadOut.{holds, values_to}
use Rattle.model_laws.specs.FirstRounds.{holds_last}

-- A blank round adds nothing to the list.
pub round_blank : (T l : List ℕ) (r : ℕ) → get_or T r 0 ≡ 0 → l ≡ values_to T r → l ≡ values_to T (r + 1)
unfolding values_to
round_blank T l r e p = rw (add-one, e) p

-- Nor does one whose value an earlier round holds.
holds_earlier : (T : List ℕ) (r e y : ℕ) → e < r → e < length T → get_or T e 0 ≡ y → holds y (take r T) ≡ true
holds_earlier [] r e y a b h = absurd (not-suc-le-zero b)
holds_earlier (x ∷ T) zero e y a b h = absurd (not-suc-le-zero a)
holds_earlier (x ∷ T) (suc r) zero y a b h = rw (eq-eqb y x (sym h))
holds_earlier (x ∷ T) (suc r) (suc e) y a b h = rw (holds_earlier T r e y (omega arith) (omega arith) h) (or-true (eqb y x))

pub round_earlier : (T l : List ℕ) (r e : ℕ) → e < r → e < length T → get_or T e 0 ≡ get_or T r 0 → l ≡ values_to T r → l ≡ values_to T (r + 1)
unfolding values_to
round_earlier T l r e a b h p = rw (add-one, holds_earlier T r e (get_or T r 0) a b h, or-true (eqb (get_or T r 0) 0)) p

-- A value that no earlier round holds: one round more is compared, and the value goes to the list's end.
pub not_earlier : (T : List ℕ) (e y : ℕ) → e < length T → (get_or T e 0 ≡ y → ⊥) → holds y (take e T) ≡ false →
    holds y (take (e + 1) T) ≡ false
not_earlier T e y h ne none = rw (add-one, take-suc T e 0, holds_last y (get_or T e 0) (take e T), none)
    (ne_eqb y (get_or T e 0) (λ p. ne (sym p)))

pub round_new : (T vs : List ℕ) (r n : ℕ) → n < length vs → (get_or T r 0 ≡ 0 → ⊥) → holds (get_or T r 0) (take r T) ≡ false
    → take n vs ≡ values_to T r → take (n + 1) (set vs n (get_or T r 0)) ≡ values_to T (r + 1)
unfolding values_to
round_new T vs r n h ne none p = rw (add-one r, add-one n, take-suc-set vs n (get_or T r 0), ne_eqb (get_or T r 0) 0 ne, none, p)
