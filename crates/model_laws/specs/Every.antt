-- A test of every element of a list (the model's `every`).
use Rattle.std.specs.Prelude.{◌≡◌, ◌&&◌, ◌∷◌, ◌++◌}
use Rattle.base.specs.Prelude.{ℕ, zero, suc, refl, Bool, true, and_assoc, List, [], get_or, drop, set, replicate}
use Rattle.base.specs.Bools.{and_left, and_right, and_both}
use Rattle.model.specs.Sound.{every}

module _ {A : Type 0} (P : A → Bool) where
  -- What holds of every element, and of what is read past the end, holds at each place.
  pub every_get : (xs : List A) (i : ℕ) (d : A) → P d ≡ true → every P xs ≡ true → P (get_or xs i d) ≡ true
  every_get [] i d other all = other
  every_get (x ∷ xs) zero d other all = and_left (P x) (every P xs) all
  every_get (x ∷ xs) (suc i) d other all = every_get xs i d other (and_right (P x) (every P xs) all)

  -- One element is set to another of which it holds.
  pub every_set : (xs : List A) (i : ℕ) (y : A) → P y ≡ true → every P xs ≡ true → every P (set xs i y) ≡ true
  every_set [] i y one all = refl
  every_set (x ∷ xs) zero y one all = and_both one (and_right (P x) (every P xs) all)
  every_set (x ∷ xs) (suc i) y one all =
      and_both (and_left (P x) (every P xs) all) (every_set xs i y one (and_right (P x) (every P xs) all))

  -- A list of one value of which it holds.
  pub every_replicate : (k : ℕ) (a : A) → P a ≡ true → every P (replicate k a) ≡ true
  every_replicate zero a one = refl
  every_replicate (suc k) a one = and_both one (every_replicate k a one)

  -- A part of a list of which it holds.
  pub every_drop : (i : ℕ) (xs : List A) → every P xs ≡ true → every P (drop i xs) ≡ true
  every_drop zero xs all = all
  every_drop (suc i) [] all = refl
  every_drop (suc i) (x ∷ xs) all = every_drop i xs (and_right (P x) (every P xs) all)

  -- Two lists one after the other.
  pub every_append : (xs ys : List A) → every P (xs ++ ys) ≡ (every P xs && every P ys)
  every_append [] ys = refl
  every_append (x ∷ xs) ys = rw (every_append xs ys) (simp and_assoc)
