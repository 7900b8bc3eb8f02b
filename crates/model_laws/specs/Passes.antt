-- Two tests in one pass. A test t of all places is what is left of it at place i, and that is the test of the place and what is left
-- at i + 1. Assumes nothing.
use Rattle.std.specs.Prelude.{◌+◌, ◌≤◌, ◌<◌, ◌≡◌, ◌&&◌, ◌||◌}
use Rattle.base.specs.Prelude.{ℕ, suc, max, refl, sym, ap, ◌∙◌, Bool, true, false, not, and_assoc}
use Rattle.base.specs.Prelude.{and-false, List, add-one, arith, ltb-true, ltb-false, not-true, not-false, ltb, length, get_or, drop}
use Rattle.base.specs.Prelude.{drop_of_length-le, drop-cons}
use Rattle.model.specs.Sound.{every}

swap : (e q r : Bool) → (e && (q && r)) ≡ (q && (e && r))
swap true q r = refl
swap false q r = sym (and-false q)

shuffle : (p e q r : Bool) → ((p && e) && (q && r)) ≡ ((p && q) && (e && r))
shuffle p e q r = simp (and_assoc, swap)

-- By the answer b of the place's test: t goes on, or fails.
went : {t now after b : Bool} (here : Bool) → t ≡ now → now ≡ (here && after) → b ≡ here → not b ≡ false → t ≡ after
went {after} {b} here left goes told p = left ∙ goes ∙ ap (λ c. c && after) (sym told ∙ not-false b p)

failed : {t now b : Bool} (here after : Bool) → t ≡ now → now ≡ (here && after) → b ≡ here → not b ≡ true → false ≡ t
failed {b} here after left goes told p = sym (left ∙ goes ∙ ap (λ c. c && after) (sym told ∙ not-true b p))

-- Q of every element of a list, and P of those from n on.
module _ {A : Type 0} (P Q : A → Bool) (n : ℕ) (xs : List A) where
  abbrev pub rest : ℕ → Bool
  rest i = every P (drop (max n i) xs) && every Q (drop i xs)

  pub begins : rest 0 ≡ (every P (drop n xs) && every Q xs)
  begins = let e : max n 0 ≡ n = omega arith in rw e

  -- The tests of the element at i.
  abbrev here : ℕ → A → Bool
  here i x = (ltb i n || P x) && Q x

  goes : {m : ℕ} → length xs ≡ m → (i : ℕ) (d : A) → i < m → rest i ≡ (here i (get_or xs i d) && rest (i + 1))
  goes size i d below = by (ltb i n) refl
    where
      h : i < length xs
      h = rw size below

      by : (b : Bool) → ltb i n ≡ b → rest i ≡ (((b || P (get_or xs i d)) && Q (get_or xs i d)) && rest (i + 1))
      by true t =
          let e : max n i ≡ n = omega (arith, ltb-true i n t) in
          let e' : max n (i + 1) ≡ n = omega (arith, ltb-true i n t) in
          rw (e, e', add-one, drop-cons xs i d h) (swap (every P (drop n xs)) (Q (get_or xs i d)) (every Q (drop (suc i) xs)))
      by false f =
          let e : max n i ≡ i = omega (arith, ltb-false i n f) in
          let e' : max n (i + 1) ≡ i + 1 = omega (arith, ltb-false i n f) in
          rw (e, e', add-one, drop-cons xs i d h)
          (shuffle (P (get_or xs i d)) (every P (drop (suc i) xs)) (Q (get_or xs i d)) (every Q (drop (suc i) xs)))

  module _ {m : ℕ} {t b : Bool} (size : length xs ≡ m) (i : ℕ) (left : t ≡ rest i) (d : A) (h : i < m)
      (told : b ≡ here i (get_or xs i d)) where
    pub more : not b ≡ false → t ≡ rest (i + 1)
    more = went (here i (get_or xs i d)) left (goes size i d h) told

    pub stop : not b ≡ true → false ≡ t
    stop = failed (here i (get_or xs i d)) (rest (i + 1)) left (goes size i d h) told

  pub ends : {m : ℕ} {t : Bool} → length xs ≡ m → (i : ℕ) → t ≡ rest i → m ≤ i → true ≡ t
  ends size i left past =
      let h : length xs ≤ i = rw size past in
      let e : length xs ≤ max n i = omega arith in
      sym (left ∙ rw (drop_of_length-le xs e, drop_of_length-le xs h))

-- P of every element of a list, and Q of every element of another.
module _ {A B : Type 0} (P : A → Bool) (Q : B → Bool) (xs : List A) (ys : List B) where
  abbrev pub both : ℕ → Bool
  both i = every P (drop i xs) && every Q (drop i ys)

  module _ {m : ℕ} (size : length xs ≡ m) (size' : length ys ≡ m) where
    both_goes : (i : ℕ) (d : A) (e : B) → i < m → both i ≡ ((P (get_or xs i d) && Q (get_or ys i e)) && both (i + 1))
    both_goes i d e below =
        let h : i < length xs = rw size below in
        let h' : i < length ys = rw size' below in
        rw (add-one, drop-cons xs i d h, drop-cons ys i e h')
        (shuffle (P (get_or xs i d)) (every P (drop (suc i) xs)) (Q (get_or ys i e)) (every Q (drop (suc i) ys)))

    module _ (i : ℕ) {t : Bool} (left : t ≡ both i) (d : A) (e : B) (h : i < m) where
      pub both_more : not (P (get_or xs i d) && Q (get_or ys i e)) ≡ false → t ≡ both (i + 1)
      both_more = went (P (get_or xs i d) && Q (get_or ys i e)) left (both_goes i d e h) refl

      pub both_stop : not (P (get_or xs i d) && Q (get_or ys i e)) ≡ true → false ≡ t
      both_stop = failed (P (get_or xs i d) && Q (get_or ys i e)) (both (i + 1)) left (both_goes i d e h) refl

    pub both_ends : (i : ℕ) {t : Bool} → t ≡ both i → m ≤ i → true ≡ t
    both_ends i left past =
        let h : length xs ≤ i = rw size past in
        let h' : length ys ≤ i = rw size' past in
        sym (left ∙ rw (drop_of_length-le xs h, drop_of_length-le ys h'))
