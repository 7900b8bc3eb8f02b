-- "A ward session has n - c + 1 seats, taken by its workers in number order": they are enough, and two workers of one ward have two.
use Rattle.std.specs.Prelude.{◌+◌, ◌-◌, ◌≤◌, ◌<◌, ◌≡◌, ◌&&◌, ◌∷◌, ◌++◌}
use Rattle.base.specs.Prelude.{ℕ, suc, zero, arith, refl, sym, ◌∙◌, subst, Bool, true, cond, List, []}
use Rattle.base.specs.Prelude.{length, length-append, length-replicate, replicate, get_or, take, take-append_seam, get_or-append}
use Rattle.base.specs.Prelude.{eqb, eq-eqb, ne_eqb, leb, leb-true, le-leb, lt-leb, ℕ_discrete, dec_le}
use Rattle.base.specs.Bools.{and_left, and_right, cond_cases}
use Rattle.model.specs.Sound.{every}
use Rattle.model_house.specs.House.{all_below, members, seat_of, allowed}
use Rattle.model_house_laws.specs.Below.{below_at, every_all, members_next}
use Rattle.theory_house.specs.Invariant.{Numbers}

-- ---- two workers of one ward

module _ (l : List ℕ) where
  -- More places hold no fewer of a ward.
  members_grow : (w p d : ℕ) → p + d ≤ length l → members w (take p l) ≤ members w (take (p + d) l)
  members_grow w p zero low = let e : p + 0 ≡ p = omega arith in rw e (omega arith)
  members_grow w p (suc d) low =
      let e : p + suc d ≡ p + d + 1 = omega arith in
      rw e (omega (arith, members_grow w p d (omega arith), members_next w l (p + d) (omega arith)))

  -- A worker's ward has one member more with it: so later, too.
  members_since : (p q : ℕ) → p < q → q ≤ length l → seat_of l p < members (get_or l p 0) (take q l)
  unfolding seat_of
  members_since p q before low =
      let w = get_or l p 0 in
      let e : p + 1 + (q - (p + 1)) ≡ q = omega arith in
      let g = rw e at (members_grow w (p + 1) (q - (p + 1)) (omega arith)) in
      omega (arith, g, rw (eq-eqb w w refl) at (members_next w l p (omega arith)))

  seat_later : (p q : ℕ) → p < q → q < length l → get_or l p 0 ≡ get_or l q 0 → seat_of l p < seat_of l q
  unfolding seat_of
  seat_later p q before low same = subst (λ w. seat_of l p < members w (take q l)) same (members_since p q before (omega arith))

  seats_apart : (p q : ℕ) → p < length l → q < length l → (p ≡ q → ⊥) → get_or l p 0 ≡ get_or l q 0 → seat_of l p ≡ seat_of l q → ⊥
  seats_apart p q lp lq other same e =
      elim (dec_le p q) [
        | yes low ↦ omega (arith, e, seat_later p q (omega (arith, other)) lq same)
        | no high ↦ omega (arith, e, seat_later q p (omega arith) lp (sym same))
      ]

-- ---- how many a ward can have, where no other is empty

-- How many are of the wards up to c.
abbrev up_to : (c : ℕ) → List ℕ → ℕ
up_to c [] = 0
up_to c (x ∷ xs) = cond (leb x c) 1 0 + up_to c xs

up_to_most : (c : ℕ) (l : List ℕ) → up_to c l ≤ length l
up_to_most c [] = omega arith
up_to_most c (x ∷ xs) =
    let rest = up_to_most c xs in cond_cases (λ y. y + up_to c xs ≤ suc (length xs)) (leb x c) (λ t. omega arith) (λ t. omega arith)

up_to_next : (c : ℕ) (l : List ℕ) → up_to (suc c) l ≡ up_to c l + members (suc c) l
up_to_next c [] = refl
up_to_next c (x ∷ xs) = omega (arith, up_to_next c xs, one)
  where
    one : cond (leb x (suc c)) 1 0 ≡ cond (leb x c) 1 0 + cond (eqb x (suc c)) 1 0
    one =
        elim (ℕ_discrete x (suc c)) [
          | yes e ↦ rw (le-leb x (suc c) (omega (arith, e)), lt-leb x c (omega (arith, e)), eq-eqb x (suc c) e) refl
          | no ne ↦
              elim (dec_le x c) [
                | yes low ↦ rw (le-leb x (suc c) (omega arith), le-leb x c low, ne_eqb x (suc c) ne) refl
                | no high ↦ rw (lt-leb x (suc c) (omega (arith, ne)), lt-leb x c (omega arith), ne_eqb x (suc c) ne) refl
              ]
        ]

members_few : (l : List ℕ) (c w : ℕ) → ((j : ℕ) → 1 ≤ j → j ≤ c → 1 ≤ members j l) → (c ≤ up_to c l)
    × (1 ≤ w → w ≤ c → members w l + c ≤ up_to c l + 1)
members_few l zero w each = (omega arith, λ some low. absurd (omega arith))
members_few l (suc c) w each =
    let i = members_few l c w (λ j some low. each j some (omega arith)) in
    let one = each (suc c) (omega arith) (omega arith) in (
      omega (arith, i.0, up_to_next c l),
      λ some low.
          elim (ℕ_discrete w (suc c)) [
            | yes e ↦ rw e (omega (arith, i.0, up_to_next c l))
            | no ne ↦ omega (arith, i.1 some (omega (arith, ne)), up_to_next c l)
          ],
    )

-- ---- the numbers of an accepted opening

pub opened_numbers : (c : ℕ) (ws : List ℕ) → 1 ≤ length ws → allowed c ws ≡ true →
    Numbers (length ws) c (ws ++ replicate (16 - length ws) 0)
unfolding allowed seat_of
opened_numbers c ws some t =
    let n = length ws in
    let wards = ws ++ replicate (16 - n) 0 in
    let in_wards : ℕ → Bool = λ w. leb 1 w && leb w c in
    let parts : (1 ≤ c) × (c ≤ 4) × (n ≤ 16) × (every in_wards ws ≡ true) × (all_below c (λ i. leb 1 (members (i + 1) ws)) ≡ true) =
    search (and_left, and_right, leb-true) depth 8 in
    let long : length wards ≡ 16 = simp (length-append, length-replicate) (omega arith) in
    let first : take n wards ≡ ws = take-append_seam ws (replicate (16 - n) 0) in
    let ward : (p : ℕ) → p < n → (1 ≤ get_or wards p 0) × (get_or wards p 0 ≤ c) =
    λ p low.
    let x : in_wards (get_or ws p 0) ≡ true = below_at (λ i. in_wards (get_or ws i 0)) n p (sym (every_all in_wards ws 0 refl) ∙ parts.3) low in
    rw (get_or-append ws (replicate (16 - n) 0) 0 p low)
    (leb-true 1 _ (and_left (leb 1 (get_or ws p 0)) _ x), leb-true _ c (and_right (leb 1 (get_or ws p 0)) _ x)) in
    let each : (j : ℕ) → 1 ≤ j → j ≤ c → 1 ≤ members j ws =
    λ j a b.
    let e : j - 1 + 1 ≡ j = omega arith in
    rw e at (leb-true 1 (members (j - 1 + 1) ws) (below_at (λ i. leb 1 (members (i + 1) ws)) c (j - 1) parts.4 (omega arith))) in
    record {
      some = some;
      few = parts.2;
      one = parts.0;
      most = parts.1;
      long = long;
      allow = rw first t;
      ward = ward;
      seat =
          λ p low.
          let w = ward p low in
          let g = rw first at (members_since wards p n low (omega arith)) in
          omega (arith, g, (members_few ws c (get_or wards p 0) each).1 w.0 w.1, up_to_most c ws);
      apart = λ p q lp lq. seats_apart wards p q (omega arith) (omega arith);
    }
