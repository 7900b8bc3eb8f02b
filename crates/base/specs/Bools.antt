-- Tests joined by `&&`, and choices by a test.
use Rattle.std.specs.Prelude.{◌≡◌, refl, Bool, true, false, cond, ◌&&◌}
use Rattle.std.proofs.Common.{ap₂}

-- The first of two tests that hold together.
pub and_left : (a b : Bool) → (a && b) ≡ true → a ≡ true
and_left true b h = refl
and_left false b h = h

-- The second of them.
pub and_right : (a b : Bool) → (a && b) ≡ true → b ≡ true
and_right true b h = h
and_right false b h = let z : true ≡ false = cc in cc

-- Two tests that hold hold together.
pub and_both : {a b : Bool} → a ≡ true → b ≡ true → (a && b) ≡ true
and_both p q = ap₂ ◌&&◌ p q

-- Two choices by one test: what holds of the first two, and of the other two, where it is known which, holds of what is chosen.
pub cond_both : {A B : Type 0} (P : A → B → Type 0) (t : Bool) {a b : A} {x y : B} →
    (t ≡ true → P a x) → (t ≡ false → P b y) → P (cond t a b) (cond t x y)
cond_both P true p q = p refl
cond_both P false p q = q refl

-- One choice.
pub cond_cases : {A : Type 0} (P : A → Type 0) (t : Bool) {a b : A} → (t ≡ true → P a) → (t ≡ false → P b) → P (cond t a b)
cond_cases P t p q = cond_both (λ a x. P a) t {x = t} {y = t} p q

-- A choice between two that are the same.
pub cond_same : {A : Type 0} (t : Bool) (x : A) → cond t x x ≡ x
cond_same true x = refl
cond_same false x = refl
