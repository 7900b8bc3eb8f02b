-- The library's test of every element is `every`: of one list, and of two lists of one length, place by place. Assumes nothing.
use Rattle.std.specs.Prelude.{◌≡◌, ◌&&◌, ◌∷◌}
use Rattle.std.specs.List.{list_all, zip}
use Rattle.base.specs.Prelude.{refl, sym, ap, ◌∙◌, Bool, true, false, and-false, List, [], length, arith}
use Rattle.model.specs.Sound.{every}

pub every_listed : {A : Type 0} (test : A → Bool) (l : List A) → every test l ≡ list_all test l
every_listed test [] = refl
every_listed test (x ∷ xs) = rw (every_listed test xs) refl

turned : (p q a b : Bool) → ((p && q) && (a && b)) ≡ ((p && a) && (q && b))
turned true true a b = refl
turned true false a b = sym (and-false a)
turned false q a b = refl

pub every_zip : {A B : Type 0} (P : A → Bool) (Q : B → Bool) (xs : List A) (ys : List B) →
    length xs ≡ length ys →
    list_all (λ (p : A × B). P p.0 && Q p.1) (zip xs ys) ≡ (every P xs && every Q ys)
every_zip P Q [] [] h = refl
every_zip P Q [] (y ∷ ys) h = absurd (omega arith)
every_zip P Q (x ∷ xs) [] h = absurd (omega arith)
every_zip P Q (x ∷ xs) (y ∷ ys) h =
    ap (λ b. (P x && Q y) && b) (every_zip P Q xs ys (omega arith)) ∙ turned (P x) (Q y) (every P xs) (every Q ys)
