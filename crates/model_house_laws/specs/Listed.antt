-- The tests and counts of this model as std's own words have them, in which what an iterator's methods return is said. Assumes nothing.
use Rattle.std.specs.Prelude.{◌+◌, ◌≤◌, ◌≡◌, ◌&&◌, ◌∷◌, count_by}
use Rattle.std.specs.List.{list_all, range_with_len, fold}
use Rattle.base.specs.Prelude.{ℕ, suc, zero, arith, refl, ◌∙◌, Bool, cond, List, [], length, get_or, take, eqb}
use Rattle.base.specs.Prelude.{add-zero, and-true, and_assoc}
use Rattle.model_laws.specs.Alls.{every_listed}
use Rattle.model_house.specs.House.{all_below, members}
use Rattle.model_house_laws.specs.Below.{every_below, every_all}

-- ---- of each element

pub listed_below : {A : Type 0} (P : A → Bool) (l : List A) (d : A) (n : ℕ) → n ≤ length l →
    list_all P (take n l) ≡ all_below n (λ i. P (get_or l i d))
listed_below P l d n low = rw (← every_listed P (take n l)) (every_below P l d n low)

pub listed_all : {A : Type 0} (P : A → Bool) (l : List A) (d : A) {n : ℕ} → length l ≡ n →
    list_all P l ≡ all_below n (λ i. P (get_or l i d))
listed_all P l d size = rw (← every_listed P l) (every_all P l d size)

-- ---- of each number of a range

range_more : (test : ℕ → Bool) (a k b : ℕ) → b ≡ a + k → list_all test (range_with_len a (suc k)) ≡ (list_all test (range_with_len a k) && test b)
range_more test a zero b e = rw (e, add-zero, and-true) refl
range_more test a (suc k) b e = rw (range_more test (a + 1) k b (omega arith), and_assoc) refl

pub range_below : (test : ℕ → Bool) (k : ℕ) → list_all test (range_with_len 0 k) ≡ all_below k test
range_below test zero = refl
range_below test (suc k) = range_more test 0 k k (omega arith) ∙ rw (range_below test k) refl

-- ---- how many are of ward w

counted_from : (w k : ℕ) (l : List ℕ) → fold (λ a x. a + cond (eqb x w) 1 0) k l ≡ k + members w l
counted_from w k [] = omega arith
counted_from w k (x ∷ xs) = rw (counted_from w (k + cond (eqb x w) 1 0) xs) (omega arith)

pub counted_members : (w : ℕ) (l : List ℕ) → count_by (λ x. eqb x w) l ≡ members w l
counted_members w l = counted_from w 0 l ∙ omega arith
