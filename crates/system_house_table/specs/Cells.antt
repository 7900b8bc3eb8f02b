-- The value table as a list of its rows, each a list of its entries. Assumes nothing.
use Rattle.std.specs.Prelude.{◌+◌, ◌-◌, ◌≡◌, ◌∷◌}
use Rattle.base.specs.Prelude.{ℕ, suc, zero, arith, refl, sym, List, [], length, get_or, set, map}
use Rattle.base.specs.Prelude.{drop, drop-cons, drop_of_length-le}
use Rattle.model_house.specs.House.{Table, table_at, with_entry}

-- ---- a list by its elements, one by one

module _ {A : Type 0} (l : List A) (d : A) where
  abbrev pub listed : (i k : ℕ) → List A
  listed i zero = []
  listed i (suc k) = get_or l i d ∷ listed (suc i) k

  listed_drop : (i k : ℕ) → length l ≡ i + k → listed i k ≡ drop i l
  listed_drop i zero size = sym (drop_of_length-le l {i = i} (omega arith))
  listed_drop i (suc k) size = rw (listed_drop (suc i) k (omega arith), drop-cons l i d (omega arith))

  pub eight : length l ≡ 8 → listed 0 8 ≡ l
  eight size = listed_drop 0 8 size

-- ---- an entry, and another one stored

map_set : {A B : Type 0} (f : A → B) (l : List A) (i : ℕ) (x : A) → map f (set l i x) ≡ set (map f l) i (f x)
map_set f [] i x = refl
map_set f (y ∷ l) zero x = refl
map_set f (y ∷ l) (suc i) x = rw (map_set f l i x)

module _ (t : Table) (o w : ℕ) {cells : List (List ℕ)} {i j : ℕ} (ec : cells ≡ t) (ei : i ≡ o - 1) (ej : j ≡ w - 1) where
  pub cell_is : get_or (get_or cells i []) j 0 ≡ table_at t o w
  cell_is = rw (ec, ei, ej)

  pub written_is : (v : ℕ) → set cells i (set (get_or cells i []) j v) ≡ with_entry t o w v
  written_is v = rw (ec, ei, ej)
