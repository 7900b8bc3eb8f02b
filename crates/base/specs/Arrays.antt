-- Arrays in structs, and stores of lists.
use Rattle.std.specs.Prelude.{◌+◌, ◌≤◌, ◌<◌, ◌≡◌, ◌∷◌, ◌++◌}
use Rattle.std.proofs.Math.Seq.{paste-suc}
use Rattle.base.specs.Prelude.{ℕ, zero, suc, arith, add-zero, add-suc, suc-add, add-one, zero-add, le_of_lt, refl}
use Rattle.base.specs.Prelude.{sym, ◌∙◌}
use Rattle.base.specs.Prelude.{List, [], map, length, length-map, length-set, get_or, set, set_out, sets, take, take-suc}
use Rattle.base.specs.Prelude.{length-take-le, drop, get_or-set_other, ℕ_discrete}

-- The length of an array in a struct, as the struct's own rule has it: that of the list of its elements' values.
pub length_mapped : (X Y : Type 0) (f : X → Y) (l : List X) (n : ℕ) → length (map f l) ≡ n → length l ≡ n
length_mapped X Y f l n h = sym (length-map l f) ∙ h

-- What holds of an element, and of what is stored in its place, holds of what then stands there.
pub get_or_set_keeps : {A : Type 0} (P : A → Type 0) (l : List A) (i : ℕ) (x d : A) → P x → P (get_or l i d) → P (get_or (set l i x) i d)
get_or_set_keeps P [] i x d new old = old
get_or_set_keeps P (y ∷ l) zero x d new old = new
get_or_set_keeps P (y ∷ l) (suc i) x d new old = get_or_set_keeps P l i x d new old

-- The same of any place, which is the one stored in or another.
pub get_or_set_cases : {A : Type 0} (P : A → Type 0) (l : List A) (i j : ℕ) (x d : A) → (j ≡ i → P x) → P (get_or l j d) →
    P (get_or (set l i x) j d)
get_or_set_cases P l i j x d new old =
    elim (ℕ_discrete j i) [
      | yes e ↦ rw e (get_or_set_keeps P l i x d (new e) (rw e at old))
      | no ne ↦ rw (get_or-set_other l i j x d ne) old
    ]

-- Two lists stored one behind the other: their concatenation stored.
pub sets_append : (l : List ℕ) (i : ℕ) (vs ws : List ℕ) → sets l i (vs ++ ws) ≡ sets (sets l i vs) (i + length vs) ws
sets_append l i [] ws = rw add-zero
sets_append l i (v ∷ vs) ws = rw (add-suc, ← suc-add) (sets_append (set l i v) (suc i) vs ws)

-- One value more of a list that is being stored.
pub sets_more : (l : List ℕ) (i : ℕ) (vs : List ℕ) (k : ℕ) → k < length vs
    → set (sets l i (take k vs)) (i + k) (get_or vs k 0) ≡ sets l i (take (k + 1) vs)
sets_more l i vs k h =
    rw (add-one, take-suc vs k 0 h, sets_append, length-take-le k vs (le_of_lt h))

-- Past the end of a list nothing is stored.
pub sets_beyond : (l : List ℕ) (i : ℕ) (vs : List ℕ) → length l ≤ i → sets l i vs ≡ l
sets_beyond l i [] h = refl
sets_beyond l i (v ∷ vs) h = rw (set_out l i v h) (sets_beyond l (suc i) vs (omega arith))

-- Of n values the first i are copied to the first i places of a buffer, and the rest of it is as it was.
abbrev pub Copied : (from : List ℕ) (n : ℕ) (before buffer : List ℕ) (i : ℕ) → Type 0
Copied from n before buffer i = (i ≤ n) × (length buffer ≡ length before) × (buffer ≡ take i from ++ drop i before)

module _ (from : List ℕ) (n : ℕ) (before buffer : List ℕ) (i : ℕ) (h : Copied from n before buffer i) where
  pub copied_more : i < n → n ≤ length from → n ≤ length before → Copied from n before (set buffer i (get_or from i 0)) (i + 1)
  copied_more more long room =
      (omega arith, simp length-set h.1, rw (h.2, add-one) (simp zero-add at (paste-suc before 0 from i 0 (omega arith) (omega arith))))

  pub copied_all : n ≤ i → buffer ≡ take n from ++ drop n before
  copied_all all = let e : i ≡ n = omega arith in h.2 ∙ rw e
