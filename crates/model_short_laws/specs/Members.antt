-- Which lists are listed: 02, wish 12, "each legal list .. and nothing else".
use Rattle.std.specs.Prelude.{◌≡◌, ◌∷◌, ◌++◌, ◌<◌, ◌&&◌, ◌||◌}
use Rattle.base.specs.Prelude.{ℕ, suc, zero, refl, sym, ap, ◌∙◌, List, [], map, length, get_or, arith}
use Rattle.base.specs.Prelude.{Bool, true, false, cond, or_assoc, and-false, eqb, eqb-true, eqb-false, eq-eqb, ne_eqb}
use Rattle.model.specs.Sound.{every}
use Rattle.model_short.specs.declared.RawEntry.{RawEntry}
use Rattle.model_short.specs.Short.{choices, same, among, legal, in_front, lists_of, kept, legal_lists, same_list, is_listed}
use Rattle.model_short_laws.specs.Entries.{same_list_refl, same_list_eq}
use Rattle.model_short_laws.specs.Choosing.{Lists}

listed_append : (l : List RawEntry) (a b : Lists) → is_listed l (a ++ b) ≡ (is_listed l a || is_listed l b)
listed_append l [] b = refl
listed_append l (x ∷ a) b = rw (listed_append l a b) (simp or_assoc)

-- Of the lists that a test keeps, it holds.
listed_kept : (test : List RawEntry → Bool) (l : List RawEntry) (ls : Lists) → is_listed l (kept test ls) ≡ (is_listed l ls && test l)
listed_kept test l [] = refl
listed_kept test l (x ∷ xs) = go (test x) refl (same_list l x) refl (listed_kept test l xs)
  where
    go : (t : Bool) → test x ≡ t → (b : Bool) → same_list l x ≡ b → is_listed l (kept test xs) ≡ (is_listed l xs && test l)
        → is_listed l (cond (test x) (x ∷ kept test xs) (kept test xs)) ≡ ((same_list l x || is_listed l xs) && test l)
    go true p true q below = rw (p, q, same_list_eq l x q, p) refl
    go true p false q below = rw (p, q) below
    go false p true q below =
        let f : test l ≡ false = ap test (same_list_eq l x q) ∙ p in
        rw (p, q, f) (below ∙ rw f (and-false (is_listed l xs)))
    go false p false q below = rw (p, q) below

-- Of lists with an entry in front: the entry and the rest are.
listed_front : (e f : RawEntry) (l : List RawEntry) (ls : Lists)
    → is_listed (e ∷ l) (map (λ (x : List RawEntry). f ∷ x) ls) ≡ (same e f && is_listed l ls)
listed_front e f l [] = sym (and-false (same e f))
listed_front e f l (x ∷ xs) = rw (listed_front e f l xs) (go (same e f))
  where
    go : (t : Bool) → ((t && same_list l x) || (t && is_listed l xs)) ≡ (t && (same_list l x || is_listed l xs))
    go true = refl
    go false = refl

listed_in_front : (e : RawEntry) (l : List RawEntry) (es : List RawEntry) (ls : Lists)
    → is_listed (e ∷ l) (in_front es ls) ≡ (among es e && is_listed l ls)
listed_in_front e l [] ls = refl
listed_in_front e l (f ∷ fs) ls =
    listed_append (e ∷ l) (map (λ (x : List RawEntry). f ∷ x) ls) (in_front fs ls)
    ∙ rw (listed_front e f l ls, listed_in_front e l fs ls) (go (same e f) (among fs e) (is_listed l ls))
  where
    go : (a b c : Bool) → ((a && c) || (b && c)) ≡ ((a || b) && c)
    go true true true = refl
    go true true false = refl
    go true false true = refl
    go true false false = refl
    go false b c = refl

empty_front : (f : RawEntry) (ls : Lists) → is_listed [] (map (λ (x : List RawEntry). f ∷ x) ls) ≡ false
empty_front f [] = refl
empty_front f (x ∷ xs) = empty_front f xs

empty_in_front : (es : List RawEntry) (ls : Lists) → is_listed [] (in_front es ls) ≡ false
empty_in_front [] ls = refl
empty_in_front (f ∷ fs) ls =
    listed_append [] (map (λ (x : List RawEntry). f ∷ x) ls) (in_front fs ls) ∙ rw (empty_front f ls, empty_in_front fs ls) refl

eqb_suc : (a b : ℕ) → eqb (suc a) (suc b) ≡ eqb a b
eqb_suc a b = go (eqb a b) refl
  where
    go : (t : Bool) → eqb a b ≡ t → eqb (suc a) (suc b) ≡ t
    go true h = eq-eqb (suc a) (suc b) (ap suc (eqb-true a b h))
    go false h = ne_eqb (suc a) (suc b) (λ q. eqb-false a b h (omega arith))

-- Every list of m of the given entries is listed, and nothing else.
listed_of : (es : List RawEntry) (m : ℕ) (l : List RawEntry) → is_listed l (lists_of es m) ≡ (eqb (length l) m && every (among es) l)
unfolding lists_of
listed_of es zero [] = refl
listed_of es zero (e ∷ l) = rw (ne_eqb (suc (length l)) 0 (λ q. omega arith)) refl
listed_of es (suc k) [] = rw (ne_eqb 0 (suc k) (λ q. omega arith)) (empty_in_front es (lists_of es k))
listed_of es (suc k) (e ∷ l) =
    listed_in_front e l es (lists_of es k)
    ∙ rw (listed_of es k l, eqb_suc (length l) k) (go (among es e) (eqb (length l) k) (every (among es) l))
  where
    go : (a b c : Bool) → (a && (b && c)) ≡ (b && (a && c))
    go true b c = refl
    go false true c = refl
    go false false c = refl

-- "Each legal list .. and nothing else."
pub listed_legal : (n m : ℕ) (l : List RawEntry) → is_listed l (legal_lists n m) ≡ (eqb (length l) m && legal n l)
unfolding legal_lists legal
listed_legal n m l =
    listed_kept (legal n) l (lists_of (choices n) m) ∙ rw (listed_of (choices n) m l) (go (eqb (length l) m) (every (among (choices n)) l) _)
  where
    go : (a b c : Bool) → ((a && b) && (b && c)) ≡ (a && (b && c))
    go true true c = refl
    go true false c = refl
    go false b c = refl

-- What stands at a place is listed.
pub place_listed : (ls : Lists) (k : ℕ) → k < length ls → is_listed (get_or ls k []) ls ≡ true
place_listed [] k h = absurd (omega arith)
place_listed (x ∷ xs) zero h = rw (same_list_refl x) refl
place_listed (x ∷ xs) (suc k) h = rw (place_listed xs k (omega arith)) (go (same_list (get_or xs k []) x))
  where
    go : (t : Bool) → (t || true) ≡ true
    go true = refl
    go false = refl
