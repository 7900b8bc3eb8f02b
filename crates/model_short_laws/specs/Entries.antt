-- Entries, and their places in a list of entries.
use Rattle.std.specs.Prelude.{◌≡◌, ◌∷◌, ◌++◌, ◌||◌}
use Rattle.base.specs.Prelude.{ℕ, suc, refl, sym, ap, ap₂, ◌∙◌, List, [], length, take, drop, arith}
use Rattle.base.specs.Prelude.{Bool, true, false, cond, true≢false}
use Rattle.base.specs.Prelude.{eqb, ltb, eqb-true, eq-eqb, lt-ltb, le-ltb, ltb-true, ltb-false}
use Rattle.base.specs.Bools.{and_left, and_right, and_both}
use Rattle.model.specs.Sound.{every}
use Rattle.model_short.specs.declared.RawEntry.{RawEntry}
use Rattle.model_short.specs.Short.{same, among, same_list}

pub same_refl : (e : RawEntry) → same e e ≡ true
same_refl e = and_both (eq-eqb e.kind _ refl) (and_both (eq-eqb e.process _ refl) (eq-eqb e.value _ refl))

pub same_eq : (e f : RawEntry) → same e f ≡ true → e ≡ f
same_eq e f h =
    let h' = and_right (eqb e.kind f.kind) _ h in
    let k : e.kind ≡ f.kind = eqb-true _ _ (and_left (eqb e.kind f.kind) _ h) in
    let p : e.process ≡ f.process = eqb-true _ _ (and_left (eqb e.process f.process) _ h') in
    let v : e.value ≡ f.value = eqb-true _ _ (and_right (eqb e.process f.process) _ h') in
    λ i. record { kind = k i; process = p i; value = v i }

pub same_list_refl : (l : List RawEntry) → same_list l l ≡ true
same_list_refl [] = refl
same_list_refl (e ∷ l) = and_both (same_refl e) (same_list_refl l)

pub same_list_eq : (l x : List RawEntry) → same_list l x ≡ true → l ≡ x
same_list_eq [] [] h = refl
same_list_eq [] (f ∷ x) h = absurd (true≢false (sym h))
same_list_eq (e ∷ l) [] h = absurd (true≢false (sym h))
same_list_eq (e ∷ l) (f ∷ x) h = ap₂ ◌∷◌ (same_eq e f (and_left (same e f) _ h)) (same_list_eq l x (and_right (same e f) _ h))

-- ---- the place of an entry in a list, from 0; the list's length where it is not there

unfoldable pub index_in : RawEntry → List RawEntry → ℕ
index_in e [] = 0
index_in e (f ∷ fs) = cond (same e f) 0 (suc (index_in e fs))

ltb_suc : (a b : ℕ) → ltb (suc a) (suc b) ≡ ltb a b
ltb_suc a b = go (ltb a b) refl
  where
    go : (t : Bool) → ltb a b ≡ t → ltb (suc a) (suc b) ≡ t
    go true h = lt-ltb (suc a) (suc b) (omega (arith, ltb-true a b h))
    go false h = le-ltb (suc a) (suc b) (omega (arith, ltb-false a b h))

-- An entry is among those of a list where its place is below the length.
pub among_index : (es : List RawEntry) (e : RawEntry) → among es e ≡ ltb (index_in e es) (length es)
unfolding index_in
among_index [] e = refl
among_index (f ∷ fs) e = go (same e f) refl (among_index fs e)
  where
    go : (t : Bool) → same e f ≡ t → among fs e ≡ ltb (index_in e fs) (length fs)
        → (same e f || among fs e) ≡ ltb (cond (same e f) 0 (suc (index_in e fs))) (suc (length fs))
    go true h below = rw h (sym (lt-ltb 0 (suc (length fs)) (omega arith)))
    go false h below = rw h (below ∙ sym (ltb_suc (index_in e fs) (length fs)))

-- It stands at its place, with those before it in front.
pub among_split : (es : List RawEntry) (e : RawEntry) → among es e ≡ true
    → es ≡ take (index_in e es) es ++ (e ∷ drop (suc (index_in e es)) es)
unfolding index_in
among_split [] e h = absurd (true≢false (sym h))
among_split (f ∷ fs) e h = go (same e f) refl (among_split fs e)
  where
    go : (t : Bool) → same e f ≡ t
        → (among fs e ≡ true → fs ≡ take (index_in e fs) fs ++ (e ∷ drop (suc (index_in e fs)) fs))
        → (f ∷ fs) ≡ take (index_in e (f ∷ fs)) (f ∷ fs) ++ (e ∷ drop (suc (index_in e (f ∷ fs))) (f ∷ fs))
    go true q below = rw (q, same_eq e f q) refl
    go false q below = rw q (ap (λ (l : List RawEntry). f ∷ l) (below (rw q at h)))

pub among_drop : (es : List RawEntry) (e : RawEntry) → among es e ≡ true → drop (index_in e es) es ≡ e ∷ drop (suc (index_in e es)) es
unfolding index_in
among_drop [] e h = absurd (true≢false (sym h))
among_drop (f ∷ fs) e h = go (same e f) refl (among_drop fs e)
  where
    go : (t : Bool) → same e f ≡ t → (among fs e ≡ true → drop (index_in e fs) fs ≡ e ∷ drop (suc (index_in e fs)) fs)
        → drop (index_in e (f ∷ fs)) (f ∷ fs) ≡ e ∷ drop (suc (index_in e (f ∷ fs))) (f ∷ fs)
    go true q below = rw (q, same_eq e f q) refl
    go false q below = rw q (below (rw q at h))

-- ---- all entries of a list

pub or_right : (a : Bool) {b : Bool} → b ≡ true → (a || b) ≡ true
or_right true h = refl
or_right false h = h

among_more : (f : RawEntry) (fs es : List RawEntry) → every (among fs) es ≡ true → every (among (f ∷ fs)) es ≡ true
among_more f fs [] h = refl
among_more f fs (e ∷ es) h =
    and_both (or_right (same e f) (and_left (among fs e) _ h)) (among_more f fs es (and_right (among fs e) _ h))

-- Each entry of a list is among them.
pub among_own : (es : List RawEntry) → every (among es) es ≡ true
among_own [] = refl
among_own (f ∷ fs) = and_both {a = among (f ∷ fs) f} (rw (same_refl f) refl) (among_more f fs fs (among_own fs))

-- What is tested of each of them is so of one of them.
pub every_among : (test : RawEntry → Bool) (es : List RawEntry) → every test es ≡ true → (e : RawEntry) → among es e ≡ true → test e ≡ true
every_among test [] h e m = absurd (true≢false (sym m))
every_among test (f ∷ fs) h e m = go (same e f) refl (every_among test fs (and_right (test f) (every test fs) h) e)
  where
    go : (t : Bool) → same e f ≡ t → (among fs e ≡ true → test e ≡ true) → test e ≡ true
    go true q below = rw (same_eq e f q) (and_left (test f) (every test fs) h)
    go false q below = below (rw q at m)
