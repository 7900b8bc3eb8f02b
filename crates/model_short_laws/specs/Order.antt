-- The legal lists ascend (02, wish 12: "Lists are ordered by their first differing entry, entries by kind, then seat, then value"), so that
-- each stands at one place, and those after it are the ones behind it.
use Rattle.std.specs.Prelude.{◌<◌, ◌≡◌, ◌∷◌, ◌++◌, ◌&&◌, ◌||◌, ◌⊎◌}
use mathlib.Core.List.{cons-ne-nil}
use Rattle.std.proofs.Math.Seq.{split_at}
use Rattle.base.specs.Prelude.{ℕ, suc, zero, refl, sym, ap, ◌∙◌, List, [], map, length, take, drop, get_or, arith}
use Rattle.base.specs.Prelude.{Bool, true, false, cond, ltb, eq-eqb, le-ltb, true≢false, inl, inr}
use Rattle.base.specs.Bools.{and_left, and_right, and_both}
use Rattle.model.specs.Window.{window}
use Rattle.model.specs.Board.{opened, no_counts}
use Rattle.model.specs.Sound.{every}
use Rattle.model_laws.specs.Every.{every_append}
use Rattle.model_short.specs.declared.RawEntry.{RawEntry}
use Rattle.model_short.specs.Short.{choices, legal, in_front, lists_of, kept, legal_lists, same_list, is_listed, following}
use Rattle.model_short.specs.Short.{earlier, precedes, ascending}
use Rattle.model_short_laws.specs.Entries.{same_refl, same_list_refl, same_list_eq, or_right}
use Rattle.model_short_laws.specs.Choosing.{Lists, legal_from_law, legal_lists_law, later_from, later_behind}

-- "One or two seats."
abbrev pub OneOrTwo : ℕ → Type 0
OneOrTwo n = (n ≡ 1) ⊎ (n ≡ 2)

-- ---- the order of entries and lists

earlier_irreflexive : (e : RawEntry) → earlier e e ≡ false
unfolding earlier
earlier_irreflexive e =
    let k : ltb e.kind e.kind ≡ false = le-ltb e.kind e.kind (omega arith) in
    let p : ltb e.process e.process ≡ false = le-ltb e.process e.process (omega arith) in
    let v : ltb e.value e.value ≡ false = le-ltb e.value e.value (omega arith) in
    rw (k, p, v, eq-eqb e.kind e.kind refl, eq-eqb e.process e.process refl) refl

precedes_own : (e : RawEntry) (l x : List RawEntry) → precedes (e ∷ l) (e ∷ x) ≡ precedes l x
unfolding precedes
precedes_own e l x = rw (earlier_irreflexive e, same_refl e) refl

precedes_irreflexive : (l : List RawEntry) → precedes l l ≡ false
unfolding precedes
precedes_irreflexive [] = refl
precedes_irreflexive (e ∷ l) = precedes_own e l l ∙ precedes_irreflexive l

-- ---- lists of lists that ascend

ascending_append : (a b : Lists) → ascending a ≡ true → ascending b ≡ true → every (λ x. every (precedes x) b) a ≡ true
    → ascending (a ++ b) ≡ true
unfolding ascending
ascending_append [] b p q h = q
ascending_append (x ∷ a) b p q h =
    and_both
    (every_append (precedes x) a b ∙ and_both (and_left (every (precedes x) a) (ascending a) p) (and_left (every (precedes x) b) _ h))
    (ascending_append a b (and_right (every (precedes x) a) (ascending a) p) q (and_right (every (precedes x) b) _ h))

every_kept : (test keeps : List RawEntry → Bool) (ls : Lists) → every test ls ≡ true → every test (kept keeps ls) ≡ true
every_kept test keeps [] h = refl
every_kept test keeps (l ∷ ls) h = go (keeps l) (every_kept test keeps ls (and_right (test l) (every test ls) h))
  where
    go : (t : Bool) → every test (kept keeps ls) ≡ true → every test (cond t (l ∷ kept keeps ls) (kept keeps ls)) ≡ true
    go true below = and_both (and_left (test l) (every test ls) h) below
    go false below = below

ascending_kept : (keeps : List RawEntry → Bool) (ls : Lists) → ascending ls ≡ true → ascending (kept keeps ls) ≡ true
unfolding ascending
ascending_kept keeps [] h = refl
ascending_kept keeps (l ∷ ls) h = go (keeps l) (ascending_kept keeps ls (and_right (every (precedes l) ls) (ascending ls) h))
  where
    go : (t : Bool) → ascending (kept keeps ls) ≡ true → ascending (cond t (l ∷ kept keeps ls) (kept keeps ls)) ≡ true
    go true below = and_both (every_kept (precedes l) keeps ls (and_left (every (precedes l) ls) (ascending ls) h)) below
    go false below = below

-- ---- lists with an entry in front

every_front : (e : RawEntry) (l : List RawEntry) (ls : Lists)
    → every (precedes (e ∷ l)) (map (λ (x : List RawEntry). e ∷ x) ls) ≡ every (precedes l) ls
every_front e l [] = refl
every_front e l (x ∷ xs) = rw (precedes_own e l x, every_front e l xs) refl

ascending_front : (e : RawEntry) (ls : Lists) → ascending (map (λ (x : List RawEntry). e ∷ x) ls) ≡ ascending ls
unfolding ascending
ascending_front e [] = refl
ascending_front e (l ∷ ls) = rw (every_front e l ls, ascending_front e ls) refl

earlier_front : (e f : RawEntry) (l : List RawEntry) → earlier e f ≡ true → (ls : Lists)
    → every (precedes (e ∷ l)) (map (λ (x : List RawEntry). f ∷ x) ls) ≡ true
unfolding precedes
earlier_front e f l h [] = refl
earlier_front e f l h (x ∷ xs) = rw (h, earlier_front e f l h xs) refl

earlier_in_front : (e : RawEntry) (l : List RawEntry) (es : List RawEntry) → every (earlier e) es ≡ true → (ls : Lists)
    → every (precedes (e ∷ l)) (in_front es ls) ≡ true
earlier_in_front e l [] h ls = refl
earlier_in_front e l (f ∷ fs) h ls =
    every_append (precedes (e ∷ l)) (map (λ (x : List RawEntry). f ∷ x) ls) (in_front fs ls)
    ∙ and_both (earlier_front e f l (and_left (earlier e f) _ h) ls) (earlier_in_front e l fs (and_right (earlier e f) _ h) ls)

earlier_all : (e : RawEntry) (es : List RawEntry) → every (earlier e) es ≡ true → (ls ms : Lists)
    → every (λ x. every (precedes x) (in_front es ls)) (map (λ (x : List RawEntry). e ∷ x) ms) ≡ true
earlier_all e es h ls [] = refl
earlier_all e es h ls (m ∷ ms) = and_both (earlier_in_front e m es h ls) (earlier_all e es h ls ms)

-- Entries in their order.
unfoldable in_turn : List RawEntry → Bool
in_turn [] = true
in_turn (e ∷ es) = every (earlier e) es && in_turn es

ascending_in_front : (es : List RawEntry) → in_turn es ≡ true → (ls : Lists) → ascending ls ≡ true → ascending (in_front es ls) ≡ true
unfolding in_turn ascending
ascending_in_front [] h ls p = refl
ascending_in_front (e ∷ es) h ls p =
    ascending_append (map (λ (x : List RawEntry). e ∷ x) ls) (in_front es ls) (ascending_front e ls ∙ p)
    (ascending_in_front es (and_right (every (earlier e) es) (in_turn es) h) ls p)
    (earlier_all e es (and_left (every (earlier e) es) (in_turn es) h) ls ls)

ascending_of : (es : List RawEntry) → in_turn es ≡ true → (m : ℕ) → ascending (lists_of es m) ≡ true
unfolding lists_of ascending
ascending_of es h zero = refl
ascending_of es h (suc k) = ascending_in_front es h (lists_of es k) (ascending_of es h k)

choices_in_turn : (n : ℕ) → OneOrTwo n → in_turn (choices n) ≡ true
unfolding choices in_turn earlier
choices_in_turn n (inl e) = rw e refl
choices_in_turn n (inr e) = rw e refl

pub legal_ascending : (n : ℕ) → OneOrTwo n → (m : ℕ) → ascending (legal_lists n m) ≡ true
unfolding legal_lists
legal_ascending n h m = ascending_kept (legal n) (lists_of (choices n) m) (ascending_of (choices n) (choices_in_turn n h) m)

-- ---- what follows

every_middle : (test : List RawEntry → Bool) (a : Lists) (x : List RawEntry) (b : Lists) → every test (a ++ (x ∷ b)) ≡ true → test x ≡ true
every_middle test a x b h = and_left (test x) (every test b) (and_right (every test a) _ (sym (every_append test a (x ∷ b)) ∙ h))

-- In lists that ascend, those behind a list follow it.
following_behind : (l : List RawEntry) (front rest : Lists) → ascending (front ++ (l ∷ rest)) ≡ true
    → following l (front ++ (l ∷ rest)) ≡ rest
unfolding following ascending
following_behind l [] rest h = rw (same_list_refl l) refl
following_behind l (x ∷ front) rest h =
    go (same_list l x) refl (following_behind l front rest (and_right (every (precedes x) (front ++ (l ∷ rest))) _ h))
  where
    go : (t : Bool) → same_list l x ≡ t → following l (front ++ (l ∷ rest)) ≡ rest
        → cond (same_list l x) (front ++ (l ∷ rest)) (following l (front ++ (l ∷ rest))) ≡ rest
    go true q below =
        let b : precedes x l ≡ true = every_middle (precedes x) front l rest (and_left (every (precedes x) (front ++ (l ∷ rest))) _ h) in
        absurd (true≢false (sym b ∙ ap (precedes x) (same_list_eq l x q) ∙ precedes_irreflexive x))
    go false q below = rw q below

-- Those from place k + 1 on follow the one at place k.
pub following_place : (ls : Lists) → ascending ls ≡ true → (k : ℕ) → k < length ls → following (get_or ls k []) ls ≡ drop (suc k) ls
following_place ls h k low =
    let q = split_at ls k [] low in
    ap (following (get_or ls k [])) q ∙ following_behind (get_or ls k []) (take k ls) (drop (suc k) ls) (rw (← q) h)

-- What follows is listed.
pub following_listed : (l : List RawEntry) (ls : Lists) (x : List RawEntry) (xs : Lists) → following l ls ≡ x ∷ xs → is_listed x ls ≡ true
unfolding following
following_listed l [] x xs h = absurd (cons-ne-nil _ _ (sym h))
following_listed l (y ∷ ys) x xs h = go (same_list l y) refl (following_listed l ys x xs)
  where
    go : (t : Bool) → same_list l y ≡ t → (following l ys ≡ x ∷ xs → is_listed x ys ≡ true) → (same_list x y || is_listed x ys) ≡ true
    go true q below = or_right (same_list x y) (rw (rw q at h, same_list_refl x) refl)
    go false q below = or_right (same_list x y) (below (rw q at h))

-- Those that are chosen after a legal list follow it.
pub following_later : (n : ℕ) → OneOrTwo n → (l : List RawEntry) → legal n l ≡ true
    → following l (legal_lists n (length l)) ≡ later_from n (opened n (window n)) no_counts l
following_later n h l ok =
    let r = later_behind n (opened n (window n)) no_counts l (sym (legal_from_law n l) ∙ ok) in
    let q : legal_lists n (length l) ≡ r.0 ++ (l ∷ later_from n (opened n (window n)) no_counts l) = legal_lists_law n (length l) ∙ r.1 in
    ap (following l) q
    ∙ following_behind l r.0 (later_from n (opened n (window n)) no_counts l) (sym (ap ascending q) ∙ legal_ascending n h (length l))
