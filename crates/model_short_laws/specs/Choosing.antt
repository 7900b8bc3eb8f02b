-- The legal lists as they are chosen, 02, wish 12: "The choice of an entry leads to the choice of the rest, which leads to the choice of an
-- entry, with the remaining length falling." They are those of the definition, in the same order.
use Rattle.std.specs.Prelude.{◌≡◌, ◌∷◌, ◌++◌, ◌&&◌}
use Rattle.base.specs.Prelude.{ℕ, suc, zero, refl, sym, ap, ap₂, ◌∙◌, List, [], map, append_assoc, length, take, drop}
use Rattle.base.specs.Prelude.{Bool, true, false, cond, and-false, eqb}
use Rattle.base.specs.Bools.{and_left, and_right, cond_same}
use Rattle.model.specs.declared.Session.{Session}
use Rattle.model.specs.declared.Counts.{Counts}
use Rattle.model.specs.Answers.{Stepped, Refused}
use Rattle.model.specs.Window.{window}
use Rattle.model.specs.Board.{opened, no_counts}
use Rattle.model.specs.Sound.{every}
use Rattle.model.specs.Machine.{execute}
use Rattle.model.specs.Runner.{entry_answer, run_by, run_from, ran}
use Rattle.model_short.specs.declared.RawEntry.{RawEntry}
use Rattle.model_short.specs.Short.{said, choices, among, is_finished, legal, in_front, lists_of, kept, legal_lists}
use Rattle.model_short_laws.specs.Entries.{index_in, among_own, among_split, among_drop}

abbrev pub Lists : Type 0
Lists = List (List RawEntry)

-- What the machine of n processes answers to an entry, and whether it accepts it.
unfoldable pub raw_answer : (n : ℕ) → Session → Counts → RawEntry → Stepped
raw_answer n s c e = entry_answer (execute (window n)) s c (said e)

abbrev pub accepts : (n : ℕ) → Session → Counts → RawEntry → Bool
accepts n s c e = eqb (raw_answer n s c e).code 0

-- ---- legal, one entry after the other

unfoldable pub legal_from : (n : ℕ) → Session → Counts → List RawEntry → Bool
legal_from n s c [] = true
legal_from n s c (e ∷ es) =
    among (choices n) e && (accepts n s c e && legal_from n (raw_answer n s c e).session (raw_answer n s c e).counts es)

legal_run : (n : ℕ) (l : List RawEntry) (k : ℕ) (s : Session) (c : Counts)
    → (every (among (choices n)) l && is_finished (run_from (window n) (length l) k s c (map said l)).ending) ≡ legal_from n s c l
unfolding legal_from run_by raw_answer
legal_run n [] k s c = refl
legal_run n (e ∷ l) k s c =
    go (among (choices n) e) (accepts n s c e) (legal_run n l (suc k) (raw_answer n s c e).session (raw_answer n s c e).counts)
  where
    go : (a b : Bool)
        → (every (among (choices n)) l
        && is_finished (run_from (window n) (length l) (suc k) (raw_answer n s c e).session (raw_answer n s c e).counts (map said l)).ending)
        ≡ legal_from n (raw_answer n s c e).session (raw_answer n s c e).counts l
        → ((a && every (among (choices n)) l)
        && is_finished
        (cond b
        (run_from (window n) (length l) (suc k) (raw_answer n s c e).session (raw_answer n s c e).counts (map said l))
        (ran k s c (Refused (raw_answer n s c e).code k))).ending)
        ≡ (a && (b && legal_from n (raw_answer n s c e).session (raw_answer n s c e).counts l))
    go true true below = below
    go true false below = and-false (every (among (choices n)) l)
    go false b below = refl

pub legal_from_law : (n : ℕ) (l : List RawEntry) → legal n l ≡ legal_from n (opened n (window n)) no_counts l
unfolding legal
legal_from_law n l = legal_run n l 0 (opened n (window n)) no_counts

-- ---- the lists, by the choice of an entry and of the rest

-- Lists with an entry in front that is accepted; none where it is not.
unfoldable pub behind : Bool → RawEntry → Lists → Lists
behind ok e ls = cond ok (map (λ (l : List RawEntry). e ∷ l) ls) []

-- "The choice of an entry leads to the choice of the rest": the lists that begin with one of the given entries.
unfoldable pub by_entry : (n : ℕ) → (rest : Session → Counts → Lists) → Session → Counts → List RawEntry → Lists
by_entry n rest s c [] = []
by_entry n rest s c (e ∷ es) =
    behind (accepts n s c e) e (rest (raw_answer n s c e).session (raw_answer n s c e).counts) ++ by_entry n rest s c es

-- "Which leads to the choice of an entry, with the remaining length falling."
unfoldable pub lists_from : (n m : ℕ) → Session → Counts → Lists
lists_from n zero s c = [] ∷ []
lists_from n (suc k) s c = by_entry n (lists_from n k) s c (choices n)

kept_append : (test : List RawEntry → Bool) (a b : Lists) → kept test (a ++ b) ≡ kept test a ++ kept test b
kept_append test [] b = refl
kept_append test (l ∷ a) b = go (test l) (kept_append test a b)
  where
    go : (t : Bool) → kept test (a ++ b) ≡ kept test a ++ kept test b
        → cond t (l ∷ kept test (a ++ b)) (kept test (a ++ b)) ≡ cond t (l ∷ kept test a) (kept test a) ++ kept test b
    go true below = ap (λ (x : Lists). l ∷ x) below
    go false below = below

kept_alike : (test test' : List RawEntry → Bool) → ((l : List RawEntry) → test l ≡ test' l) → (ls : Lists) → kept test ls ≡ kept test' ls
kept_alike test test' h [] = refl
kept_alike test test' h (l ∷ ls) = rw (h l, kept_alike test test' h ls) refl

-- Of the lists with a given entry in front the legal ones are those with a legal rest.
kept_behind : (n : ℕ) (s : Session) (c : Counts) (e : RawEntry) → among (choices n) e ≡ true → (ls : Lists)
    → kept (legal_from n s c) (map (λ (l : List RawEntry). e ∷ l) ls)
    ≡ behind (accepts n s c e) e (kept (legal_from n (raw_answer n s c e).session (raw_answer n s c e).counts) ls)
unfolding behind legal_from
kept_behind n s c e m [] = sym (cond_same (accepts n s c e) [])
kept_behind n s c e m (l ∷ ls) =
    rw (m, kept_behind n s c e m ls) (go (accepts n s c e) (legal_from n (raw_answer n s c e).session (raw_answer n s c e).counts l))
  where
    rest : Lists
    rest = kept (legal_from n (raw_answer n s c e).session (raw_answer n s c e).counts) ls

    front : Lists → Lists
    front = map (λ (l : List RawEntry). e ∷ l)

    go : (ok t : Bool)
        → cond (ok && t) ((e ∷ l) ∷ cond ok (front rest) []) (cond ok (front rest) []) ≡ cond ok (front (cond t (l ∷ rest) rest)) []
    go true true = refl
    go true false = refl
    go false t = refl

kept_by : (n : ℕ) (s : Session) (c : Counts) (ls : Lists) (es : List RawEntry) → every (among (choices n)) es ≡ true
    → kept (legal_from n s c) (in_front es ls) ≡ by_entry n (λ t d. kept (legal_from n t d) ls) s c es
unfolding by_entry
kept_by n s c ls [] h = refl
kept_by n s c ls (e ∷ es) h =
    kept_append (legal_from n s c) (map (λ (l : List RawEntry). e ∷ l) ls) (in_front es ls)
    ∙ ap₂ {C = Lists} (λ (x y : Lists). x ++ y)
    (kept_behind n s c e (and_left (among (choices n) e) _ h) ls)
    (kept_by n s c ls es (and_right (among (choices n) e) _ h))

by_alike : (n : ℕ) (rest rest' : Session → Counts → Lists) → ((t : Session) (d : Counts) → rest t d ≡ rest' t d)
    → (s : Session) (c : Counts) (es : List RawEntry) → by_entry n rest s c es ≡ by_entry n rest' s c es
unfolding by_entry
by_alike n rest rest' h s c [] = refl
by_alike n rest rest' h s c (e ∷ es) =
    rw (h (raw_answer n s c e).session (raw_answer n s c e).counts, by_alike n rest rest' h s c es) refl

kept_lists : (n m : ℕ) (s : Session) (c : Counts) → kept (legal_from n s c) (lists_of (choices n) m) ≡ lists_from n m s c
unfolding lists_of lists_from legal_from
kept_lists n zero s c = refl
kept_lists n (suc k) s c =
    kept_by n s c (lists_of (choices n) k) (choices n) (among_own (choices n))
    ∙ by_alike n (λ t d. kept (legal_from n t d) (lists_of (choices n) k)) (lists_from n k) (kept_lists n k) s c (choices n)

-- The legal lists are those that are chosen so.
pub legal_lists_law : (n m : ℕ) → legal_lists n m ≡ lists_from n m (opened n (window n)) no_counts
unfolding legal_lists
legal_lists_law n m =
    kept_alike (legal n) (legal_from n (opened n (window n)) no_counts) (legal_from_law n) (lists_of (choices n) m)
    ∙ kept_lists n m (opened n (window n)) no_counts

-- ---- the lists after a given one

-- The lists that begin with one of the given entries, where the first of these has other lists of the rest than those after it.
unfoldable pub from_entry : (n : ℕ) → (rest₁ rest : Session → Counts → Lists) → Session → Counts → List RawEntry → Lists
from_entry n rest₁ rest s c [] = []
from_entry n rest₁ rest s c (e ∷ es) =
    behind (accepts n s c e) e (rest₁ (raw_answer n s c e).session (raw_answer n s c e).counts) ++ by_entry n rest s c es

-- Those that come after a list: with its first entry and a later rest, then with a later first entry and any rest.
unfoldable pub later_from : (n : ℕ) → Session → Counts → List RawEntry → Lists
later_from n s c [] = []
later_from n s c (e ∷ es) =
    from_entry n (λ t d. later_from n t d es) (lists_from n (length es)) s c (drop (index_in e (choices n)) (choices n))

map_append : (e : RawEntry) (a b : Lists)
    → map (λ (x : List RawEntry). e ∷ x) (a ++ b) ≡ map (λ (x : List RawEntry). e ∷ x) a ++ map (λ (x : List RawEntry). e ∷ x) b
map_append e [] b = refl
map_append e (x ∷ a) b = ap (λ (l : Lists). (e ∷ x) ∷ l) (map_append e a b)

by_append : (n : ℕ) (rest : Session → Counts → Lists) (s : Session) (c : Counts) (a b : List RawEntry)
    → by_entry n rest s c (a ++ b) ≡ by_entry n rest s c a ++ by_entry n rest s c b
unfolding by_entry
by_append n rest s c [] b = refl
by_append n rest s c (e ∷ a) b = rw (by_append n rest s c a b) (simp append_assoc)

-- A legal list stands in front of its later ones.
pub later_behind : (n : ℕ) (s : Session) (c : Counts) (l : List RawEntry) → legal_from n s c l ≡ true
    → (front : Lists) × (lists_from n (length l) s c ≡ front ++ (l ∷ later_from n s c l))
unfolding lists_from legal_from later_from from_entry by_entry behind
later_behind n s c [] h = ([], refl)
later_behind n s c (e ∷ es) h =
    let here = and_left (among (choices n) e) _ h in
    let h' = and_right (among (choices n) e) _ h in
    let ok = and_left (accepts n s c e) _ h' in
    let r = later_behind n (raw_answer n s c e).session (raw_answer n s c e).counts es (and_right (accepts n s c e) _ h') in
    joined ok here r.0 r.1
  where
    joined : accepts n s c e ≡ true → among (choices n) e ≡ true → (front : Lists)
        → lists_from n (length es) (raw_answer n s c e).session (raw_answer n s c e).counts
        ≡ front ++ (es ∷ later_from n (raw_answer n s c e).session (raw_answer n s c e).counts es)
        → (front : Lists) × (by_entry n (lists_from n (length es)) s c (choices n) ≡ front ++ ((e ∷ es)
        ∷ from_entry n (λ t d. later_from n t d es) (lists_from n (length es)) s c (drop (index_in e (choices n)) (choices n))))
    joined ok here front q = (
      by_entry n (lists_from n (length es)) s c (take (index_in e (choices n)) (choices n)) ++ map (λ (x : List RawEntry). e ∷ x) front,
      ap (by_entry n (lists_from n (length es)) s c) (among_split (choices n) e here)
          ∙ by_append n (lists_from n (length es)) s c (take (index_in e (choices n)) (choices n))
          (e ∷ drop (suc (index_in e (choices n))) (choices n))
          ∙ rw (
            among_drop (choices n) e here,
            ok,
            q,
            map_append e front (es ∷ later_from n (raw_answer n s c e).session (raw_answer n s c e).counts es),
          ) (simp append_assoc),
    )
