-- What 01 says of the standing values, and 02 of their order, is so of the list that the model gives (`values_to`). Assumes nothing.
use Rattle.std.specs.Prelude.{◌+◌, ◌≤◌, ◌<◌, ◌≡◌, ◌&&◌, ◌||◌, ◌∷◌, ◌++◌, ◌⊎◌}
use Rattle.base.specs.Prelude.{ℕ, zero, suc, refl, sym, ap, Bool, true, false, cond, not, and-false}
use Rattle.base.specs.Prelude.{or-false, or-true, or_assoc, List, [], ⊎_elim, eq-or-lt_of_le, not-suc-le-zero, add-zero}
use Rattle.base.specs.Prelude.{arith, length, get_or, take, drop, length-append, get_or-append, take-suc, take-append_seam}
use Rattle.base.specs.Prelude.{get_or-append_seam, ltb, eqb, ltb-true, ltb-false, eqb-true, eq-eqb, lt-ltb, le-ltb}
use Rattle.base.specs.Bools.{cond_cases}
use Rattle.model.specs.declared.Session.{Session}
use Rattle.model.specs.ReadOut.{holds, values_to, standing_values, standing_refusal, standing_answer, standing_buffer}

-- ---- round by round

-- Whether v is no new value: blank, or held by an earlier register.
abbrev pub old : ℕ → List ℕ → Bool
old v earlier = eqb v 0 || holds v earlier

-- What holds of no registers and no values, and goes on holding with a register that has an old value and with one whose new value
-- is listed last, holds of the registers of the rounds 1 to r and their list.
module _ (P : (registers listed : List ℕ) → Type 0) (none : P [] [])
    (same : (ts l : List ℕ) (v : ℕ) → old v ts ≡ true → P ts l → P (ts ++ v ∷ []) l)
    (more : (ts l : List ℕ) (v : ℕ) → old v ts ≡ false → P ts l → P (ts ++ v ∷ []) (l ++ v ∷ [])) where
  by_rounds : (T : List ℕ) (r : ℕ) → r ≤ length T → P (take r T) (values_to T r)
  unfolding values_to
  by_rounds T zero h = none
  by_rounds T (suc r) h =
      let p = by_rounds T r (omega arith) in
      rw (take-suc T r 0)
      (cond_cases (λ l. P (take r T ++ get_or T r 0 ∷ []) l) (old (get_or T r 0) (take r T))
      (λ o. same (take r T) (values_to T r) (get_or T r 0) o p)
      (λ o. more (take r T) (values_to T r) (get_or T r 0) o p))

-- ---- 01: "each value that a filled register holds is there exactly once, and nothing else"

-- How often x stands in a list.
abbrev pub times : ℕ → List ℕ → ℕ
times x [] = 0
times x (y ∷ ys) = cond (eqb x y) (suc (times x ys)) (times x ys)

-- Two choices by one test, related in either case.
both_conds : {A B : Type 0} (R : A → B → Type 0) (t : Bool) {a b : A} {c d : B} → R a c → R b d → R (cond t a b) (cond t c d)
both_conds R true p q = p
both_conds R false p q = q

-- One number more at the end.
pub holds_last : (x v : ℕ) (l : List ℕ) → holds x (l ++ v ∷ []) ≡ (holds x l || eqb x v)
holds_last x v [] = or-false (eqb x v)
holds_last x v (y ∷ l) = rw (holds_last x v l) (sym (or_assoc (eqb x y) (holds x l) (eqb x v)))

times_last : (x v : ℕ) (l : List ℕ) → times x (l ++ v ∷ []) ≡ times x l + cond (eqb x v) 1 0
times_last x v [] = omega arith
times_last x v (y ∷ l) =
    let later = times_last x v l in
    both_conds (λ m n. m ≡ n + cond (eqb x v) 1 0) (eqb x y) (omega arith) later

-- Whether x is blank, held before, and the value of the next register: an old value changes nothing, and a new one is counted.
same_test : (z h e : Bool) → (e ≡ true → (z || h) ≡ true) → (not z && (h || e)) ≡ (not z && h)
same_test z h false old = simp or-false
same_test true h true old = refl
same_test false h true old = cc (or-true h, old refl)

more_test : (z h e : Bool) → (e ≡ true → (z || h) ≡ false) → cond (not z && h) 1 0 + cond e 1 0 ≡ cond (not z && (h || e)) 1 0
more_test z h false new = simp (or-false, add-zero)
more_test false false true new = refl
more_test true h true new = let z : true ≡ false = new refl in cc
more_test false true true new = let z : true ≡ false = new refl in cc

-- A number is listed once if it is a value that a register holds, and otherwise not at all.
abbrev pub Once : ℕ → (registers listed : List ℕ) → Type 0
Once x ts l = times x l ≡ cond (not (eqb x 0) && holds x ts) 1 0

pub each_once : (x : ℕ) (T : List ℕ) (r : ℕ) → r ≤ length T → Once x (take r T) (values_to T r)
each_once x = by_rounds (Once x) (rw (and-false (not (eqb x 0)))) same more
  where
    same : (ts l : List ℕ) (v : ℕ) → old v ts ≡ true → Once x ts l → Once x (ts ++ v ∷ []) l
    same ts l v o p =
        rw (holds_last x v ts, same_test (eqb x 0) (holds x ts) (eqb x v) (λ e. rw (eqb-true x v e) o)) p

    more : (ts l : List ℕ) (v : ℕ) → old v ts ≡ false → Once x ts l → Once x (ts ++ v ∷ []) (l ++ v ∷ [])
    more ts l v o p =
        rw (holds_last x v ts, times_last x v l, p) (more_test (eqb x 0) (holds x ts) (eqb x v) (λ e. rw (eqb-true x v e) o))

-- ---- 01: "It returns how many"

-- Accepted, the count is the list's length, and the buffer begins with the list.
pub counted : (s : Session) (buffer : List ℕ) → standing_refusal s buffer ≡ 0
    → ((standing_answer s buffer).count ≡ length (standing_values s))
    × (take (length (standing_values s)) (standing_buffer s buffer) ≡ standing_values s)
counted s buffer e = (rw e, rw (e, take-append_seam (standing_values s) (drop (length (standing_values s)) buffer)))

-- ---- 02: "by the first round in which it stands, lowest first"

-- The first round, from 1, whose register holds x; past the last where none does.
abbrev pub first_round : ℕ → (T : List ℕ) → ℕ
first_round x [] = 1
first_round x (v ∷ T) = cond (eqb x v) 1 (suc (first_round x T))

-- The second of two tests that fail.
fails : (a b : Bool) → (a || b) ≡ false → b ≡ false
fails true b h = let z : true ≡ false = h in cc
fails false b h = h

-- It stays as it is with a register more, and is that register's for a value that is new there.
first_kept : (x v : ℕ) (ts : List ℕ) → first_round x ts ≤ length ts → first_round x (ts ++ v ∷ []) ≡ first_round x ts
first_kept x v [] = λ h. absurd (not-suc-le-zero h)
first_kept x v (y ∷ ts) =
    both_conds (λ m n. n ≤ suc (length ts) → m ≡ n) (eqb x y) (λ h. refl) (λ h. ap suc (first_kept x v ts (omega arith)))

first_new : (v : ℕ) (ts : List ℕ) → holds v ts ≡ false → first_round v (ts ++ v ∷ []) ≡ suc (length ts)
first_new v [] h = rw (eq-eqb v v refl)
first_new v (y ∷ ts) h =
    cond_cases (λ m. m ≡ suc (suc (length ts))) (eqb v y)
    (λ t. let z : true ≡ false = rw t at h in cc)
    (λ t. ap suc (first_new v ts (fails (eqb v y) (holds v ts) h)))

-- The first rounds of listed values are rounds of the board, and ascend.
record Ascends (ts l : List ℕ) : Type 0 where
  low : (i : ℕ) → i < length l → first_round (get_or l i 0) ts ≤ length ts
  ascend : (i j : ℕ) → i < j → j < length l → first_round (get_or l i 0) ts < first_round (get_or l j 0) ts

module _ (ts l : List ℕ) (v : ℕ) (a : Ascends ts l) where
  -- A listed value keeps its first round.
  kept : (i : ℕ) → i < length l → first_round (get_or l i 0) (ts ++ v ∷ []) ≡ first_round (get_or l i 0) ts
  kept i h = first_kept (get_or l i 0) v ts (a.low i h)

  ascends_same : old v ts ≡ true → Ascends (ts ++ v ∷ []) l
  ascends_same o =
      record {
        low = λ i h. rw (kept i h, length-append) (omega (arith, a.low i h));
        ascend = λ i j h k. rw (kept i (omega arith), kept j k) (a.ascend i j h k);
      }

  -- Of the longer list: a place before the last, and the last.
  before : (i : ℕ) → i < length l → first_round (get_or (l ++ v ∷ []) i 0) (ts ++ v ∷ []) ≡ first_round (get_or l i 0) ts
  before i h = rw (get_or-append l (v ∷ []) 0 i h) (kept i h)

  last : old v ts ≡ false → (i : ℕ) → i ≡ length l → first_round (get_or (l ++ v ∷ []) i 0) (ts ++ v ∷ []) ≡ suc (length ts)
  last o i e = rw (e, get_or-append_seam l v [] 0) (first_new v ts (fails (eqb v 0) (holds v ts) o))

  -- Which of the two a place is.
  place : (i : ℕ) → i < length (l ++ v ∷ []) → (i ≡ length l) ⊎ (i < length l)
  place i h = eq-or-lt_of_le (omega (arith, simp length-append at h))

  ascends_more : old v ts ≡ false → Ascends (ts ++ v ∷ []) (l ++ v ∷ [])
  ascends_more o =
      record {
        low =
            λ i h.
            ⊎_elim (λ e. rw (last o i e, length-append) (omega arith))
            (λ k. rw (before i k, length-append) (omega (arith, a.low i k)))
            (place i h);
        ascend =
            λ i j h k.
            ⊎_elim (λ e. rw (before i (omega arith), last o j e) (omega (arith, a.low i (omega arith))))
            (λ m. rw (before i (omega arith), before j m) (a.ascend i j h m))
            (place j k);
      }

ascends : (T : List ℕ) (r : ℕ) → r ≤ length T → Ascends (take r T) (values_to T r)
ascends =
    by_rounds Ascends (record { low = λ i h. absurd (not-suc-le-zero h); ascend = λ i j h k. absurd (not-suc-le-zero k) })
    (λ ts l v o a. ascends_same ts l v a o)
    (λ ts l v o a. ascends_more ts l v a o)

-- The first round of the value at place i of the list.
abbrev pub round_at : (T : List ℕ) (r i : ℕ) → ℕ
round_at T r i = first_round (get_or (values_to T r) i 0) (take r T)

-- Of two places in the list one comes before the other exactly if the first round of its value is lower.
pub by_first_round : (T : List ℕ) (r i j : ℕ) → r ≤ length T → i < length (values_to T r) → j < length (values_to T r)
    → ltb i j ≡ ltb (round_at T r i) (round_at T r j)
by_first_round T r i j h p q = cases (ltb i j) refl
  where
    cases : (t : Bool) → ltb i j ≡ t → t ≡ ltb (round_at T r i) (round_at T r j)
    cases true e = sym (lt-ltb _ _ ((ascends T r h).ascend i j (ltb-true i j e) q))
    cases false e =
        let low : round_at T r j ≤ round_at T r i
        = ⊎_elim (λ s. rw s (omega arith)) (λ s. omega (arith, (ascends T r h).ascend j i s p)) (eq-or-lt_of_le (ltb-false i j e)) in
        sym (le-ltb (round_at T r i) (round_at T r j) low)
