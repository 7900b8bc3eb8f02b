-- Document 02, wish 12: "Going on from the first gives each legal list once and nothing else." The claim is `ShortClaim`.
use Rattle.std.specs.Prelude.{◌≤◌, ◌<◌, ◌≡◌, ◌∷◌}
use Rattle.base.specs.Prelude.{ℕ, suc, zero, refl, sym, ap, ◌∙◌, List, [], length, drop, get_or, arith}
use Rattle.base.specs.Prelude.{true, false, eqb, eqb-true}
use Rattle.base.specs.Bools.{and_left, and_right}
use Rattle.model.specs.Refusal.{refusal}
use Rattle.model.specs.Numbers.{last_list}
use Rattle.model_short.specs.declared.RawEntry.{RawEntry}
use Rattle.model_short.specs.Short.{legal, legal_lists, following}
use Rattle.model_short.specs.Calls.{none, head_of, list_bytes, given_list, first_tests, given_tests, listed, first_result, next_result}
use Rattle.model_short.specs.Claim.{ShortClaim, ShortCounts, going_on, how_many, place}
use Rattle.model_short_laws.specs.Choosing.{Lists}
use Rattle.model_short_laws.specs.Members.{listed_legal, place_listed}
use Rattle.model_short_laws.specs.Order.{OneOrTwo, legal_ascending, following_place}
use Rattle.model_short_laws.specs.Counts.{counts_one, counts_two}
use Rattle.model_short_laws.specs.Bytes.{length_list_bytes, given_written}
use Rattle.model_short_laws.specs.Numbers.{call_fits, one_or_two, tests_none, given_legal, next_last, result_code}

-- ---- what stands behind a place

head_of_drop : (ls : Lists) (k : ℕ) → head_of (drop k ls) ≡ get_or ls k []
head_of_drop [] zero = refl
head_of_drop [] (suc k) = refl
head_of_drop (l ∷ ls) zero = refl
head_of_drop (l ∷ ls) (suc k) = head_of_drop ls k

some_behind : (ls : Lists) (k : ℕ) → k < length ls → none (drop k ls) ≡ false
some_behind [] k h = absurd (omega arith)
some_behind (l ∷ ls) zero h = refl
some_behind (l ∷ ls) (suc k) h = some_behind ls k (omega arith)

none_behind : (ls : Lists) (k : ℕ) → length ls ≤ k → none (drop k ls) ≡ true
none_behind [] zero h = refl
none_behind [] (suc k) h = refl
none_behind (l ∷ ls) zero h = absurd (omega arith)
none_behind (l ∷ ls) (suc k) h = none_behind ls k (omega arith)

-- ---- the calls

module _ (n m : ℕ) (seats : OneOrTwo n) (one : 1 ≤ n) (two : n ≤ 2) (short : m ≤ 6) where
  -- The list at a place has m entries and is legal.
  module _ (k : ℕ) (here : k < how_many n m) where
    known : (eqb (length (place n m k)) m ≡ true) × (legal n (place n m k) ≡ true)
    known =
        let q = sym (listed_legal n m (place n m k)) ∙ place_listed (legal_lists n m) k here in
        (and_left (eqb (length (place n m k)) m) _ q, and_right (eqb (length (place n m k)) m) _ q)

    size : length (place n m k) ≡ m
    size = eqb-true (length (place n m k)) m known.0

    -- What the call for the next finds in its bytes.
    stands : given_list m (list_bytes (place n m k)) ≡ place n m k
    stands = rw size at (given_written n seats (place n m k) known.1)

    fitting : refusal (first_tests n m (list_bytes (place n m k))) ≡ 0
    fitting =
        sym (tests_none n m (list_bytes (place n m k)) one two short (omega (arith, length_list_bytes (place n m k), size)))

    legal_here : refusal (given_tests n m (list_bytes (place n m k))) ≡ 0
    legal_here = given_legal n m (list_bytes (place n m k)) fitting ∙ rw (stands, known.1) refl

    behind : following (place n m k) (legal_lists n m) ≡ drop (suc k) (legal_lists n m)
    behind = following_place (legal_lists n m) (legal_ascending n seats m) k here

    next_more : suc k < how_many n m → next_result n m (list_bytes (place n m k)) ≡ listed 0 (list_bytes (place n m (suc k)))
    unfolding next_result
    next_more more =
        rw (next_last n m (list_bytes (place n m k)) legal_here, stands, behind, some_behind (legal_lists n m) (suc k) more)
        (ap (λ (l : List RawEntry). listed 0 (list_bytes l)) (head_of_drop (legal_lists n m) (suc k)))

    then_last : how_many n m ≤ suc k → next_result n m (list_bytes (place n m k)) ≡ listed last_list (list_bytes (place n m k))
    unfolding next_result
    then_last last =
        rw (next_last n m (list_bytes (place n m k)) legal_here, stands, behind, none_behind (legal_lists n m) (suc k) last) refl

  module _ (b : List ℕ) (ok : refusal (first_tests n m b) ≡ 0) where
    each_place : (k : ℕ) → k < how_many n m → going_on n m b k ≡ listed 0 (list_bytes (place n m k))
    unfolding going_on first_result
    each_place zero here = rw ok (ap (λ (l : List RawEntry). listed 0 (list_bytes l)) (head_of_drop (legal_lists n m) 0))
    each_place (suc k) here = rw (each_place k (omega arith)) (next_more k (omega arith) here)

    then_none : (k : ℕ) → suc k ≡ how_many n m → going_on n m b (suc k) ≡ listed last_list (list_bytes (place n m k))
    unfolding going_on
    then_none k last = rw (each_place k (omega arith)) (then_last k (omega arith) (omega arith))

-- ---- the claim

pub short_rule : ShortClaim
unfolding first_result
short_rule n m b accepted =
    let ok : refusal (first_tests n m b) ≡ 0 = sym (result_code (refusal (first_tests n m b)) (head_of (legal_lists n m)) b) ∙ accepted in
    let f = call_fits n m b ok in
    let seats = one_or_two n f.one f.two in
    record {
      exactly = listed_legal n m;
      in_order = legal_ascending n seats m;
      each_place = each_place n m seats f.one f.two f.short b ok;
      then_none = then_none n m seats f.one f.two f.short b ok;
    }

-- The 14 counts.
pub short_counts : ShortCounts
short_counts = (counts_one, counts_two)
