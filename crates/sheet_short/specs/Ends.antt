-- What the two calls answer and leave, from what the cycle does.
use Rattle.std.specs.Prelude.{◌+◌, ◌≡◌, ◌∷◌}
use Rattle.base.specs.Prelude.{ℕ, refl, sym, ap, ◌∙◌, List, [], append-nil, length, drop_of_length-le, sets, sets-eq, arith}
use Rattle.base.specs.Prelude.{Bool, true, false, not, eqb, eqb-true, true≢false}
use Rattle.base.specs.Bools.{and_left}
use Rattle.model.specs.Window.{window}
use Rattle.model.specs.Board.{opened, no_counts}
use Rattle.model.specs.Refusal.{refusal}
use Rattle.model.specs.Numbers.{last_list}
use Rattle.model_short.specs.declared.RawEntry.{RawEntry}
use Rattle.model_short.specs.Short.{legal_lists, following, is_listed}
use Rattle.model_short.specs.Calls.{none, head_of, list_bytes, given_list, first_tests, given_tests, next_tests}
use Rattle.model_short.specs.Calls.{listed, list_result, first_result, next_result}
use Rattle.model_short_laws.specs.Choosing.{Lists, legal_lists_law, later_from}
use Rattle.model_short_laws.specs.Members.{listed_legal, place_listed}
use Rattle.model_short_laws.specs.Order.{OneOrTwo, following_later, following_listed}
use Rattle.model_short_laws.specs.Counts.{some_legal}
use Rattle.model_short_laws.specs.Bytes.{length_raws_at, length_list_bytes}
use Rattle.model_short_laws.specs.Numbers.{CallFits, call_fits, one_or_two, given_accepted, next_refused, next_last, result_refused}
use Rattle.sheet_short.specs.Cycle.{Chosen, rest_lists, stored}

-- A list of bytes as long as the buffer, stored from its start on.
sets_all : (b vs : List ℕ) → length vs ≡ length b → sets b 0 vs ≡ vs
sets_all b vs h =
    sets-eq vs b 0 (omega arith) ∙ rw (drop_of_length-le b {i = 0 + length vs} (omega arith)) (append-nil vs)

-- ---- a call that is refused before it searches

pub next_refuses : (n m : ℕ) (b : List ℕ) {k : ℕ} → k ≡ refusal (given_tests n m b) → (k ≡ 0 → ⊥) → listed k b ≡ next_result n m b
unfolding next_result
next_refuses n m b {k} e some =
    rw (← next_refused n m b e some) (result_refused k some (head_of (following (given_list m b) (legal_lists n m))) b)

-- ---- a call that the first tests accept

module _ (n m : ℕ) (b : List ℕ) (ok : refusal (first_tests n m b) ≡ 0) where
  f : CallFits n m b
  f = call_fits n m b ok

  seats : OneOrTwo n
  seats = one_or_two n f.one f.two

  -- The bytes of a listed list, stored in the whole buffer.
  whole : (l : List RawEntry) → is_listed l (legal_lists n m) ≡ true → sets b 0 (list_bytes l) ≡ list_bytes l
  whole l h =
      let len : length l ≡ m = eqb-true (length l) m (and_left (eqb (length l) m) _ (sym (listed_legal n m l) ∙ h)) in
      sets_all b (list_bytes l) (omega (arith, length_list_bytes l, f.size))

  pub first_done : (g : List RawEntry) (b' : List ℕ) (r : Bool) → Chosen (rest_lists n m false g (opened n (window n)) no_counts) b b' 0 r
      → listed 0 b' ≡ first_result n m b
  unfolding rest_lists first_result stored
  first_done g b' r k =
      rw ok (ap (listed 0) (go (legal_lists n m) refl (some_legal n seats m f.short) (rw (← legal_lists_law n m) at k.bytes)))
    where
      go : (ls : Lists) → legal_lists n m ≡ ls → none ls ≡ false → b' ≡ stored ls b 0 → b' ≡ list_bytes (head_of ls)
      go [] q e w = absurd (true≢false e)
      go (l ∷ ls) q e w = w ∙ whole l (rw q (place_listed (l ∷ ls) 0 (omega arith)))

  module _ (given_ok : refusal (given_tests n m b) ≡ 0) where
    later_is : later_from n (opened n (window n)) no_counts (given_list m b) ≡ following (given_list m b) (legal_lists n m)
    later_is = sym (rw (length_raws_at b 0 m) at (following_later n seats (given_list m b) (given_accepted n m b given_ok).1))

    module _ (b' : List ℕ) where
      pub next_none : Chosen (rest_lists n m true (given_list m b) (opened n (window n)) no_counts) b b' 0 false
          → listed last_list b' ≡ next_result n m b
      unfolding rest_lists stored next_result
      next_none k =
          go (following (given_list m b) (legal_lists n m)) refl (rw later_is at k.found) (rw later_is at k.bytes)
        where
          go : (ls : Lists) → following (given_list m b) (legal_lists n m) ≡ ls → false ≡ not (none ls) → b' ≡ stored ls b 0
              → listed last_list b' ≡ list_result (refusal (next_tests n m b)) (head_of (following (given_list m b) (legal_lists n m))) b
          go [] q e w = rw (next_last n m b given_ok, q) (ap (listed last_list) w)
          go (l ∷ ls) q e w = absurd (true≢false (sym e))

      pub next_found : Chosen (rest_lists n m true (given_list m b) (opened n (window n)) no_counts) b b' 0 true → listed 0 b' ≡ next_result n m b
      unfolding rest_lists stored next_result
      next_found k =
          go (following (given_list m b) (legal_lists n m)) refl (rw later_is at k.found) (rw later_is at k.bytes)
        where
          go : (ls : Lists) → following (given_list m b) (legal_lists n m) ≡ ls → true ≡ not (none ls) → b' ≡ stored ls b 0
              → listed 0 b' ≡ list_result (refusal (next_tests n m b)) (head_of (following (given_list m b) (legal_lists n m))) b
          go [] q e w = absurd (true≢false e)
          go (l ∷ ls) q e w =
              rw (next_last n m b given_ok, q)
              (ap (listed 0) (w ∙ whole l (following_listed (given_list m b) (legal_lists n m) l ls q)))
