-- The numbers of the two calls, and what each gives.
use Rattle.std.specs.Prelude.{◌*◌, ◌≤◌, ◌<◌, ◌≡◌, ◌∷◌, ◌++◌, ◌&&◌}
use Rattle.base.specs.Prelude.{ℕ, suc, zero, refl, sym, List, [], length, arith}
use Rattle.base.specs.Prelude.{true, not, leb, eqb}
use Rattle.base.specs.Prelude.{le-leb, lt-leb, leb-true, lt-ltb, le-ltb, ltb-false, ne_eqb, eq-eqb, eqb-true}
use Rattle.base.specs.Prelude.{not-false, inl, inr}
use Rattle.base.specs.Bools.{and_left, and_right}
use Rattle.model.specs.Refusal.{Test, refusal}
use Rattle.model.specs.declared.refusal.Refusal.{Refusal}
use Rattle.model.specs.Numbers.{bad_process_count, bad_cuts, bad_buffer, illegal_list, last_list, number}
use Rattle.model_laws.specs.Answers.{number_some}
use Rattle.model_laws.specs.Accepted.{Without, none_holds, refusal_append}
use Rattle.model_short.specs.declared.RawEntry.{RawEntry}
use Rattle.model_short.specs.Short.{legal, legal_lists, following}
use Rattle.model_short.specs.Calls.{given_list, first_tests, given_tests, next_tests, none, listed, list_result}
use Rattle.model_short_laws.specs.Order.{OneOrTwo}

-- ---- the tests of both calls

module _ (n m : ℕ) (b : List ℕ) where
  pub tests_few : (1 ≤ n → ⊥) → bad_process_count ≡ refusal (first_tests n m b)
  tests_few h = rw (lt-leb 1 n (omega arith)) refl

  pub tests_many : 1 ≤ n → 2 < n → bad_process_count ≡ refusal (first_tests n m b)
  tests_many h k = rw (le-leb 1 n h, lt-leb n 2 k) refl

  module _ (one : 1 ≤ n) (two : n ≤ 2) where
    pub tests_long : 6 < m → bad_cuts ≡ refusal (first_tests n m b)
    tests_long h = rw (le-leb 1 n one, le-leb n 2 two, lt-ltb 6 m h) refl

    pub tests_buffer : m ≤ 6 → (length b ≡ 6 * m → ⊥) → bad_buffer ≡ refusal (first_tests n m b)
    tests_buffer h k = rw (le-leb 1 n one, le-leb n 2 two, le-ltb 6 m h, ne_eqb (length b) (6 * m) k) refl

    pub tests_none : m ≤ 6 → length b ≡ 6 * m → 0 ≡ refusal (first_tests n m b)
    tests_none h k = rw (le-leb 1 n one, le-leb n 2 two, le-ltb 6 m h, eq-eqb (length b) (6 * m) k) refl

-- What a call is given that these tests accept.
pub record CallFits (n m : ℕ) (b : List ℕ) : Type 0 where
  pub one : 1 ≤ n
  pub two : n ≤ 2
  pub short : m ≤ 6
  pub size : length b ≡ 6 * m

pub call_fits : (n m : ℕ) (b : List ℕ) → refusal (first_tests n m b) ≡ 0 → CallFits n m b
call_fits n m b h =
    let a = none_holds (first_tests n m b) (omega arith) h in
    let seats = not-false (leb 1 n && leb n 2) a.0 in
    record {
      one = leb-true 1 n (and_left (leb 1 n) (leb n 2) seats);
      two = leb-true n 2 (and_right (leb 1 n) (leb n 2) seats);
      short = ltb-false 6 m a.1.0;
      size = eqb-true (length b) (6 * m) (not-false (eqb (length b) (6 * m)) a.1.1.0);
    }

pub one_or_two : (n : ℕ) → 1 ≤ n → n ≤ 2 → OneOrTwo n
one_or_two zero p q = absurd (omega arith)
one_or_two (suc zero) p q = inl refl
one_or_two (suc (suc zero)) p q = inr refl
one_or_two (suc (suc (suc k))) p q = absurd (omega arith)

-- ---- tests behind these

-- A refusal by the first tests is one by all; where these accept, the others decide.
module _ (ts us : List Test) (ok : Without 0 ts) where
  pub first_refused : {k : ℕ} → k ≡ refusal ts → (k ≡ 0 → ⊥) → k ≡ refusal (ts ++ us)
  first_refused {k} e some = sym (rw (refusal_append ts us ok, ← e, ne_eqb k 0 some) refl)

  pub first_accepted : refusal ts ≡ 0 → refusal (ts ++ us) ≡ refusal us
  first_accepted e = rw (refusal_append ts us ok, e) refl

module _ (n m : ℕ) (b : List ℕ) where
  abbrev pub legal_test : List Test
  legal_test = (not (legal n (given_list m b)), illegal_list) ∷ []

  abbrev pub last_test : List Test
  last_test = (none (following (given_list m b) (legal_lists n m)), last_list) ∷ []

  pub given_refused : {k : ℕ} → k ≡ refusal (first_tests n m b) → (k ≡ 0 → ⊥) → k ≡ refusal (given_tests n m b)
  given_refused = first_refused (first_tests n m b) legal_test (omega arith)

  pub given_legal : refusal (first_tests n m b) ≡ 0 → refusal (given_tests n m b) ≡ refusal legal_test
  given_legal = first_accepted (first_tests n m b) legal_test (omega arith)

  pub next_refused : {k : ℕ} → k ≡ refusal (given_tests n m b) → (k ≡ 0 → ⊥) → k ≡ refusal (next_tests n m b)
  next_refused = first_refused (given_tests n m b) last_test (omega arith)

  pub next_last : refusal (given_tests n m b) ≡ 0 → refusal (next_tests n m b) ≡ refusal last_test
  next_last = first_accepted (given_tests n m b) last_test (omega arith)

  -- Where none of the first four numbers is returned, the first tests accept and the list is legal.
  pub given_accepted : refusal (given_tests n m b) ≡ 0 → (refusal (first_tests n m b) ≡ 0) × (legal n (given_list m b) ≡ true)
  given_accepted e =
      let a = none_holds (given_tests n m b) (omega arith) e in
      (rw (a.0, a.1.0, a.1.1.0) refl, not-false (legal n (given_list m b)) a.1.1.1.0)

-- ---- a call that is refused leaves the buffer

pub result_refused : (k : ℕ) → (k ≡ 0 → ⊥) → (l : List RawEntry) (b : List ℕ) → listed k b ≡ list_result k l b
result_refused zero some l b = absurd (some refl)
result_refused (suc k) some l b = refl

-- The same of a refusal with the tests' number.
pub refused_result : (e : Refusal) {k : ℕ} (l : List RawEntry) (b : List ℕ) → number e ≡ k → listed (number e) b ≡ list_result k l b
refused_result e l b told = rw (← told) (result_refused (number e) (number_some e) l b)

pub result_code : (k : ℕ) (l : List RawEntry) (b : List ℕ) → (list_result k l b).code ≡ k
result_code zero l b = refl
result_code (suc k) l b = refl
