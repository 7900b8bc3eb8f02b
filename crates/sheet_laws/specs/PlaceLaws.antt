-- Document 01, "Turn sheets": the reader hands out the sheet's entries, each once and in their order.
use Rattle.std.specs.Prelude.{◌+◌, ◌-◌, ◌*◌, ◌/◌, ◌%◌, ◌≤◌, ◌≡◌, ◌∷◌, Some, None}
use Rattle.base.specs.Prelude.{ℕ, suc, zero, add-one, suc-sub-suc, sub-zero, arith, refl, sym}
use Rattle.base.specs.Prelude.{subst, ◌∙◌, true, false, true≢false, List, [], leb, leb-true, leb-false}
use Rattle.base.specs.Bools.{cond_cases}
use Rattle.model.specs.declared.Entry.{Entry}
use Rattle.model.specs.Sheet.{run_at, run_count, runs_from, entry_at, entries_of, entries}
use Rattle.sheet_layout.specs.Runs.{runs_none}
use Rattle.sheet_laws.specs.Places.{Position, encode, decode, Within, has_entry, between, open_from, settled}
use Rattle.sheet_laws.specs.Places.{passed, rest_from, begin, handed, advanced, rest, before, Inside, Proper}

-- ---- a place is a position

-- What is made one number is read off it again.
pub decode_encode : (q : Position) → Within q → decode (encode q) ≡ q
decode_encode q h =
    let r : encode q / 1073741824 ≡ q.run = omega arith in
    let a : encode q % 65536 ≡ q.at = omega arith in
    let m : encode q / 65536 ≡ q.left + 16384 * q.run = omega arith in
    let l : encode q / 65536 % 16384 ≡ q.left = rw m (omega arith) in
    rw (r, a, l)

-- ---- the entries from a position on

-- Where no entry is left in a run, the runs still to be opened are the rest.
none_left : (s : List ℕ) (q : Position) → has_entry q ≡ false
    → rest_from s q ≡ entries_of s (runs_from s q.run (run_count s - q.run))
unfolding rest_from
none_left s q h =
    let e : q.left ≡ 0 = omega (arith, leb-false) in
    rw e

-- Where one is left, it is the first of the rest.
first_left : (s : List ℕ) (q : Position) → has_entry q ≡ true → rest_from s q ≡ entry_at s q.at ∷ rest_from s (passed q)
unfolding rest_from
first_left s q h =
    let e : q.left ≡ suc (q.left - 1) = omega (arith, leb-true) in
    rw (h, e, suc-sub-suc, sub-zero)

-- Runs without an entry are skipped, and nothing is lost.
opened_rest : (s : List ℕ) (i k : ℕ) → run_count s - i ≡ k → rest_from s (open_from s i k) ≡ entries_of s (runs_from s i k)
unfolding open_from rest_from
opened_rest s i zero h = rw h
opened_rest s i (suc k) h =
    let x = run_at s i in
    let b : run_count s - (i + 1) ≡ k = omega arith in
    cond_cases (λ q. rest_from s q ≡ entries_of s (runs_from s i (suc k))) (leb 6 x.size)
    (λ e. rw (b, add-one i))
    (λ e.
    let a : x.size / 6 ≡ 0 = omega (arith, leb-false) in
    rw (a, ← add-one i) (opened_rest s (i + 1) k b))

settled_rest : (s : List ℕ) (q : Position) → rest_from s (settled s q) ≡ rest_from s q
unfolding settled
settled_rest s q =
    cond_cases (λ r. rest_from s r ≡ rest_from s q) (has_entry q) (λ e. refl) (λ e. opened_rest s q.run _ refl ∙ sym (none_left s q e))

-- ---- where a position stands in the sheet

-- Within the bytes; and where no entry is left, no run is.
abbrev Stands : List ℕ → Position → Type 0
Stands s q = Within q × (has_entry q ≡ false → run_count s ≤ q.run)

opened_stands : {s : List ℕ} → Inside s → (i k : ℕ) → run_count s - i ≡ k → Stands s (open_from s i k)
unfolding open_from
opened_stands h i zero e = (omega arith, λ _. omega arith)
opened_stands {s} h i (suc k) e =
    cond_cases (Stands s) (leb 6 (run_at s i).size)
    (λ t. (omega (arith, h.ends i (omega arith)), λ f. omega (arith, leb-true, leb-false)))
    (λ t. opened_stands h (i + 1) k (omega arith))

-- Settling a position within the bytes gives such a one.
settled_stands : {s : List ℕ} → Inside s → (q : Position) → Within q → Stands s (settled s q)
unfolding settled
settled_stands {s} h q w =
    cond_cases (Stands s) (has_entry q) (λ e. (w, λ f. absurd (true≢false (sym e ∙ f)))) (λ e. opened_stands h q.run _ refl)

passed_within : (q : Position) → Within q → Within (passed q)
passed_within q w = cond_cases Within (has_entry q) (λ e. omega (arith, leb-true)) (λ e. w)

-- ---- places

-- A settled position as a place.
module _ {s : List ℕ} (h : Inside s) (q : Position) (w : Within q) where
  settled_place : decode (encode (settled s q)) ≡ settled s q
  settled_place = decode_encode (settled s q) (settled_stands h q w).0

  place_rest : rest s (encode (settled s q)) ≡ rest_from s q
  unfolding rest
  place_rest = rw settled_place (settled_rest s q)

  place_proper : Proper s (encode (settled s q))
  place_proper =
      let stands = subst (Stands s) (sym settled_place) (settled_stands h q w) in
      record { inside = h; within = stands.0; last = stands.1 }

-- From the first place on: all entries of the sheet.
module _ (s : List ℕ) (h : Inside s) where
  pub begin_rest : rest s (begin s) ≡ entries s
  unfolding begin entries rest_from
  begin_rest = place_rest h (between 0) (omega arith) ∙ rw sub-zero

  pub begin_proper : Proper s (begin s)
  unfolding begin
  begin_proper = place_proper h (between 0) (omega arith)

-- ---- what a place hands out, and what is left behind it

module _ (s : List ℕ) (p : ℕ) (h : Proper s p) where
  pub advanced_proper : Proper s (advanced s p)
  unfolding advanced
  advanced_proper = place_proper h.inside (passed (decode p)) (passed_within (decode p) h.within)

  -- Of the entries from a place on, the first is the one handed out and the others are those from the next place on;
  -- there is none exactly where none is handed out.
  pub rest_handed : rest s p ≡ before (handed s p) (rest s (advanced s p))
  unfolding handed advanced rest
  rest_handed =
      let q = decode p in
      rw (place_rest h.inside (passed q) (passed_within q h.within))
      (cond_cases (λ a. rest_from s q ≡ before a (rest_from s (passed q))) (has_entry q) (first_left s q)
      (λ e. none_left s q e ∙ rw (runs_none s q.run (run_count s) (h.last e))))

  -- The same by cases, for a loop that knows what was handed out.
  pub rest_next : {e : Entry} → handed s p ≡ Some e → rest s p ≡ e ∷ rest s (advanced s p)
  rest_next q = rest_handed ∙ rw q

  pub rest_end : handed s p ≡ None → rest s p ≡ []
  rest_end q = rest_handed ∙ rw q
