-- The entries that a list may have, by their numbers from 0: what stands at each.
use Rattle.std.specs.Prelude.{◌+◌, ◌*◌, ◌-◌, ◌/◌, ◌%◌, ◌≤◌, ◌<◌, ◌≡◌, ◌∷◌, ◌++◌, ◌⊎◌}
use Rattle.std.proofs.Math.ListN.{get_or-append, get_or-eq_default}
use Rattle.std.proofs.Common.{get_or-append-add, drop-cons}
use Rattle.base.specs.Prelude.{ℕ, suc, zero, refl, ap, ◌∙◌, List, [], get_or, length}
use Rattle.base.specs.Prelude.{length-append, append_assoc, drop, drop_of_length-le, inl, inr, eq-or-lt_of_le, le_of_suc-le-suc, arith}
use Rattle.base.specs.Prelude.{true, false}
use Rattle.model_short.specs.declared.RawEntry.{RawEntry}
use Rattle.model_short.specs.Short.{entry, each, choices, same}
use Rattle.model_short_laws.specs.Entries.{index_in}

-- No entry.
abbrev pub blank : RawEntry
blank = entry 0 0 0

abbrev pub choice : (n e : ℕ) → RawEntry
choice n e = get_or (choices n) e blank

-- ---- parts of a list, where k is the first part's length

module _ (xs ys : List RawEntry) (k e : ℕ) (size : length xs ≡ k) where
  left_at : e < k → get_or (xs ++ ys) e blank ≡ get_or xs e blank
  left_at h = get_or-append xs ys blank e (omega arith)

  right_at : k ≤ e → get_or (xs ++ ys) e blank ≡ get_or ys (e - k) blank
  right_at h =
      let q : e ≡ length xs + (e - k) = omega arith in
      ap (λ (i : ℕ). get_or (xs ++ ys) i blank) q ∙ get_or-append-add xs ys (e - k) blank

-- ---- one entry of each process

module _ (f : ℕ → RawEntry) where
  abbrev one_each : ℕ → List RawEntry
  one_each n = each n (λ p. f p ∷ [])

  length_one_each : (n : ℕ) → length (one_each n) ≡ n
  length_one_each zero = refl
  length_one_each (suc k) = length-append (one_each k) (f k ∷ []) ∙ omega (arith, length_one_each k)

  one_each_at : (n e : ℕ) → e < n → get_or (one_each n) e blank ≡ f e
  one_each_at zero e h = absurd (omega arith)
  one_each_at (suc k) e h = go (eq-or-lt_of_le (le_of_suc-le-suc h)) (one_each_at k e)
    where
      go : (e ≡ k) ⊎ (e < k) → (e < k → get_or (one_each k) e blank ≡ f e) → get_or (one_each k ++ (f k ∷ [])) e blank ≡ f e
      go (inl q) below =
          let z : e - k ≡ 0 = omega arith in
          right_at (one_each k) (f k ∷ []) k e (length_one_each k) (omega arith) ∙ rw (z, q) refl
      go (inr l) below = left_at (one_each k) (f k ∷ []) k e (length_one_each k) l ∙ below l

-- ---- the two work step_entries of each process

abbrev step_entries : ℕ → List RawEntry
step_entries n = each n (λ p. entry 1 p 0 ∷ entry 1 p 1 ∷ [])

length_step_entries : (n : ℕ) → length (step_entries n) ≡ 2 * n
length_step_entries zero = refl
length_step_entries (suc k) = length-append (step_entries k) (entry 1 k 0 ∷ entry 1 k 1 ∷ []) ∙ omega (arith, length_step_entries k)

step_entries_at : (n e : ℕ) → e < 2 * n → get_or (step_entries n) e blank ≡ entry 1 (e / 2) (e % 2)
step_entries_at zero e h = absurd (omega arith)
step_entries_at (suc k) e h = let low : e / 2 ≤ k = omega arith in go (eq-or-lt_of_le low) (step_entries_at k e)
  where
    go : (e / 2 ≡ k) ⊎ (e / 2 < k) → (e < 2 * k → get_or (step_entries k) e blank ≡ entry 1 (e / 2) (e % 2))
        → get_or (step_entries k ++ (entry 1 k 0 ∷ entry 1 k 1 ∷ [])) e blank ≡ entry 1 (e / 2) (e % 2)
    go (inl q) below = right_at (step_entries k) (entry 1 k 0 ∷ entry 1 k 1 ∷ []) (2 * k) e (length_step_entries k) (omega arith) ∙ last (e % 2) refl
      where
        last : (j : ℕ) → e % 2 ≡ j → get_or (entry 1 k 0 ∷ entry 1 k 1 ∷ []) (e - 2 * k) blank ≡ entry 1 (e / 2) (e % 2)
        last zero r = let z : e - 2 * k ≡ 0 = omega arith in rw (z, q, r) refl
        last (suc zero) r = let z : e - 2 * k ≡ 1 = omega arith in rw (z, q, r) refl
        last (suc (suc j)) r = absurd (omega arith)
    go (inr l) below = left_at (step_entries k) (entry 1 k 0 ∷ entry 1 k 1 ∷ []) (2 * k) e (length_step_entries k) (omega arith) ∙ below (omega arith)

-- ---- all of them

abbrev propose_entries : ℕ → List RawEntry
propose_entries n = one_each (λ p. entry 0 p (p + 1)) n

abbrev learn_entries : ℕ → List RawEntry
learn_entries n = one_each (λ p. entry 2 p 0) n

abbrev crash_entries : ℕ → List RawEntry
crash_entries n = one_each (λ p. entry 3 p 0) n

module _ (n : ℕ) where
  length_behind : length (learn_entries n ++ crash_entries n) ≡ 2 * n
  length_behind = length-append (learn_entries n) (crash_entries n) ∙ omega (arith, length_one_each (λ p. entry 2 p 0) n, length_one_each (λ p. entry 3 p 0) n)

  length_later : length (step_entries n ++ (learn_entries n ++ crash_entries n)) ≡ 4 * n
  length_later = length-append (step_entries n) (learn_entries n ++ crash_entries n) ∙ omega (arith, length_step_entries n, length_behind)

  parts : choices n ≡ propose_entries n ++ (step_entries n ++ (learn_entries n ++ crash_entries n))
  unfolding choices
  parts = simp append_assoc

  pub length_choices : length (choices n) ≡ 5 * n
  length_choices =
      ap length parts
      ∙ length-append (propose_entries n) (step_entries n ++ (learn_entries n ++ crash_entries n))
      ∙ omega (arith, length_one_each (λ p. entry 0 p (p + 1)) n, length_later)

  module _ (e : ℕ) where
    parts_at : choice n e ≡ get_or (propose_entries n ++ (step_entries n ++ (learn_entries n ++ crash_entries n))) e blank
    parts_at = ap (λ (l : List RawEntry). get_or l e blank) parts

    pub choice_propose : e < n → choice n e ≡ entry 0 e (e + 1)
    choice_propose h =
        parts_at
        ∙ left_at (propose_entries n) (step_entries n ++ (learn_entries n ++ crash_entries n)) n e (length_one_each (λ p. entry 0 p (p + 1)) n) h
        ∙ one_each_at (λ p. entry 0 p (p + 1)) n e h

    later_at : n ≤ e → choice n e ≡ get_or (step_entries n ++ (learn_entries n ++ crash_entries n)) (e - n) blank
    later_at h =
        parts_at
        ∙ right_at (propose_entries n) (step_entries n ++ (learn_entries n ++ crash_entries n)) n e (length_one_each (λ p. entry 0 p (p + 1)) n) h

    pub choice_step : n ≤ e → e < 3 * n → choice n e ≡ entry 1 ((e - n) / 2) ((e - n) % 2)
    choice_step h k =
        later_at h
        ∙ left_at (step_entries n) (learn_entries n ++ crash_entries n) (2 * n) (e - n) (length_step_entries n) (omega arith)
        ∙ step_entries_at n (e - n) (omega arith)

    behind_at : 3 * n ≤ e → choice n e ≡ get_or (learn_entries n ++ crash_entries n) (e - 3 * n) blank
    behind_at h =
        let z : e - n - 2 * n ≡ e - 3 * n = omega arith in
        later_at (omega arith)
        ∙ right_at (step_entries n) (learn_entries n ++ crash_entries n) (2 * n) (e - n) (length_step_entries n) (omega arith)
        ∙ ap (λ (i : ℕ). get_or (learn_entries n ++ crash_entries n) i blank) z

    pub choice_learn : 3 * n ≤ e → e < 4 * n → choice n e ≡ entry 2 (e - 3 * n) 0
    choice_learn h k =
        behind_at h
        ∙ left_at (learn_entries n) (crash_entries n) n (e - 3 * n) (length_one_each (λ p. entry 2 p 0) n) (omega arith)
        ∙ one_each_at (λ p. entry 2 p 0) n (e - 3 * n) (omega arith)

    pub choice_crash : 4 * n ≤ e → e < 5 * n → choice n e ≡ entry 3 (e - 4 * n) 0
    choice_crash h k =
        let z : e - 3 * n - n ≡ e - 4 * n = omega arith in
        behind_at (omega arith)
        ∙ right_at (learn_entries n) (crash_entries n) n (e - 3 * n) (length_one_each (λ p. entry 2 p 0) n) (omega arith)
        ∙ ap (λ (i : ℕ). get_or (crash_entries n) i blank) z
        ∙ one_each_at (λ p. entry 3 p 0) n (e - 4 * n) (omega arith)

    pub choice_none : 5 * n ≤ e → choice n e ≡ blank
    choice_none h = get_or-eq_default (choices n) blank {n = e} (omega (arith, length_choices))

    -- ---- from number e on

    pub choices_from : e < 5 * n → drop e (choices n) ≡ choice n e ∷ drop (suc e) (choices n)
    choices_from h = drop-cons (choices n) e blank (omega (arith, length_choices))

    pub choices_end : 5 * n ≤ e → drop e (choices n) ≡ []
    choices_end h = drop_of_length-le (choices n) {i = e} (omega (arith, length_choices))

    module _ (x : RawEntry) where
      pub index_end : 5 * n ≤ e → index_in x (drop e (choices n)) ≡ 0
      unfolding index_in
      index_end h = rw (choices_end h) refl

      pub index_here : e < 5 * n → same x (choice n e) ≡ true → index_in x (drop e (choices n)) ≡ 0
      unfolding index_in
      index_here h q = rw (choices_from h, q) refl

      pub index_next : e < 5 * n → same x (choice n e) ≡ false → index_in x (drop e (choices n)) ≡ suc (index_in x (drop (suc e) (choices n)))
      unfolding index_in
      index_next h q = rw (choices_from h, q) refl
