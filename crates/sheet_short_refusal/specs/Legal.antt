-- Whether the entries in a buffer are legal, one entry after the other.
use Rattle.std.specs.Prelude.{◌+◌, ◌*◌, ◌-◌, ◌≤◌, ◌<◌, ◌≡◌}
use Rattle.base.specs.Prelude.{ℕ, refl, sym, ◌∙◌, List, length, arith}
use Rattle.base.specs.Prelude.{true, false, ne_eqb, eq-eqb, lt-ltb, le-ltb}
use Rattle.model.specs.declared.Session.{Session}
use Rattle.model.specs.declared.Counts.{Counts}
use Rattle.model.specs.Answers.{Stepped}
use Rattle.model_short.specs.declared.RawEntry.{RawEntry}
use Rattle.model.specs.Window.{window}
use Rattle.model.specs.Board.{opened, no_counts}
use Rattle.model.specs.Refusal.{refusal}
use Rattle.model.specs.Numbers.{illegal_list}
use Rattle.model_short.specs.Short.{choices, among, legal}
use Rattle.model_short.specs.Calls.{raw_at, raws_at, given_list, first_tests, given_tests}
use Rattle.model_short_laws.specs.Entries.{index_in, among_index}
use Rattle.model_short_laws.specs.Choosing.{raw_answer, legal_from, legal_from_law}
use Rattle.model_short_laws.specs.Bytes.{raws_at_zero, raws_at_more}
use Rattle.model_short_laws.specs.Numbers.{given_legal}
use Rattle.model_short_laws.specs.Numbered.{length_choices}
use Rattle.sheet_short_refusal.specs.declared.search.Search.{Search}
use Rattle.sheet_short_refusal.specs.Searches.{Begun, Behind}

module _ (n : ℕ) (b : List ℕ) (i left : ℕ) (s : Session) (c : Counts) where
  pub legal_end : left ≡ 0 → true ≡ legal_from n s c (raws_at b i left)
  unfolding legal_from
  legal_end h = rw (raws_at_zero b i left h) refl

  module _ (more : 1 ≤ left) (x : RawEntry) (here : x ≡ raw_at b i) (k : ℕ) (place : k ≡ index_in x (choices n)) where
    k_is : k ≡ index_in (raw_at b i) (choices n)
    k_is = rw here at place

    pub legal_no_choice : 5 * n ≤ k → false ≡ legal_from n s c (raws_at b i left)
    unfolding legal_from
    legal_no_choice h =
        let t : among (choices n) (raw_at b i) ≡ false
        = among_index (choices n) (raw_at b i)
        ∙ le-ltb (index_in (raw_at b i) (choices n)) (length (choices n)) (omega (arith, k_is, length_choices n)) in
        rw (raws_at_more b i left more, t) refl

    module _ (low : k < 5 * n) (a : Stepped) (done : a ≡ raw_answer n s c x) where
      among_here : among (choices n) (raw_at b i) ≡ true
      among_here =
          among_index (choices n) (raw_at b i)
          ∙ lt-ltb (index_in (raw_at b i) (choices n)) (length (choices n)) (omega (arith, k_is, length_choices n))

      done_here : a ≡ raw_answer n s c (raw_at b i)
      done_here = rw here at done

      pub legal_refused : (a.code ≡ 0 → ⊥) → false ≡ legal_from n s c (raws_at b i left)
      unfolding legal_from
      legal_refused h = rw (raws_at_more b i left more, among_here, ← done_here, ne_eqb a.code 0 h) refl

      pub legal_goes_on : a.code ≡ 0
          → legal_from n a.session a.counts (raws_at b (i + 6) (left - 1)) ≡ legal_from n s c (raws_at b i left)
      unfolding legal_from
      legal_goes_on h = rw (raws_at_more b i left more, among_here, ← done_here, eq-eqb a.code 0 h) refl

-- ---- the same of a search

module _ (s : Search) (b : List ℕ) (more : 1 ≤ s.left) (x : RawEntry) (here : x ≡ raw_at b s.at) (k : ℕ)
    (place : k ≡ index_in x (choices s.n)) (low : k < 5 * s.n) where
  pub search_ends : ((raw_answer s.n s.session s.counts x).code ≡ 0 → ⊥)
      → false ≡ legal_from s.n s.session s.counts (raws_at b s.at s.left)
  search_ends h = legal_refused s.n b s.at s.left s.session s.counts more x here k place low _ refl h

  pub search_goes_on : (t : Search) → Behind s x t
      → legal_from t.n t.session t.counts (raws_at b t.at t.left) ≡ legal_from s.n s.session s.counts (raws_at b s.at s.left)
  search_goes_on t g =
      let fewer : t.left ≡ s.left - 1 = omega (arith, g.left) in
      rw (g.processes, g.at, fewer) (legal_goes_on s.n b s.at s.left s.session s.counts more x here k place low _ g.accepted refl)

-- ---- the number of the given list, from a fresh session

module _ (n m : ℕ) (b : List ℕ) (ok : refusal (first_tests n m b) ≡ 0) (s : Session) (fresh : s ≡ opened n (window n)) where
  pub given_yes : true ≡ legal_from n s no_counts (given_list m b) → 0 ≡ refusal (given_tests n m b)
  given_yes h =
      let yes : legal n (given_list m b) ≡ true = legal_from_law n (given_list m b) ∙ sym (rw fresh at h) in
      sym (given_legal n m b ok ∙ rw yes refl)

  pub given_no : false ≡ legal_from n s no_counts (given_list m b) → illegal_list ≡ refusal (given_tests n m b)
  given_no h =
      let no : legal n (given_list m b) ≡ false = legal_from_law n (given_list m b) ∙ sym (rw fresh at h) in
      sym (given_legal n m b ok ∙ rw no refl)

-- The same of a search that begins there.
module _ (n m : ℕ) (b : List ℕ) (ok : refusal (first_tests n m b) ≡ 0) (t : Search) (g : Begun n m t) where
  given_from : legal_from t.n t.session t.counts (raws_at b t.at t.left) ≡ legal_from n t.session no_counts (given_list m b)
  given_from = rw (g.processes, g.counts, g.at, g.left) refl

  pub begun_yes : true ≡ legal_from t.n t.session t.counts (raws_at b t.at t.left) → 0 ≡ refusal (given_tests n m b)
  begun_yes h = given_yes n m b ok t.session g.session (h ∙ given_from)

  pub begun_no : false ≡ legal_from t.n t.session t.counts (raws_at b t.at t.left) → illegal_list ≡ refusal (given_tests n m b)
  begun_no h = given_no n m b ok t.session g.session (h ∙ given_from)
