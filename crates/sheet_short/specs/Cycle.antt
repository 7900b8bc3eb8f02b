-- What the cycle computes: the lists that it chooses among, and what it writes of the first.
use Rattle.std.specs.Prelude.{◌+◌, ◌*◌, ◌-◌, ◌≤◌, ◌<◌, ◌≡◌, ◌∷◌, ◌++◌}
use Rattle.base.specs.Prelude.{ℕ, suc, zero, refl, sym, ◌∙◌, List, [], map, drop, sets, arith}
use Rattle.base.specs.Prelude.{Bool, true, false, not, eqb, ne_eqb, eq-eqb, true≢false, add-one}
use Rattle.model.specs.declared.Session.{Session}
use Rattle.model.specs.declared.Counts.{Counts}
use Rattle.model.specs.Answers.{Stepped}
use Rattle.model.specs.Window.{window}
use Rattle.model.specs.Board.{opened, no_counts}
use Rattle.model_short.specs.declared.RawEntry.{RawEntry}
use Rattle.model_short.specs.Short.{choices}
use Rattle.model_short.specs.Calls.{none, raw_bytes, list_bytes, raw_at, raws_at}
use Rattle.model_short_laws.specs.Entries.{index_in}
use Rattle.model_short_laws.specs.Choosing.{Lists, raw_answer, behind, by_entry, from_entry, lists_from, later_from}
use Rattle.model_short_laws.specs.Numbered.{choice, choices_from, choices_end}
use Rattle.sheet_short_refusal.specs.declared.search.Search.{Search}
use Rattle.sheet_short_refusal.specs.Searches.{Begun, Behind}
use Rattle.sheet_short.specs.Stored.{entry_first}
use Rattle.model_short_laws.specs.Bytes.{length_raws_at, raws_at_zero, raws_at_more}

-- The choice of the rest: all lists of the remaining length; where it is tight, those after the given one.
unfoldable pub rest_lists : (n left : ℕ) → (tight : Bool) → (given : List RawEntry) → Session → Counts → Lists
rest_lists n left true given s c = later_from n s c given
rest_lists n left false given s c = lists_from n left s c

-- The choice of an entry, from number e on, before a rest of the remaining length: where it is tight, entry e has the lists after the
-- given one.
unfoldable pub entry_lists : (n left e : ℕ) → (tight : Bool) → (given : List RawEntry) → Session → Counts → Lists
entry_lists n left e tight given s c = from_entry n (rest_lists n left tight given) (lists_from n left) s c (drop e (choices n))

-- The first of some lists, stored at an offset; where there is none, nothing is.
unfoldable pub stored : Lists → (buffer : List ℕ) → (offset : ℕ) → List ℕ
stored [] b i = b
stored (l ∷ ls) b i = sets b i (list_bytes l)

-- What the cycle answers and leaves.
pub record Chosen (lists : Lists) (before after : List ℕ) (offset : ℕ) (r : Bool) : Type 0 where
  pub found : r ≡ not (none lists)
  pub bytes : after ≡ stored lists before offset

lists_more : (n left : ℕ) (s : Session) (c : Counts) → 1 ≤ left → lists_from n left s c ≡ by_entry n (lists_from n (left - 1)) s c (choices n)
unfolding lists_from
lists_more n zero s c h = absurd (omega arith)
lists_more n (suc k) s c h = let e : suc k - 1 ≡ k = omega arith in rw e refl

-- ---- the choice of an entry

from_loose : (n : ℕ) (rest : Session → Counts → Lists) (s : Session) (c : Counts) (es : List RawEntry)
    → from_entry n rest rest s c es ≡ by_entry n rest s c es
unfolding from_entry by_entry
from_loose n rest s c [] = refl
from_loose n rest s c (e ∷ es) = refl

pub entry_loose : (n left e : ℕ) (given : List RawEntry) (s : Session) (c : Counts)
    → entry_lists n left e false given s c ≡ by_entry n (lists_from n left) s c (drop e (choices n))
unfolding entry_lists rest_lists
entry_loose n left e given s c = from_loose n (lists_from n left) s c (drop e (choices n))

module _ (n left e : ℕ) (tight : Bool) (given : List RawEntry) (s : Session) (c : Counts) (b : List ℕ) (i : ℕ) where
  pub entry_end : 5 * n ≤ e → Chosen (entry_lists n left e tight given s c) b b i false
  unfolding entry_lists from_entry stored
  entry_end h = rw (choices_end n e h) (record { found = refl; bytes = refl })

  module _ (low : e < 5 * n) (x : RawEntry) (here : x ≡ choice n e) (a : Stepped) (done : a ≡ raw_answer n s c x) where
    done_here : raw_answer n s c (choice n e) ≡ a
    done_here = sym (rw here at done)

    entry_step : entry_lists n left e tight given s c
        ≡ behind (eqb a.code 0) (choice n e) (rest_lists n left tight given a.session a.counts)
        ++ by_entry n (lists_from n left) s c (drop (suc e) (choices n))
    unfolding entry_lists from_entry
    entry_step = rw (choices_from n e low, done_here) refl

    next_loose : (given' : List RawEntry)
        → entry_lists n left (e + 1) false given' s c ≡ by_entry n (lists_from n left) s c (drop (suc e) (choices n))
    next_loose given' = entry_loose n left (e + 1) given' s c ∙ rw add-one refl

    pub entry_refused : (a.code ≡ 0 → ⊥) → (given' : List RawEntry) (b' : List ℕ) (r : Bool)
        → Chosen (entry_lists n left (e + 1) false given' s c) b b' i r → Chosen (entry_lists n left e tight given s c) b b' i r
    unfolding behind
    entry_refused h given' b' r k =
        let q : entry_lists n left (e + 1) false given' s c ≡ entry_lists n left e tight given s c
        = next_loose given' ∙ sym (entry_step ∙ rw (ne_eqb a.code 0 h) refl) in
        rw (← q) k

    module _ (ok : a.code ≡ 0) (b₁ : List ℕ) (t : Bool)
        (rest : Chosen (rest_lists n left tight given a.session a.counts) b b₁ (i + 6) t) where
      pub entry_found : t ≡ true → (b₂ : List ℕ) → b₂ ≡ sets b₁ i (raw_bytes x) → Chosen (entry_lists n left e tight given s c) b b₂ i true
      unfolding behind stored
      entry_found h b₂ p =
          rw (entry_step, eq-eqb a.code 0 ok)
          (go (rest_lists n left tight given a.session a.counts) rest.found rest.bytes)
        where
          go : (ls : Lists) → t ≡ not (none ls) → b₁ ≡ stored ls b (i + 6)
              → Chosen (map (λ (l : List RawEntry). choice n e ∷ l) ls ++ by_entry n (lists_from n left) s c (drop (suc e) (choices n)))
              b b₂ i true
          go [] f w = absurd (true≢false (sym h ∙ f))
          go (l ∷ ls) f w = record { found = refl; bytes = p ∙ rw (w, here) (entry_first b i (choice n e) l) }

      pub entry_passed : t ≡ false → (given' : List RawEntry) (b₂ : List ℕ) (r : Bool)
          → Chosen (entry_lists n left (e + 1) false given' s c) b₁ b₂ i r → Chosen (entry_lists n left e tight given s c) b b₂ i r
      unfolding behind stored
      entry_passed h given' b₂ r k =
          rw (entry_step, eq-eqb a.code 0 ok)
          (go (rest_lists n left tight given a.session a.counts) rest.found rest.bytes (rw (next_loose given') at k))
        where
          go : (ls : Lists) → t ≡ not (none ls) → b₁ ≡ stored ls b (i + 6)
              → Chosen (by_entry n (lists_from n left) s c (drop (suc e) (choices n))) b₁ b₂ i r
              → Chosen (map (λ (l : List RawEntry). choice n e ∷ l) ls ++ by_entry n (lists_from n left) s c (drop (suc e) (choices n)))
              b b₂ i r
          go [] f w k = rw w at k
          go (l ∷ ls) f w k = absurd (true≢false (sym f ∙ h))

-- ---- the rest, of a search

pub rest_behind : (s t : Search) (x : RawEntry) → Behind s x t → (tight : Bool) {b b' : List ℕ} {r : Bool}
    → Chosen (rest_lists t.n t.left tight (raws_at b t.at t.left) t.session t.counts) b b' t.at r
    → Chosen (rest_lists s.n (s.left - 1) tight (raws_at b (s.at + 6) (s.left - 1)) t.session t.counts) b b' (s.at + 6) r
rest_behind s t x g tight k =
    let fewer : t.left ≡ s.left - 1 = omega (arith, g.left) in
    rw (g.processes, g.at, fewer) at k

pub rest_begun : (n m : ℕ) (t : Search) → Begun n m t → (tight : Bool) {b b' : List ℕ} {r : Bool}
    → Chosen (rest_lists t.n t.left tight (raws_at b t.at t.left) t.session t.counts) b b' t.at r
    → Chosen (rest_lists n m tight (raws_at b 0 m) (opened n (window n)) no_counts) b b' 0 r
rest_begun n m t g tight k = rw (g.processes, g.left, g.at, g.session, g.counts) at k

-- ---- the choice of the rest

module _ (n left : ℕ) (s : Session) (c : Counts) (b : List ℕ) (i : ℕ) where
  pub rest_end : (tight : Bool) → left ≡ 0 → Chosen (rest_lists n left tight (raws_at b i left) s c) b b i (not tight)
  unfolding rest_lists lists_from later_from stored list_bytes
  rest_end true h = rw (raws_at_zero b i left h) (record { found = refl; bytes = refl })
  rest_end false h = rw h (record { found = refl; bytes = refl })

  module _ (more : 1 ≤ left) (b' : List ℕ) (r : Bool) where
    pub rest_loose : (given given' : List RawEntry) → Chosen (entry_lists n (left - 1) 0 false given' s c) b b' i r
        → Chosen (rest_lists n left false given s c) b b' i r
    unfolding rest_lists
    rest_loose given given' k = rw (lists_more n left s c more) (rw (entry_loose n (left - 1) 0 given' s c) at k)

    pub rest_tight : (x : RawEntry) → x ≡ raw_at b i → (e : ℕ) → e ≡ index_in x (choices n)
        → Chosen (entry_lists n (left - 1) e true (raws_at b (i + 6) (left - 1)) s c) b b' i r
        → Chosen (rest_lists n left true (raws_at b i left) s c) b b' i r
    unfolding rest_lists entry_lists later_from
    rest_tight x here e place k =
        let q : e ≡ index_in (raw_at b i) (choices n) = rw here at place in
        rw (raws_at_more b i left more, length_raws_at, ← q) k
