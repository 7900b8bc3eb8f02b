-- The runs before the one that `find_map` opens have no entry; where it opens none, no run from the given one on has one.
use Rattle.std.specs.Prelude.{◌+◌, ◌-◌, ◌*◌, ◌<◌, ◌≤◌, ◌≡◌, MatchOption, IfSome, IsSomeAnd, Option, Some, None, unwrap_or, max}
use Rattle.std.proofs.Common.{ℕ, zero, suc, List, true, false, cond, leb, refl, ◌∙◌, ap, sym, subst, eq-or-lt_of_le, inl, inr, arith, rules, tests}
use Rattle.std.specs.Option.{option_map}
use Rattle.std.specs.Bool.{then_some}
use Rattle.std.specs.Fn.{Called}
use Rattle.std.specs.Iterator.Runs.{Run, AllItemsGive, IsFirstToGive, CallKeepsClosure}
use Rattle.std.proofs.iter.runs.Sources.{range_runs}
use Rattle.std.proofs.iter.Yields.{nat_range_steps}
use denote.Param.Members.{Mut}
use Rattle.std.proofs.lemmas.Option.{MatchOption-at_none, MatchOption-at_some}
use Rattle.model.specs.Sheet.{run_at}
use Rattle.sheet_laws.specs.Places.{encode, open_from, opened_run}
use Rattle.sheet_place.proofs.open_from.Goals as goal

-- ---- `find_map` over a range, said of the numbers in it: each call gives what h gives

item : (P : ℕ → Type 0) (o : Option ℕ) (n : ℕ) → option_map (λ y. y) o ≡ Some n → IfSome o P → P n
item P None n e h = cc
item P (Some x) n e h = let same : x ≡ n = cc in subst P same h

some : (P : ℕ → Type 0) (o : Option ℕ) → IsSomeAnd o P → IfSome o P
some P None h = absurd h
some P (Some x) h = h

module _ {F : Type 0} (g : Mut F (ℕ × Unit {0}) (Option ℕ)) (f : F) (h : ℕ → Option ℕ)
    (calls : (x : ℕ) (o : Option ℕ) (q : F) → Called g f (x, tt) o q → (q ≡ f) × (o ≡ h x)) (p : Run nat_range_steps) where
  abbrev Gives : Option ℕ → ℕ → Type 0
  Gives o x = Called g f (x, tt) o f

  keeps : CallKeepsClosure g f
  keeps a o q k = (calls a.0 o q k).0

  gave : (o : Option ℕ) (k : ℕ) → p.from.start ≤ k → k - p.from.start < p.len → IfSome (p.at (k - p.from.start)) (Gives o) → h k ≡ o
  gave o k low high m =
      let same : p.from.start + (k - p.from.start) ≡ k = omega arith in
      sym (calls k o f (item (Gives o) (p.at (k - p.from.start)) k (rw same at ((range_runs p p.seen).3 (k - p.from.start) high)) m)).1

  numbers : (r : Option ℕ)
      → MatchOption r ((p.whole ≡ true) × AllItemsGive p g f None) (λ y. (i : ℕ) × (i < p.len) × (p.len ≡ i + 1) × IsFirstToGive p g f (Some y) None i)
      → MatchOption r ((k : ℕ) → p.from.start ≤ k → k < p.from.end → h k ≡ None)
      (λ y. (i : ℕ) × (p.from.start ≤ i) × (i < p.from.end) × (h i ≡ Some y) × ((k : ℕ) → p.from.start ≤ k → k < i → h k ≡ None))
  numbers None m = λ k low high. gave None k low (omega (arith, (range_runs p p.seen).1 m.0)) (m.1 keeps (k - p.from.start))
  numbers (Some y) m =
      let start = p.from.start in
      let back : start + m.0 - start ≡ m.0 = omega arith in (
        start + m.0,
        omega arith,
        omega (arith, (range_runs p p.seen).0),
        gave (Some y) (start + m.0) (omega arith) (omega arith) (rw back (some (Gives (Some y)) (p.at m.0) (m.3 keeps).0)),
        λ k low high. gave None k low (omega arith) (some (Gives None) (p.at (k - start)) ((m.3 keeps).1 (k - start) (omega arith))),
      )

-- ---- the first run that is opened

abbrev opened_at : List ℕ → ℕ → Option ℕ
opened_at s i = then_some (leb 6 (run_at s i).size) (encode (opened_run i (run_at s i)))

module _ (s : List ℕ) where
  one_more : (i k : ℕ)
      → MatchOption (opened_at s i) (encode (open_from s i (suc k)) ≡ encode (open_from s (i + 1) k)) (λ p. encode (open_from s i (suc k)) ≡ p)
  unfolding open_from
  one_more i k =
      elim (leb 6 (run_at s i).size) as (λ t. MatchOption (then_some t (encode (opened_run i (run_at s i))))
      (encode (cond t (opened_run i (run_at s i)) (open_from s (i + 1) k)) ≡ encode (open_from s (i + 1) k))
      (λ p. encode (cond t (opened_run i (run_at s i)) (open_from s (i + 1) k)) ≡ p)) [ true ↦ refl | false ↦ refl ]

  none_opened : (i k : ℕ) → ((j : ℕ) → i ≤ j → j < i + k → opened_at s j ≡ None) → encode (open_from s i k) ≡ 1073741824 * (i + k)
  unfolding open_from
  none_opened i zero others = omega arith
  none_opened i (suc k) others =
      MatchOption-at_none _ _ (others i (omega arith) (omega arith)) (one_more i k)
      ∙ none_opened (i + 1) k (λ j low high. others j (omega arith) (omega arith))
      ∙ omega arith

  first_opened : (i k j p : ℕ) → i ≤ j → j < i + k → opened_at s j ≡ Some p → ((m : ℕ) → i ≤ m → m < j → opened_at s m ≡ None)
      → encode (open_from s i k) ≡ p
  first_opened i zero j p low high is others = absurd (omega arith)
  first_opened i (suc k) j p low high is others =
      elim (eq-or-lt_of_le low) [
        | inl e ↦ let here : opened_at s i ≡ Some p = rw e is in MatchOption-at_some _ _ p here (one_more i k)
        | inr l ↦ MatchOption-at_none _ _ (others i (omega arith) l) (one_more i k)
            ∙ first_opened (i + 1) k j p (omega arith) (omega arith) is (λ m a b. others m (omega arith) b)
      ]

  by_search : (first n : ℕ) (r : Option ℕ)
      → MatchOption r ((k : ℕ) → first ≤ k → k < n → opened_at s k ≡ None)
      (λ y. (i : ℕ) × (first ≤ i) × (i < n) × (opened_at s i ≡ Some y) × ((k : ℕ) → first ≤ k → k < i → opened_at s k ≡ None))
      → unwrap_or r (1073741824 * max first n) ≡ encode (open_from s first (n - first))
  by_search first n None others = sym (none_opened first (n - first) (λ j low high. others j low (omega arith)) ∙ omega arith)
  by_search first n (Some p) found = sym (first_opened first (n - first) found.0 p found.1 (omega arith) found.3 found.4)

pub returns : goal.returns
returns c =
    let s = c.args.s.now in
    let r = c.find_map.result in
    let runs = c.find_map.ensures.runs in
    let found = rw runs.1 at (numbers _ _ (opened_at s) (λ x o q k. search (rules, tests)) runs.0 r runs.2) in
    c.unwrap_or.ensures
    ∙ ap (λ m. unwrap_or r (1073741824 * m)) c.max.ensures
    ∙ by_search s c.args.first c.byte-count.result r found
    ∙ ap (λ n. encode (open_from s c.args.first (n - c.args.first))) c.byte-count.ensures
