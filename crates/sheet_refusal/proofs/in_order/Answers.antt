-- The runs that are left, behind where the runs before ended, are in order where all runs are.
use Rattle.std.specs.Prelude.{◌+◌, ◌-◌, ◌*◌, ◌<◌, ◌≡◌, ◌&&◌, ◌∷◌, Option, Some, None, MatchOption, is_some}
use Rattle.std.specs.Bool.{then_some}
use Rattle.std.specs.ControlFlow.{continue_value}
use Rattle.std.specs.declared.ops.ControlFlow.{ControlFlow}
use Rattle.std.specs.declared.ops.Range.{Range}
use Rattle.std.specs.Fn.{Called}
use Rattle.std.specs.Iterator.{TryFoldTurn, Yields}
use Rattle.std.specs.List.{FoldsTo}
use Rattle.std.proofs.Common.{tests}
use Rattle.std.proofs.lemmas.Option.{MatchOption-at_none, MatchOption-at_some}
use Rattle.std.proofs.iter.Yields.{nat_range_steps}
use Rattle.base.specs.Prelude.{ℕ, suc, Bool, true, false, List, [], length, leb, refl, ◌∙◌, ap, sym, subst, add-one, sub-zero, arith, rules}
use denote.Param.Members.{Mut}
use Rattle.model.specs.Sheet.{EntryRun, run_at, runs_from, is_in_order}
use Rattle.sheet_refusal.proofs.in_order.Goals as goal

module _ (s : List ℕ) where
  abbrev end_at : ℕ → ℕ → Option ℕ
  end_at from i =
      then_some (leb from (run_at s i).offset && leb ((run_at s i).offset + (run_at s i).size) (length s)) ((run_at s i).offset + (run_at s i).size)

  -- Whether the runs of the numbers left lie in order behind `from`.
  abbrev ordered : ℕ → Range ℕ → Bool
  ordered from r = is_in_order from (length s) (runs_from s r.start (r.end - r.start))

  chosen : (b : Bool) (end : ℕ) (xs : List EntryRun)
      → MatchOption (then_some b end) ((b && is_in_order end (length s) xs) ≡ false) (λ m. (b && is_in_order end (length s) xs) ≡ is_in_order m (length s) xs)
  chosen true end xs = refl
  chosen false end xs = refl

  one_more : (from : ℕ) (r t : Range ℕ) → t.end ≡ r.end → 0 < r.end - r.start → t.start ≡ r.start + 1
      → MatchOption (end_at from r.start) (ordered from r ≡ false) (λ m. ordered from r ≡ ordered m t)
  one_more from r t same some next =
      let left : r.end - r.start ≡ suc (r.end - (r.start + 1)) = omega arith in
      let x = run_at s r.start in
      rw (left, next, same, add-one r.start)
      (chosen (leb from x.offset && leb (x.offset + x.size) (length s)) (x.offset + x.size) (runs_from s (suc r.start) (r.end - suc r.start)))

  -- A closure that gives where a run ends.
  module _ {F : Type 0} (E : Type 0) (g : Mut F (ℕ × (ℕ × Unit {0})) (Option ℕ)) (f : F)
      (ends : (from i : ℕ) (v : Option ℕ) (h : F) → Called g f (from, (i, tt)) v h → (h ≡ f) × (v ≡ end_at from i)) where
    abbrev Ends : F × ℕ → ℕ → F × ℕ → Type 0
    Ends = TryFoldTurn g (λ v (r : ControlFlow E ℕ). v ≡ continue_value r)

    passed : (is : List ℕ) (r t : Range ℕ) (p q : F × ℕ) → p.0 ≡ f → Yields nat_range_steps r is t → FoldsTo Ends p is q
        → (q.0 ≡ f) × (ordered p.1 r ≡ ordered q.1 t)
    passed [] r t p q e y h = (sym (ap (λ (k : F × ℕ). k.0) h) ∙ e, λ i. ordered ((h i).1) (y i))
    passed (i ∷ is) r t p q e y h =
        let call = subst (λ k. Called g k (p.1, (i, tt)) h.1.0 h.0.0) e h.1.1 in
        let told = ends p.1 i h.1.0 h.0.0 call in
        let at : end_at p.1 r.start ≡ Some h.0.1 = ap (end_at p.1) (sym y.1.1.1) ∙ sym told.1 ∙ h.1.2 in
        let rest = passed is y.0 t h.0 q told.0 y.2 h.2 in
        (rest.0, MatchOption-at_some _ _ h.0.1 at (one_more p.1 r y.0 y.1.0 y.1.1.0 y.1.1.2) ∙ rest.1)

    all_passed : (is : List ℕ) (r t u : Range ℕ) (h : F) (first from : ℕ) (v : Option ℕ) (o : Option ℕ)
        → Yields nat_range_steps r is t → nat_range_steps t o u → FoldsTo Ends (f, first) is (h, from)
        → MatchOption o (v ≡ Some from) (λ i. (w : Option ℕ) × (k : F) × (e : E) × Called g h (from, (i, tt)) w k × (w ≡ None) × (v ≡ None))
        → is_some v ≡ ordered first r
    all_passed is r t u h first from v None y end folds m =
        let none : t.end - t.start ≡ 0 = end.1.0 in
        ap is_some m ∙ sym ((passed is r t (f, first) (h, from) refl y folds).1 ∙ rw none)
    all_passed is r t u h first from v (Some i) y next folds m =
        let rest = passed is r t (f, first) (h, from) refl y folds in
        let call = subst (λ k. Called g k (from, (i, tt)) m.0 m.1) rest.0 m.3 in
        let at : end_at from t.start ≡ None = ap (end_at from) (sym next.1.1) ∙ sym (ends from i m.0 m.1 call).1 ∙ m.4 in
        ap is_some m.5 ∙ sym (rest.1 ∙ MatchOption-at_none _ _ at (one_more from t u next.0 next.1.0 next.1.2))

pub returns : goal.returns
returns c =
    let n = c.byte-count.result in
    let ran = c.try_fold.ensures.ran in
    c.is_some.ensures
    ∙ all_passed c.args.s.now _ _ _ (λ from i v h k. (search rules, search (rules, tests))) ran.0 (record { start = 0; end = n }) ran.4.0
    c.try_fold.new.self ran.2 (4 + 4 * n) ran.3 c.try_fold.result ran.1 ran.4.1 ran.4.2 ran.5 ran.6
    ∙ rw (sub-zero, c.byte-count.ensures)
