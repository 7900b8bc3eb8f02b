-- At each length, what is left and what the lengths behind it add up to differ by the same.
use Rattle.std.specs.Prelude.{◌+◌, ◌-◌, ◌≤◌, ◌≡◌, ◌∷◌, Option, Some, None, MatchOption, SomeIff}
use Rattle.std.specs.ControlFlow.{continue_value}
use Rattle.std.specs.declared.ops.ControlFlow.{ControlFlow}
use Rattle.std.specs.Fn.{Called}
use Rattle.std.specs.Iterator.{TryFoldTurn, Yields}
use Rattle.std.specs.List.{FoldsTo}
use Rattle.std.specs.Option.{option_eq}
use Rattle.std.proofs.Common.{tests, Bor, Iter}
use Rattle.std.proofs.iter.Yields.{fronts}
use Rattle.base.specs.Prelude.{ℕ, List, [], length, ◌∙◌, ap, sym, subst, eqb, ne_eqb, arith, rules}
use denote.Param.Members.{Mut}
use Rattle.model_write.specs.Write.{total}
use Rattle.sheet_write_refusal.proofs.add_up.Goals as goal

total_none : (ms : List ℕ) → length ms ≡ 0 → total ms ≡ 0
total_none [] h = omega arith
total_none (m ∷ ms) h = absurd (omega arith)

-- A closure that takes a length off what is left, as far as it goes.
module _ {F : Type 0} (E : Type 0) (g : Mut F (ℕ × (Bor ℕ × Unit {0})) (Option ℕ))
    (takes : (f h : F) (left : ℕ) (m : Bor ℕ) (v : Option ℕ) → Called g f (left, (m, tt)) v h → SomeIff v (m.now ≤ left) (left - m.now)) where
  abbrev Takes : F × ℕ → Bor ℕ → F × ℕ → Type 0
  Takes = TryFoldTurn g (λ v (r : ControlFlow E ℕ). v ≡ continue_value r)

  taken : (ms : List (Bor ℕ)) (s t : Iter ℕ) (p q : F × ℕ) → Yields fronts s ms t → FoldsTo Takes p ms q
      → p.1 + total t.rest.now ≡ q.1 + total s.rest.now
  taken [] s t p q y h = omega (arith, ap (λ (k : F × ℕ). k.1) h, ap (λ (k : Iter ℕ). total k.rest.now) y)
  taken (m ∷ ms) s t p q y h =
      let off = subst (λ v. SomeIff v (m.now ≤ p.1) (p.1 - m.now)) h.1.2 (takes p.0 h.0.0 p.1 m h.1.0 h.1.1) in
      omega (arith, off, taken ms y.0 t h.0 q y.2 h.2, ap total y.1)

  all_taken : (ms : List (Bor ℕ)) (s t u : Iter ℕ) (f h : F) (entries left : ℕ) (r : Option ℕ) (o : Option (Bor ℕ))
      → Yields fronts s ms t → fronts t o u → FoldsTo Takes (f, entries) ms (h, left)
      → MatchOption o (r ≡ Some left) (λ m. (v : Option ℕ) × (k : F) × (e : E) × Called g h (left, (m, tt)) v k × (v ≡ None) × (r ≡ None))
      → option_eq eqb r (Some 0) ≡ eqb (total s.rest.now) entries
  all_taken ms s t u f h entries left r None y end folds is =
      let none = total_none t.rest.now end.0 in
      let same = taken ms s t (f, entries) (h, left) y folds in
      rw is (grind (arith, tests))
  all_taken ms s t u f h entries left r (Some m) y next folds is =
      let above = subst (λ v. SomeIff v (m.now ≤ left) (left - m.now)) is.4 (takes h is.1 left m is.0 is.3) in
      let same = taken ms s t (f, entries) (h, left) y folds in
      rw is.5 (sym (ne_eqb (total s.rest.now) entries (λ e. omega (arith, above, ap total next))))

pub returns : goal.returns
returns c =
    let ran = c.try_fold.ensures.ran in
    c.eq.ensures
    ∙ all_taken _ _ (λ f h left m v k. search rules) ran.0 c.iter.result ran.4.0 c.try_fold.new.self _ ran.2 c.args.entries ran.3 c.try_fold.result ran.1
    ran.4.1 ran.4.2 ran.5 ran.6
    ∙ ap (λ ms. eqb (total ms) c.args.entries) c.iter.ensures.rest
