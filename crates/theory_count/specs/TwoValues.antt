-- A register that held two values in one epoch was written to in that epoch.
use Rattle.std.specs.Prelude.{◌≡◌}
use Rattle.base.specs.Prelude.{ℕ, max, arith, sym, List, inl, inr, ⊎_elim}
use Rattle.model_rule.specs.Event.{Event, Past}
use Rattle.theory_board.specs.Epoch.{top, Wrote, Held}
use Rattle.theory_board.specs.Past.{past_trans, past_total}
use Rattle.theory_board.specs.Registers.{top_le, last_since}

pub two_values : {i j u v : ℕ} {h : List Event} → Held i j u h → Held i j v h → (u ≡ v → ⊥) → (p w : ℕ) × Wrote p j w i h
two_values {i} {j} {h} a b differ =
    elim (past_total a.past b.past) [ inl p ↦ since a b differ p | inr p ↦ since b a (λ e. differ (sym e)) p ]
  where
    since : {x y : ℕ} (f : Held i j x h) (g : Held i j y h) → (x ≡ y → ⊥) → Past f.moment g.moment → (p w : ℕ) × Wrote p j w i h
    since f g d p =
        ⊎_elim
        (λ e. absurd (d (cc)))
        (λ s.
        let epoch : max j (top s.1) ≡ i = omega (arith, f.epoch, g.epoch, top_le s.2, top_le s.3) in
        (s.0, _, record { before = s.1; past = past_trans s.3 g.past; epoch = epoch }))
        (last_since j p)
