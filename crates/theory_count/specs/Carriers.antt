-- The processes that carry a value to the register above the middle of the window, and the last writers of the epoch before: of two values,
-- one is carried by none of these.
use Rattle.std.specs.Prelude.{◌+◌, ◌≤◌, ◌<◌, ◌≡◌, ◌∷◌}
use Rattle.base.specs.Prelude.{ℕ, suc, arith, refl, sym, ◌∙◌, subst, List, inl, inr, ⊎_elim}
use Rattle.model_rule.specs.Event.{Event, write, Past, Written}
use Rattle.theory_board.specs.Epoch.{top, last, Wrote}
use Rattle.theory_board.specs.Lawful.{lawful_at}
use Rattle.theory_board.specs.Past.{past_trans, past_before, past_total, past_cons, past_older}
use Rattle.theory_board.specs.Registers.{top_le, last_since}
use Rattle.model_rule.specs.Event.Past.{here}
use Rattle.theory_count.specs.Ends.{up_to, up_past, up_top, up_most, Newest, newest_write, newest_holds}
use Rattle.theory_count.specs.Rivals.{Rivals, held_at, cell}

-- In two epochs one after the other each of two values is written to a register of the window.
pub carried_twice : {W n R u v c d : ℕ} {h : List Event} (i j : ℕ) → Rivals W n R u v h → Written R c h → Written R d h → (c ≡ d → ⊥) →
    R < j + W → j ≤ i → suc i < R → (p e : ℕ) × (i ≤ e) × (e ≤ suc i) × Wrote p j c e h
carried_twice {h = h} i j rivals written other differ inside low below =
    let a = held_at (suc i) j rivals written inside (omega arith) below in
    let b = held_at i j rivals other inside low (omega arith) in
    elim (past_total b.past a.past) [
      | inl older ↦
          ⊎_elim
          (λ same. absurd (differ (sym a.holds ∙ same ∙ b.holds)))
          (λ s.
          let e = top (write s.0 j (last a.moment j) ∷ s.1) in
          let wrote : Wrote s.0 j (last a.moment j) e h = record {
            before = s.1;
            past = past_trans s.3 a.past;
            epoch = refl;
          } in (
            s.0,
            e,
            omega (arith, b.epoch, top_le s.2),
            omega (arith, a.epoch, top_le s.3),
            subst (λ (w : ℕ). Wrote s.0 j w e h) a.holds wrote,
          ))
          (last_since j older)
      | inr newer ↦ absurd (omega (arith, a.epoch, b.epoch, top_le newer))
    ]

module _
    {W n R u v : ℕ} {h : List Event} (s k m : ℕ) (rivals : Rivals W n R u v h)
    (split : s + k ≡ W) (mid : m + k ≡ R) (above : 2 ≤ k)
  where
    -- The register is one of the lowest s of the window.
    abbrev pub Low : (j : ℕ) → Type 0
    Low j = (R < j + W) × (j ≤ m)

    window : W ≤ R
    window = rivals.committed.window

    -- The last write to such a register in epoch m.
    pub closing : (j : ℕ) → Low j → Newest j (up_to m h)
    closing j low =
        let c = cell m j rivals low.0 low.1 (omega arith) in
        newest_write (up_most m c.1.1.past (omega (arith, c.1.1.epoch)))

    closing_epoch : (j : ℕ) (low : Low j) → let n = closing j low in top (write n.process j n.value ∷ n.before) ≡ m
    closing_epoch j low =
        let c = cell m j rivals low.0 low.1 (omega arith) in
        let n = closing j low in
        let older = n.newest c.0 c.1.0 c.1.1.before (up_most m c.1.1.past (omega (arith, c.1.1.epoch))) in
        omega (arith, top_le older, c.1.1.epoch, top_le n.past, up_top m h)

    pub closing_wrote : (j : ℕ) (low : Low j) → let n = closing j low in Wrote n.process j n.value m h
    closing_wrote j low =
        let n = closing j low in record { before = n.before; past = past_trans n.past (up_past m h); epoch = closing_epoch j low }

    -- That writer carries c to register m + 1.
    abbrev pub IsCarrier : (c j : ℕ) → Low j → Type 0
    IsCarrier c j low = (e : ℕ) × Wrote (closing j low).process (m + 1) c e h

    -- After its last write in epoch m it saw c in every such register, in that epoch.
    seen : {c j : ℕ} (low : Low j) → IsCarrier c j low → (i : ℕ) → Low i →
        let n = closing j low in
        (a : List Event) × Past (write n.process j n.value ∷ n.before) a × Past a (up_to m h) × (last a i ≡ c)
    seen {c} {j} low x i row =
        let n = closing j low in
        let w = x.1 in
        let own = past_trans n.past (up_past m h) in
        let pass = (lawful_at rivals.lawful w.past).passed m (omega arith) (omega arith) in
        let inside : Past (write n.process j n.value ∷ n.before) w.before =
        elim (past_total own w.past) [
          | inl older ↦ ⊎_elim (λ same. let z : j ≡ m + 1 = cc in absurd (omega arith)) (λ q. q) (past_cons older)
          | inr newer ↦ absurd (omega (arith, closing_epoch j low, top_le newer))
        ] in
        elim (pass.compared i (omega arith) row.1 (omega arith)) [
          | inl contested ↦
              let late = rivals.committed.unflagged i contested.0 (omega arith) row.0
              (record {
                before = contested.2.before;
                past = past_trans contested.2.past (past_before w.past);
                epoch = contested.2.epoch;
              }) in
              absurd (omega arith)
          | inr held ↦ (
            held.moment,
            held.own j n.value n.before inside,
            up_most m (past_trans held.past (past_before w.past)) (omega (arith, held.epoch)),
            held.holds,
          )
        ]

    -- So its last write was of c.
    carries_own : {c j : ℕ} (low : Low j) → IsCarrier c j low → (closing j low).value ≡ c
    carries_own low x = let a = seen low x _ low in sym (newest_holds (closing _ low) a.1 a.2) ∙ a.3

    -- And it is older than that of one that carries another value.
    carries_older : {c d i j : ℕ} (low : Low i) (row : Low j) → IsCarrier c i low → IsCarrier d j row → (c ≡ d → ⊥) →
        Past (write (closing i low).process i (closing i low).value ∷ (closing i low).before) (closing j row).before
    carries_older {c} {d} {i} {j} low row x y differ =
        let n = closing j row in
        let a = seen low x j row in
        let never : last a.0 j ≡ n.value → ⊥ = λ e. differ (sym a.3 ∙ e ∙ carries_own row y) in
        elim (past_total a.2 n.past) [
          | inl older ↦
              ⊎_elim
              (λ same. absurd (never (newest_holds n (rw same here) a.2)))
              (λ q. past_trans a.1 q)
              (past_cons older)
          | inr newer ↦ absurd (never (newest_holds n newer a.2))
        ]

    -- Two of them do not carry two values.
    pub carry_one : {c d i j : ℕ} (low : Low i) (row : Low j) → IsCarrier c i low → IsCarrier d j row → (c ≡ d → ⊥) → ⊥
    carry_one low row x y differ =
        let p = carries_older low row x y differ in
        let q = carries_older row low y x (λ e. differ (sym e)) in
        past_older (past_trans p (past_before q))
