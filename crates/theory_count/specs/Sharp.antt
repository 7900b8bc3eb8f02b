-- The sharp count: beside the writes of the grid, the processes that carry one of the two values to the register above it.
use Rattle.std.specs.Prelude.{◌+◌, ◌*◌, ◌-◌, ◌/◌, ◌%◌, ◌≤◌, ◌<◌, ◌≡◌, ◌⊎◌}
use Rattle.base.specs.Prelude.{ℕ, suc, zero, arith, ℕ_discrete, dec_le, dec_lt, mod-lt, div-lt_iff_lt-mul}
use Rattle.base.specs.Prelude.{sym, List, inl, inr}
use Rattle.model_rule.specs.Event.{Event, Written}
use Rattle.theory_board.specs.Epoch.{Wrote}
use Rattle.theory_board.specs.Lawful.{lawful_at}
use Rattle.theory_count.specs.Pigeon.{holes}
use Rattle.theory_count.specs.Apart.{same_write, grid_once}
use Rattle.theory_count.specs.Rivals.{Rivals, walked, cell}
use Rattle.theory_count.specs.Carriers.{carried_twice, Low, closing, closing_wrote, IsCarrier, carry_one}

module _
    {W n R u v : ℕ} {h : List Event} (s k m : ℕ) (rivals : Rivals W n R u v h)
    (split : s + k ≡ W) (mid : m + k ≡ R) (some : 0 < s) (above : 2 ≤ k)
  where
    window : W ≤ R
    window = rivals.committed.window

    -- A value c that is written to register R, beside another d.
    module _ {c d : ℕ} (written : Written R c h) (other : Written R d h) (differ : c ≡ d → ⊥) where
      -- Process p made the write at place t of the grid with s rows, and carries c no further.
      abbrev Mark : (t p : ℕ) → Type 0
      Mark t p = (w : ℕ) × Wrote p (m - t % s) w (m + t / s) h × ((e : ℕ) → Wrote p (m + 1) c e h → ⊥)

      -- It carries c to register m + 1, in one of two epochs.
      abbrev Carrier : (t p : ℕ) → Type 0
      Carrier t p = (e : ℕ) × (m + 2 * t ≤ e) × (e ≤ m + 2 * t + 1) × (m + 1 ≤ e) × Wrote p (m + 1) c e h

      -- All places: those of the grid, then the carriers.
      abbrev Place : (t p : ℕ) → Type 0
      Place t p = ((t < k * s) × Mark t p) ⊎ ((k * s ≤ t) × Carrier (t - k * s) p)

      carrier : (t : ℕ) → t < k / 2 → (p : ℕ) × (p < n) × Carrier t p
      carrier zero few =
          let w = (walked {i = m + 1} rivals.lawful written (omega (arith, window)) (omega arith)).written in
          (w.0, (lawful_at rivals.lawful w.1.past).writer, (m + 1, omega arith, omega arith, omega arith, w.1))
      carrier (suc t) few =
          let x = carried_twice (m + 2 * suc t) (m + 1) rivals written other differ (omega (arith, window)) (omega arith) (omega arith) in
          (x.0, (lawful_at rivals.lawful x.4.past).writer, (x.1, x.2, omega (arith, x.3), omega (arith, x.2), x.4))

      -- A write of the grid above epoch m is of no carrier.
      high_carries : {p j w i : ℕ} → Wrote p j w i h → j ≤ m → m < i → (e : ℕ) → Wrote p (m + 1) c e h → ⊥
      high_carries a low high e b =
          let reached : m + 1 ≤ e = omega (arith, b.epoch) in
          let same = same_write rivals.lawful a b (omega arith) (omega arith) in
          omega (arith, same.0)

      -- Where no last writer of epoch m carries c, each place of the grid has its write, which is of no carrier.
      module _ (never : (j : ℕ) (row : Low s k m rivals split mid above j) → IsCarrier s k m rivals split mid above c j row → ⊥) where
        mark : (t : ℕ) → t < k * s → (p : ℕ) × (p < n) × Mark t p
        mark t inside =
            let row = mod-lt t some in
            let column = (div-lt_iff_lt-mul some).1 inside in
            let low : Low s k m rivals split mid above (m - t % s) = (omega (arith, window), omega arith) in
            elim (ℕ_discrete (t / s) 0) [
              | yes first ↦
                  let x = closing s k m rivals split mid above (m - t % s) low in
                  let w = closing_wrote s k m rivals split mid above (m - t % s) low in
                  let here : m + t / s ≡ m = omega arith in (
                    x.process,
                    (lawful_at rivals.lawful w.past).writer,
                    (x.value, rw here w, λ e a. never (m - t % s) low (e, a)),
                  )
              | no later ↦
                  let x = cell (m + t / s) (m - t % s) rivals (omega (arith, window)) (omega arith) (omega arith) in (
                    x.0,
                    (lawful_at rivals.lawful x.1.1.past).writer,
                    (x.1.0, x.1.1, high_carries x.1.1 (omega arith) (omega arith)),
                  )
            ]

        once : (t t' p : ℕ) → Place t p → Place t' p → t ≡ t'
        once t t' p (inl a) (inl b) = grid_once rivals.lawful s m some (omega (arith, window)) t t' a.1.1 b.1.1
        once t t' p (inl a) (inr b) = absurd (a.1.2 b.1.0 b.1.4)
        once t t' p (inr a) (inl b) = absurd (b.1.2 a.1.0 a.1.4)
        once t t' p (inr a) (inr b) =
            let same = same_write rivals.lawful a.1.4 b.1.4 (omega (arith, b.1.3)) (omega (arith, a.1.3)) in
            omega (arith, same.2, a.0, b.0, a.1.1, a.1.2, b.1.1, b.1.2)

        count : k * s + k / 2 ≤ n
        count =
            holes n (k * s + k / 2) Place
            (λ t low.
            elim (dec_lt t (k * s)) [
              | yes inside ↦ let x = mark t inside in (x.0, x.1, inl (inside, x.2))
              | no outside ↦ let x = carrier (t - k * s) (omega arith) in (x.0, x.1, inr (omega arith, x.2))
            ])
            once

    -- Of the two values one is carried by no last writer of epoch m.
    pub sharp : k * s + k / 2 ≤ n
    sharp =
        elim (dec_le (k * s + k / 2) n) [
          | yes enough ↦ enough
          | no few ↦
              let u_at = rivals.written in
              let v_at = rivals.committed.written in
              let back : v ≡ u → ⊥ = λ e. rivals.differ (sym e) in
              absurd (few (count u_at v_at rivals.differ
              (λ j row x. few (count v_at u_at back (λ i low y. carry_one s k m rivals split mid above row low x y rivals.differ)))))
        ]
