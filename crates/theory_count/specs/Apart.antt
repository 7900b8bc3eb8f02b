-- Two writes of one process.
use Rattle.std.specs.Prelude.{◌+◌, ◌-◌, ◌/◌, ◌%◌, ◌≤◌, ◌<◌, ◌≡◌, ◌∷◌}
use Rattle.base.specs.Prelude.{ℕ, arith, mod-lt, div-add-mod', List, inl, inr}
use Rattle.model_rule.specs.Event.{Event, write, Past}
use Rattle.theory_board.specs.Epoch.{Wrote}
use Rattle.theory_board.specs.Lawful.{Lawful, lawful_at}
use Rattle.theory_board.specs.Past.{past_total, past_cons}

module _ {W n p r v e r' v' e' : ℕ} {h : List Event} (lawful : Lawful W n h) (a : Wrote p r v e h) (b : Wrote p r' v' e' h) where
  -- A write that is not newer than another of the same process is that one, if its epoch is not below the other's round.
  not_newer : Past (write p r v ∷ a.before) (write p r' v' ∷ b.before) → r' ≤ e → (r ≡ r') × (v ≡ v') × (e ≡ e')
  not_newer older low =
      elim (past_cons older) [
        | inl same ↦ (cc, cc, cc)
        | inr past ↦
            let late = (lawful_at lawful b.past).ordered r v e (record { before = a.before; past = past; epoch = a.epoch }) in
            absurd (omega arith)
      ]

-- Two writes of one process, each to a round not above the other's epoch, are one.
pub same_write : {W n p r v e r' v' e' : ℕ} {h : List Event} → Lawful W n h → Wrote p r v e h → Wrote p r' v' e' h →
    r ≤ e' → r' ≤ e → (r ≡ r') × (v ≡ v') × (e ≡ e')
same_write lawful a b low low' =
    elim (past_total a.past b.past) [
      | inl older ↦ not_newer lawful a b older low'
      | inr older ↦ let same = not_newer lawful b a older low in (cc, cc, cc)
    ]

-- A grid with s rows, the registers down from m, and the epochs up from m for its columns: a process made the write at one place of it
-- only.
pub grid_once : {W n p w w' : ℕ} {h : List Event} → Lawful W n h → (s m : ℕ) → 0 < s → s ≤ m → (t t' : ℕ) →
    Wrote p (m - t % s) w (m + t / s) h → Wrote p (m - t' % s) w' (m + t' / s) h → t ≡ t'
grid_once lawful s m some low t t' a b =
    let same = same_write lawful a b (omega arith) (omega arith) in
    let row : t % s ≡ t' % s = omega (arith, mod-lt t some, mod-lt t' some) in
    let column : t / s ≡ t' / s = omega arith in
    cc (div-add-mod' t s, div-add-mod' t' s)
