-- The count: two values at the register of a commit take more processes than there are below the threshold.
use Rattle.std.specs.Prelude.{◌+◌, ◌*◌, ◌-◌, ◌/◌, ◌%◌, ◌≤◌, ◌<◌, ◌≡◌}
use Rattle.base.specs.Prelude.{ℕ, suc, zero, arith, ℕ_discrete, dec_le, dec_lt, mod-lt}
use Rattle.base.specs.Prelude.{div-lt_iff_lt-mul, List}
use Rattle.model_rule.specs.Event.{Event}
use Rattle.model_rule.specs.Safe.{threshold}
use Rattle.theory_board.specs.Epoch.{WrittenIn}
use Rattle.theory_board.specs.Lawful.{lawful_at}
use Rattle.theory_count.specs.Pigeon.{spare_hole}
use Rattle.theory_count.specs.Apart.{same_write, grid_once}
use Rattle.theory_count.specs.Rivals.{Rivals, Cell, walked, cell}
use Rattle.theory_count.specs.Sharp.{sharp}

module _
    {W n R u v : ℕ} {h : List Event} (s k m : ℕ) (rivals : Rivals W n R u v h)
    (split : s + k ≡ W) (mid : m + k ≡ R) (some : 0 < s)
  where
    window : W ≤ R
    window = rivals.committed.window

    -- Process p made the write at place t of a grid with s rows: its rows are the registers down from m, its columns the epochs up
    -- from m. At register m in epoch m the write is not of v.
    abbrev Mark : (t p : ℕ) → Type 0
    Mark t p = Cell v h (m + t / s) (m - t % s) p

    -- Each place of the grid has its write.
    mark : (t : ℕ) → t < k * s → (p : ℕ) × (p < n) × Mark t p
    mark t inside =
        let row = mod-lt t some in
        let column = (div-lt_iff_lt-mul some).1 inside in
        let found = cell (m + t / s) (m - t % s) rivals (omega (arith, window)) (omega arith) (omega arith) in
        (found.0, (lawful_at rivals.lawful found.1.1.past).writer, found.1)

    -- A process made the write at one place of the grid only.
    mark_once : (t t' p : ℕ) → Mark t p → Mark t' p → t ≡ t'
    mark_once t t' p a b = grid_once rivals.lawful s m some (omega (arith, window)) t t' a.1 b.1

    -- The process that wrote v to register m in epoch m made no write of the grid.
    mark_other : (w : WrittenIn m v m h) (t : ℕ) → Mark t w.0 → ⊥
    mark_other w t a =
        let same = same_write rivals.lawful w.1 a.1 (omega arith) (omega arith) in
        a.2 (omega arith) (omega arith)

    -- A grid of s rows and k columns has its writes and one more, and no process made two of these.
    grid : 0 < k → k * s < n
    grid columns =
        let extra = (walked {i = m} rivals.lawful rivals.committed.written (omega (arith, window)) (omega arith)).written in
        spare_hole n (k * s) extra.0 Mark (lawful_at rivals.lawful extra.1.past).writer mark mark_once (mark_other extra)

-- Two factors that differ by one at most, and a number above their product: four times it is above the square of their sum.
square : {n : ℕ} (s k : ℕ) → s ≤ k → k ≤ suc s → k * s < n → (s + k) * (s + k) < 4 * n
square s k low high more =
    elim (ℕ_discrete k s) [
      | yes same ↦ rw same (omega (arith, rw same at more))
      | no other ↦
          let next : k ≡ suc s = omega arith in
          rw next (omega (arith, rw next at more))
    ]

-- Two values cannot both be written to the register of a round in which one of them was committed.
pub no_rivals : {W n R u v : ℕ} {h : List Event} → 2 ≤ W → n < threshold W → Rivals W n R u v h → ⊥
no_rivals {W} {n} {R} wide few rivals =
    let s = W / 2 in
    let k = W - W / 2 in
    let whole : s + k ≡ W = omega arith in
    let writes : k * s < n = grid s k (R - k) rivals whole (omega arith) (omega arith) (omega arith) in
    elim (dec_le 2 k) [
      | yes above ↦ omega (arith, writes, sharp s k (R - k) rivals whole (omega (arith, rivals.committed.window)) (omega arith) above)
      | no below ↦ omega (arith, writes)
    ]

-- ---- the threshold

-- A window with W * W ≥ 4n is below it.
pub wide_below : (W n : ℕ) → 4 * n ≤ W * W → n < threshold W
wide_below W n square_of =
    elim (dec_lt n (threshold W)) [
      | yes below ↦ below
      | no above ↦
          let s = W / 2 in
          let k = W - W / 2 in
          let whole : s + k ≡ W = omega arith in
          let more : k * s < n = omega arith in
          absurd (omega (arith, rw whole at (square s k (omega arith) (omega arith) more)))
    ]

-- A window whose threshold is above one process is at least 2.
pub below_wide : (W n : ℕ) → 1 ≤ n → n < threshold W → 2 ≤ W
below_wide zero n some few = absurd (omega arith)
below_wide (suc zero) n some few = absurd (omega arith)
below_wide (suc (suc W)) n some few = omega arith
