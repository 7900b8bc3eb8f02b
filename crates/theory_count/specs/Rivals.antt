-- Two values at the register of a round in which one of them was committed.
use Rattle.std.specs.Prelude.{◌+◌, ◌≤◌, ◌<◌, ◌≡◌}
use Rattle.base.specs.Prelude.{ℕ, suc, zero, arith, ℕ_discrete, refl, List, inl, inr}
use Rattle.model_rule.specs.Event.{Event, Written}
use Rattle.theory_board.specs.Epoch.{Wrote, Held, Passed}
use Rattle.theory_board.specs.Lawful.{CommitLawful, Lawful, lawful_at}
use Rattle.theory_board.specs.Past.{past_before, passed_past}
use Rattle.theory_board.specs.Registers.{written_in}
use Rattle.theory_count.specs.TwoValues.{two_values}

-- A value written to a register was walked through every lower round.
pub walked : {W n i r v : ℕ} {h : List Event} → Lawful W n h → Written r v h → 1 ≤ i → i < r → Passed W i v h
walked {r = zero} lawful w low below = absurd (omega arith)
walked {i} {r = suc r} lawful w low below =
    let past = w.1.past in
    let pass = passed_past (past_before past) ((lawful_at lawful past).passed r refl (omega arith)) in
    elim (ℕ_discrete i r) [
      | yes same ↦ rw same pass
      | no other ↦ walked lawful (written_in pass.written) low (omega arith)
    ]

-- u was written to the register of a round R in which another value v was committed.
pub record Rivals (W n R u v : ℕ) (h : List Event) : Type 0 where
  pub lawful : Lawful W n h
  pub committed : CommitLawful W R v h
  pub written : Written R u h
  pub differ : u ≡ v → ⊥

-- Process p wrote to register j in epoch i; where j is i, another value than v.
abbrev pub Cell : (v : ℕ) (h : List Event) (i j p : ℕ) → Type 0
Cell v h i j p = (w : ℕ) × Wrote p j w i h × (i ≡ j → w ≡ v → ⊥)

-- A value written to register R was held by each register of the window in each epoch from its own up to R, since no round of the window
-- was flagged before epoch R.
pub held_at : {W n R u v w : ℕ} {h : List Event} (i j : ℕ) → Rivals W n R u v h → Written R w h → R < j + W → j ≤ i → i < R → Held i j w h
held_at i j rivals written inside low below =
    let window = rivals.committed.window in
    elim ((walked {i = i} rivals.lawful written (omega arith) below).compared j (omega arith) low (omega arith)) [
      | inl contested ↦
          let late = rivals.committed.unflagged j contested.0 (omega arith) inside contested.2 in
          absurd (omega arith)
      | inr holds ↦ holds
    ]

-- With two values at register R each register of the window was written to in each epoch from its own up to R.
pub cell : {W n R u v : ℕ} {h : List Event} (i j : ℕ) → Rivals W n R u v h → R < j + W → j ≤ i → i < R → (p : ℕ) × Cell v h i j p
cell {u = u} i j rivals inside low below =
    let window = rivals.committed.window in
    elim (ℕ_discrete i j) [
      | yes same ↦ let w = (walked {i = i} rivals.lawful rivals.written (omega arith) below).written in rw (← same)
          (w.0, (u, w.1, λ e. rivals.differ))
      | no apart ↦
          let w =
          two_values (held_at i j rivals rivals.written inside low below)
          (held_at i j rivals rivals.committed.written inside low below) rivals.differ in
          (w.0, (w.1, w.2, λ e. absurd (apart e)))
    ]
