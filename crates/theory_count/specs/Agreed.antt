-- The agreement rule of the past: one value is committed, and no other is written from the round of the commit on.
use Rattle.std.specs.Prelude.{◌≤◌, ◌<◌, ◌≡◌}
use Rattle.base.specs.Prelude.{ℕ, arith, ℕ_discrete, dec_le, sym, List}
use Rattle.model_rule.specs.Event.{Event, Written, Committed}
use Rattle.model_rule.specs.Safe.{threshold}
use Rattle.theory_board.specs.Lawful.{Lawful, commit_lawful}
use Rattle.theory_board.specs.Registers.{written_in}
use Rattle.theory_count.specs.Rivals.{Rivals, walked}
use Rattle.theory_count.specs.Grid.{no_rivals}

module _ (W n : ℕ) (h : List Event) (wide : 2 ≤ W) (few : n < threshold W) (lawful : Lawful W n h) where
  -- What is written to the register of a commit is the value committed.
  same_register : {R v u : ℕ} → Committed R v h → Written R u h → u ≡ v
  same_register {R} {v} {u} committed written =
      let rivals : (u ≡ v → ⊥) → Rivals W n R u v h =
      λ differ. record { lawful = lawful; committed = commit_lawful lawful committed; written = written; differ = differ } in
      elim (ℕ_discrete u v) [ yes same ↦ same | no differ ↦ absurd (no_rivals wide few (rivals differ)) ]

  -- What is written to the register of a commit or to a higher one is the value committed.
  pub agreed : {R v r u : ℕ} → Committed R v h → Written r u h → R ≤ r → u ≡ v
  agreed {R} {r} committed written above =
      let window = (commit_lawful lawful committed).window in
      elim (ℕ_discrete R r) [
        | yes same ↦ same_register committed (rw (← same) at written)
        | no other ↦ same_register committed (written_in (walked lawful written (omega arith) (omega arith)).written)
      ]

  -- Two commits have one value: that of the higher round is written there.
  pub agreed_commits : {R v R' v' : ℕ} → Committed R v h → Committed R' v' h → v ≡ v'
  agreed_commits {R} {R'} c c' =
      elim (dec_le R R') [
        | yes low ↦ sym (agreed c (commit_lawful lawful c').written low)
        | no high ↦ agreed c' (commit_lawful lawful c).written (omega arith)
      ]
