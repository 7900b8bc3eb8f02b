-- The places that no step leads to: after a proposal, a crash, and a look at the decision register.
use Rattle.std.specs.Prelude.{◌≡◌, ◌∷◌, ◌++◌}
use Rattle.base.specs.Prelude.{ℕ, zero, suc, refl, false, List, ⊎_elim, ne_eqb, arith}
use Rattle.model_laws.specs.Types.{Waiting, Crashed, Decided, Process}
use Rattle.model.specs.Step.{process, learnt}
use Rattle.model.specs.Refusal.{status, is_outside}
use Rattle.model_rule.specs.Event.{Event, proposal, look_events, DecidedOn}
use Rattle.model_rule.specs.Event.Past.{here, there}
use Rattle.theory_board.specs.Past.{past_before, happened_past, happened_cases, happened_older}
use Rattle.theory_board.specs.Lawful.{Lawful, also, IsCommitted, lawful_at, commit_lawful}
use Rattle.theory_board.specs.Place.{Stands}
use Rattle.theory_board.specs.Stays.{SpareAll}

-- A decided value was committed.
pub decided_committed : {W n p v : ℕ} {h : List Event} → Lawful W n h → DecidedOn p v h → IsCommitted v h
decided_committed l d = let c = lawful_at l d.past in (c.0, happened_past (past_before d.past) c.1)

module _ {W p : ℕ} {q : Process} {h : List Event} (not : q.phase ≡ Decided → ⊥) (a : Stands W p q h) where
  -- A process that proposed waits in round 0.
  pub proposal_stands : (v : ℕ) → q.round ≡ 0 → Stands W p (process Waiting q.round v) (proposal v ∷ h)
  proposal_stands v start =
      record {
        placed = λ i. (record { before = h; past = here }, λ b. absurd (omega arith));
        decided = λ u d. absurd (not (a.decided u (happened_older (λ e. let z : ◌≡◌ {A = ℕ} 0 1 = cc in omega arith) d)).0);
      }

  -- A process that crashes keeps its estimate.
  pub crash_stands : is_outside (status q.phase) ≡ false → Stands W p (process Crashed q.round q.estimate) h
  crash_stands inside = record { placed = λ i. ((a.placed inside).0, tt); decided = λ u d. absurd (not (a.decided u d).0) }

  -- A process that finds x in the decision register is decided, unless x is blank. Its decision is lawful where x was committed.
  pub learnt_stands : {n : ℕ} → Lawful W n h → (x : ℕ) → ((x ≡ 0 → ⊥) → IsCommitted x h) →
      Lawful W n (look_events p x ++ h)
      × ((o : ℕ) → (o ≡ p → ⊥) → SpareAll o (look_events p x))
      × Stands W p (learnt q x) (look_events p x ++ h)
  unfolding learnt
  learnt_stands l zero c = (l, λ o other. tt, a)
  learnt_stands l (suc v) c =
      let committed = c (λ e. omega arith) in (
        also l committed,
        λ o other. (other, tt),
        rw (ne_eqb (suc v) 0 (λ e. omega arith))
            (record {
              placed = λ i. (happened_past (there here) (commit_lawful l committed.1).proposed, record { before = h; past = here });
              decided = λ u d. (refl, ⊎_elim (λ e. cc) (λ f. absurd (not (a.decided u f).0)) (happened_cases d));
            }),
      )
