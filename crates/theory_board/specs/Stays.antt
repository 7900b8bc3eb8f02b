-- What a place tells stays true while the past grows by events of other processes.
use Rattle.std.specs.Prelude.{◌≡◌, ◌∷◌, ◌++◌}
use Rattle.base.specs.Prelude.{ℕ, suc, refl, List, [], ⊎_elim, arith}
use Rattle.model_laws.specs.Types.{Phase, Idle, Waiting, Write, Scan, Adopt, Compare, Flag, CheckMark, CheckValue, Commit, Exhausted}
use Rattle.model_laws.specs.Types.{Crashed, Decided, HasCommitted, HasAdopted, Process}
use Rattle.model_rule.specs.Event.{Event, proposal, write, flag, commit, decision}
use Rattle.model_rule.specs.Event.Past.{here, there}
use Rattle.theory_board.specs.Lawful.{Unflagged}
use Rattle.theory_board.specs.Past.{happened_past, NoWrite, compared_event, passed_event, happened_cases, in_cases}
use Rattle.theory_board.specs.Registers.{top_event, wrote_round}
use Rattle.theory_board.specs.Place.{Walked, Placed, Stands}

-- What was walked stays so: a round that was reached is the highest one only if it was so before.
pub walked_event : {x : Event} {h : List Event} {m p r v : ℕ} → NoWrite p x → Walked m p r v h → Walked m p r v (x ∷ h)
walked_event {x} {h} none a =
    record {
      written = (a.written.0, happened_past (there here) a.written.1);
      compared = λ e j b c d. compared_event none (a.compared (omega (arith, wrote_round a.written.1, top_event x h)) j b c d);
    }

-- An event keeps what the checks tell of m rounds up to r: a later flag is of no lower epoch than a round that was reached.
checked_event : {W p r v : ℕ} (m : ℕ) {x : Event} {h : List Event} → NoWrite p x →
    Walked W p r v h × Unflagged m r h → Walked W p r v (x ∷ h) × Unflagged m r (x ∷ h)
checked_event m none a = (
  walked_event none a.0,
  λ j e b c f. ⊎_elim (λ s. omega (arith, s.1, wrote_round a.0.written.1)) (a.1 j e b c) (in_cases f),
)

-- An event that is no write and no decision of process o.
abbrev pub Spares : (o : ℕ) → Event → Type 0
Spares o (proposal v) = Unit {0}
Spares o (write p r v) = o ≡ p → ⊥
Spares o (flag j) = Unit {0}
Spares o (commit r v) = Unit {0}
Spares o (decision p v) = o ≡ p → ⊥

abbrev pub SpareAll : (o : ℕ) → List Event → Type 0
SpareAll o [] = Unit {0}
SpareAll o (x ∷ es) = Spares o x × SpareAll o es

spares_write : (p : ℕ) (x : Event) → Spares p x → NoWrite p x
spares_write p x n r w e = (rw e at n) refl

-- Such an event keeps what the phase of the process tells.
placed_event : (W p r v : ℕ) (φ : Phase) (x : Event) (h : List Event) →
    Spares p x → Placed W p r v φ h → Placed W p r v φ (x ∷ h)
placed_event W p r v Idle x h n a = tt
placed_event W p r v Waiting x h n a = λ b. walked_event (spares_write p x n) (a b)
placed_event W p r v Write x h n a = (
  omega (arith, top_event x h),
  λ r' v' e' w. ⊎_elim (λ c. absurd ((rw c.0 at n) refl)) (a.1 r' v' e') (in_cases w),
  λ i e b. passed_event (spares_write p x n) (a.2 i e b),
)
placed_event W p r v (Scan k) x h n a = omega (arith, top_event x h)
placed_event W p r v (Adopt k) x h n a = omega (arith, top_event x h)
placed_event W p r v (Compare i) x h n a = walked_event (spares_write p x n) a
placed_event W p r v (Flag i) x h n a = walked_event (spares_write p x n) a
placed_event W p r v (CheckMark i) x h n a = checked_event i (spares_write p x n) a
placed_event W p r v (CheckValue i) x h n a = checked_event (suc i) (spares_write p x n) a
placed_event W p r v Commit x h n a = checked_event W (spares_write p x n) a
placed_event W p r v Exhausted x h n a = tt
placed_event W p r v Crashed x h n a = tt
placed_event W p r v Decided x h n a = happened_past (there here) a
placed_event W p r v HasCommitted x h n a = happened_past (there here) a
placed_event W p r v HasAdopted x h n a = (a.0, happened_past (there here) a.1)

-- Events of others keep where a process stands.
pub stands_events : {W o : ℕ} {q : Process} (es : List Event) {h : List Event} → SpareAll o es → Stands W o q h → Stands W o q (es ++ h)
stands_events [] n a = a
stands_events {W} {o} {q} (x ∷ es) {h} n a =
    let b = stands_events es n.1 a in
    record {
      placed =
          λ i.
          let c = b.placed i in
          (happened_past (there here) c.0, placed_event W o q.round q.estimate q.phase x (es ++ h) n.0 c.1);
      decided = λ v d. ⊎_elim (λ e. absurd ((rw e at n.0) refl)) (b.decided v) (happened_cases d);
    }
