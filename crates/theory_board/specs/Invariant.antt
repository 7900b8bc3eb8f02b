-- The invariant of a session and its past, and the one lemma by which every operation keeps it. Nothing here says that the session is
-- sound: that stands beside it (`perform_sound`).
use Rattle.std.specs.Prelude.{◌<◌, ◌≡◌, ◌++◌}
use Rattle.base.specs.Prelude.{ℕ, arith, ℕ_discrete, List, length-set, get_or-set_same, get_or-set_other}
use Rattle.model_laws.specs.Types.{Access, Process, Session}
use Rattle.model.specs.Board.{process_at, with_closed, idle}
use Rattle.model.specs.Step.{found, stored, turn}
use Rattle.model_laws.specs.Operations.{stored_same}
use Rattle.model_rule.specs.Event.{Event}
use Rattle.theory_board.specs.Lawful.{Lawful}
use Rattle.theory_board.specs.Place.{Stands}
use Rattle.theory_board.specs.Stays.{SpareAll, stands_events}
use Rattle.theory_board.specs.Matches.{Matches, Long}

-- The arrays are long enough; the past is lawful; each process stands where its phase tells; the registers are those of the past.
pub record Invariant (W : ℕ) (s : Session) (h : List Event) : Type 0 where
  pub long : Long s
  pub lawful : Lawful W s.n h
  pub stands : (p : ℕ) → Stands W p (process_at s p) h
  pub matches : Matches s h

-- A turn of process p, whatever it accesses and becomes: the registers that the access leaves are those of the past with the events, which
-- are lawful and of no other process, and the process stands where it should.
pub turn_invariant : {W : ℕ} {s : Session} {h : List Event} → Invariant W s h →
    (p : ℕ) (a : Access) (becomes : ℕ → Process) (es : List Event) →
    p < s.n →
    Long (stored s a (process_at s p).estimate) × Matches (stored s a (process_at s p).estimate) (es ++ h) →
    Lawful W s.n (es ++ h) →
    ((o : ℕ) → (o ≡ p → ⊥) → SpareAll o es) →
    Stands W p (becomes (found s a)) (es ++ h) →
    Invariant W (turn s p a becomes) (es ++ h)
unfolding turn
turn_invariant {W} {s} i p a becomes es low board lawful others mine =
    let same = stored_same s a (process_at s p).estimate in
    let long = board.0 in
    let matches = board.1 in
    record {
      long = record { values = long.values; marks = long.marks; processes = simp length-set long.processes };
      lawful = rw same.n lawful;
      stands =
          λ o.
          rw same.processes
          (elim (ℕ_discrete o p) [
            | yes e ↦ rw (e, get_or-set_same s.processes p _ idle (omega (arith, i.long.processes))) mine
            | no ne ↦ rw (get_or-set_other s.processes p o _ idle ne) (stands_events es (others o ne) (i.stands o))
          ]);
      matches = record { values = matches.values; marks = matches.marks; decision = matches.decision };
    }

-- The closed mark bears on nothing of it.
pub closed_invariant : {W : ℕ} {s : Session} {h : List Event} → Invariant W s h → Invariant W (with_closed s) h
closed_invariant i =
    let long = i.long in
    let matches = i.matches in
    record {
      long = record { values = long.values; marks = long.marks; processes = long.processes };
      lawful = i.lawful;
      stands = i.stands;
      matches = record { values = matches.values; marks = matches.marks; decision = matches.decision };
    }
