-- The machine of houses (document 02, wish 11: "proposals, turns, hints, house looks and crashes"). It tests no house for soundness.
use Rattle.std.specs.Prelude.{ℕ, zero, suc, ◌-◌, Bool, false, cond, List, ◌∷◌, set, leb, eqb}
use Rattle.model.specs.declared.Phase.{Phase}
use Rattle.model.specs.declared.Phase.TheVariants as phase
use Rattle.model.specs.declared.Counts.{Counts}
use Rattle.model.specs.Numbers.{no_such_process}
use Rattle.model.specs.Refusal.{Test, refusal, propose_tests, step_tests, learn_tests, crash_tests}
use Rattle.model_house.specs.declared.Place.TheVariants.{ProposeWard}
use Rattle.model_house.specs.declared.Stance.{Stance}
use Rattle.model_house.specs.declared.Stance.TheVariants.{Idle, Working, Exhausted, Crashed, Decided}
use Rattle.model_house.specs.declared.Worker.{Worker}
use Rattle.model_house.specs.declared.House.{House}
use Rattle.model_house.specs.declared.View.{View}
use Rattle.model_house.specs.Answers.{HouseStepped}
use Rattle.model_house.specs.House.{worker, ward_of, worker_at, session_index, session_at, poll_at, seat_of, with_worker}
use Rattle.model_house.specs.Turn.{view, one_read, standing, turn_at}

-- 02's words are proposal, turn, house look and crash, of worker p.
pub data HouseOperation : Type 0 where
  proposes : (p v : ℕ) → HouseOperation
  turns : (p : ℕ) → (hint : Bool) → HouseOperation
  learns : (p : ℕ) → HouseOperation
  crashes : (p : ℕ) → HouseOperation

abbrev pub worker_of : HouseOperation → ℕ
worker_of (proposes p v) = p
worker_of (turns p hint) = p
worker_of (learns p) = p
worker_of (crashes p) = p

-- ---- refusals

-- "Seat refusals 4 to 9 and 16 keep their order": the tests are those of a session, by the phase that has a worker's stance there.
abbrev pub phase_of : Stance → Phase
phase_of Idle = phase.Idle
phase_of (Working x) = phase.Waiting
phase_of Exhausted = phase.Exhausted
phase_of Crashed = phase.Crashed
phase_of Decided = phase.Decided

-- Proposal 5, 6; turn 7, 8, 9, 16; house look 7, 8, 16; crash 7, 8. (A house is not closed, so that no proposal is refused with 18.)
abbrev pub worker_tests : Phase → Counts → HouseOperation → List Test
worker_tests φ c (proposes p v) = propose_tests false φ v
worker_tests φ c (turns p hint) = step_tests φ c
worker_tests φ c (learns p) = learn_tests φ c
worker_tests φ c (crashes p) = crash_tests φ

-- In front of them 4. (3 is in front of all in `Public`.)
abbrev pub house_tests : House → Counts → HouseOperation → List Test
house_tests h c o = (leb h.n (worker_of o), no_such_process) ∷ worker_tests (phase_of (worker_at h (worker_of o)).stance) c o

-- ---- a turn

-- What worker p can read and change, and the house with it as a turn leaves it.
unfoldable pub view_of : House → Counts → (p : ℕ) → View
view_of h c p =
    let q = worker_at h p in
    view (session_at h q.outer (ward_of h p)) (poll_at h q.outer) h.table h.decision q c

unfoldable pub with_view : House → (p : ℕ) → View → House
with_view h p v =
    let q = worker_at h p in
    record {
      n = h.n;
      c = h.c;
      wards = h.wards;
      workers = set h.workers p v.worker;
      sessions = set h.sessions (session_index q.outer (ward_of h p)) v.session;
      polls = set h.polls (q.outer - 1) v.poll;
      table = v.table;
      decision = v.decision;
    }

-- A worker that does not work takes no turn (7, 8, 9): nothing changes.
unfoldable pub turn_by : (p w s : ℕ) → (hint : Bool) → Stance → View → View
turn_by p w s hint Idle v = v
turn_by p w s hint (Working x) v = turn_at p w s hint x v
turn_by p w s hint Exhausted v = v
turn_by p w s hint Crashed v = v
turn_by p w s hint Decided v = v

unfoldable pub turned : House → Counts → (p : ℕ) → (hint : Bool) → View
turned h c p hint = turn_by p (ward_of h p) (seat_of h.wards p) hint (worker_at h p).stance (view_of h c p)

-- ---- the house and the counts after an accepted operation

-- "A house look at the house register .. ends it as decided if filled", with the number found.
abbrev pub house_learnt : Worker → (x : ℕ) → Worker
house_learnt q x = cond (eqb x 0) q (worker Decided q.outer x)

-- "A crash or house look changes no ward or poll seat"; nor does a proposal to the house.
unfoldable pub house_after : House → Counts → HouseOperation → House
house_after h c (proposes p v) = with_worker h p (worker (Working ProposeWard) 1 v)
house_after h c (turns p hint) = with_view h p (turned h c p hint)
house_after h c (learns p) = with_worker h p (house_learnt (worker_at h p) h.decision)
house_after h c (crashes p) = with_worker h p (standing Crashed (worker_at h p))

-- "One lent tally counts these and the house looks."
unfoldable pub house_counts : House → Counts → HouseOperation → Counts
house_counts h c (proposes p v) = c
house_counts h c (turns p hint) = (turned h c p hint).counts
house_counts h c (learns p) = one_read c
house_counts h c (crashes p) = c

-- ---- the machine

abbrev pub house_stepped : (code : ℕ) → (before after : House) → (counts counts' : Counts) → HouseStepped
house_stepped zero before after c c' = record { code = 0; house = after; counts = c' }
house_stepped (suc k) before after c c' = record { code = suc k; house = before; counts = c }

-- An operation that brings the counts c, after the given tests.
unfoldable pub house_answered : List Test → House → Counts → HouseOperation → HouseStepped
house_answered ts h c o = house_stepped (refusal ts) h (house_after h c o) c (house_counts h c o)

-- What the machine answers.
unfoldable pub house_perform : House → Counts → HouseOperation → HouseStepped
house_perform h c o = house_answered (house_tests h c o) h c o
