-- What an operation of any house counts and leaves, sound or not.
use Rattle.std.specs.Prelude.{◌+◌, ◌≤◌, ◌≡◌}
use Rattle.base.specs.Prelude.{ℕ, suc, zero, arith, refl, Bool, List}
use Rattle.model_laws.specs.Types.{Access, Nothing, ReadValue, WriteValue, ReadMark, SetMark, ReadDecision, WriteDecision, Session, Counts}
use Rattle.model_laws.specs.Types.{Operation}
use Rattle.model.specs.Board.{no_counts}
use Rattle.model.specs.Step.{counted}
use Rattle.model.specs.Refusal.{Test, refusal, tests, stepped}
use Rattle.model.specs.Machine.{counts_after, answered, perform}
use Rattle.model_poll.specs.Machine as poll
use Rattle.model_poll.specs.Machine.{PollOperation, turn_tests, turn_counts, poll_perform}
use Rattle.model_house.specs.House.{ward_of, worker_at, seat_of}
use Rattle.model_house.specs.Turn.{turn_at}
use Rattle.model_house.specs.Machine.{HouseOperation, proposes, turns, learns, crashes, view_of, turn_by, turned, house_after, house_counts}
use Rattle.model_house.specs.Machine.{house_stepped, house_answered}
use Rattle.model_house.specs.Public.{house_operate, house_propose, house_learn, house_crash}
use Rattle.theory_house.specs.Types.{Place, ProposeWard, StepWard, LearnWard, WriteTable, ProposePoll, StepPoll, ReadTable}
use Rattle.theory_house.specs.Types.{WriteHouse, Stance, Idle, Working, Exhausted, Crashed, Decided, House, View}

-- ---- "each turn makes at most one register operation, table and house register included"

-- Register operations, counted.
abbrev pub operations : Counts → ℕ
operations c = c.reads + c.writes

abbrev OneMore : (c d : Counts) → Type 0
OneMore c d = operations d ≤ operations c + 1

counted_once : (a : Access) (x : ℕ) (c : Counts) → OneMore c (counted a x c)
unfolding counted
counted_once Nothing x c = omega arith
counted_once (ReadValue r) x c = omega arith
counted_once (WriteValue r) x c = omega arith
counted_once (ReadMark r) x c = omega arith
counted_once (SetMark r) x c = omega arith
counted_once ReadDecision x c = omega arith
counted_once WriteDecision x c = omega arith

stepped_once : (k : ℕ) (s t : Session) (c d : Counts) → OneMore c d → OneMore c (stepped k s t c d).counts
stepped_once zero s t c d one = one
stepped_once (suc k) s t c d one = omega arith

module _ (W : ℕ) (s : Session) (c : Counts) where
  ward_once : (o : Operation) → OneMore c (perform W s c o).counts
  unfolding perform answered counts_after
  ward_once o = stepped_once (refusal (tests s c o)) s _ c _ (counted_once _ _ c)

  poll_once : (o : PollOperation) → OneMore c (poll_perform W s c o).counts
  unfolding poll_perform poll.turned turn_counts
  poll_once (poll.proposes p v) = ward_once _
  poll_once (poll.turns p) = stepped_once (refusal (turn_tests s c p)) s _ c _ (counted_once _ _ c)
  poll_once (poll.crashes p) = ward_once _

turn_once : (p w s : ℕ) (hint : Bool) (y : Place) (v : View) → OneMore v.counts (turn_at p w s hint y v).counts
unfolding turn_at
turn_once p w s hint ProposeWard v = ward_once _ _ _ _
turn_once p w s hint StepWard v = ward_once _ _ _ _
turn_once p w s hint LearnWard v = ward_once _ _ _ _
turn_once p w s hint WriteTable v = counted_once WriteDecision 0 v.counts
turn_once p w s hint ProposePoll v = poll_once _ _ _ _
turn_once p w s hint StepPoll v = poll_once _ _ _ _
turn_once p w s hint ReadTable v = counted_once ReadDecision 0 v.counts
turn_once p w s hint WriteHouse v = counted_once WriteDecision 0 v.counts

-- "One lent tally counts these and the house looks": a turn at most one, a house look one; a proposal and a crash none.
abbrev pub Counted : HouseOperation → (c d : Counts) → Type 0
Counted (proposes p v) c d = d ≡ c
Counted (turns p hint) c d = OneMore c d
Counted (learns p) c d = operations d ≡ operations c + 1
Counted (crashes p) c d = d ≡ c

pub one_operation : (h : House) (c : Counts) (o : HouseOperation) → Counted o c (house_counts h c o)
unfolding house_counts turned turn_by view_of counted
one_operation h c (proposes p v) = refl
one_operation h c (turns p hint) = by (worker_at h p).stance
  where
    by : (x : Stance) → OneMore c (turn_by p (ward_of h p) (seat_of h.wards p) hint x (view_of h c p)).counts
    by Idle = omega arith
    by (Working y) = turn_once _ _ _ hint y _
    by Exhausted = omega arith
    by Crashed = omega arith
    by Decided = omega arith
one_operation h c (learns p) = omega arith
one_operation h c (crashes p) = refl

-- ---- "a crash or house look changes no ward or poll seat"

abbrev pub SameBoards : House → House → Type 0
SameBoards g h = (g.sessions ≡ h.sessions) × (g.polls ≡ h.polls)

answered_boards : (ts : List Test) (h : House) (c : Counts) (o : HouseOperation) → SameBoards (house_after h c o) h →
    SameBoards (house_answered ts h c o).house h
unfolding house_answered
answered_boards ts h c o same = by (refusal ts)
  where
    by : (k : ℕ) → SameBoards (house_stepped k h (house_after h c o) c (house_counts h c o)).house h
    by zero = same
    by (suc k) = (refl, refl)

-- Nor does a proposal to the house; accepted or refused.
pub boards_stay : (h : House) (p : ℕ) →
    ((v : ℕ) → SameBoards (house_propose h p v).house h)
    × ((c : Counts) → SameBoards (house_learn h p c).house h)
    × SameBoards (house_crash h p).house h
unfolding house_propose house_learn house_crash house_operate house_after
boards_stay h p = (
  λ v. answered_boards _ h no_counts (proposes p v) (refl, refl),
  λ c. answered_boards _ h c (learns p) (refl, refl),
  answered_boards _ h no_counts (crashes p) (refl, refl),
)
