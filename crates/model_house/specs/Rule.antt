-- The rule of houses (document 02, wish 11): "Show for any order of proposals, turns, hints, house looks and crashes from an opening that
-- all workers decided by a house look hold one number, and that some worker proposed it to the house."
use Rattle.std.specs.Prelude.{ℕ, ◌≡◌, List, [], ◌∷◌}
use Rattle.model.specs.declared.Counts.{Counts}
use Rattle.model_rule.specs.Event.{Event, proposal, look_events, Past, Proposed, DecidedOn}
use Rattle.model_rule.specs.Event.Event.{decision}
use Rattle.model_rule.specs.System.{System, Call, Run, inputs, machine, past, EachAsTheMachine, AfterEach}
use Rattle.model_rule.specs.Calls.{Input}
use Rattle.model_house.specs.declared.Stance.TheVariants.{Decided}
use Rattle.model_house.specs.declared.House.{House}
use Rattle.model_house.specs.Answers.{HouseStepped}
use Rattle.model_house.specs.House.{worker_at, house_opening}
use Rattle.model_house.specs.Machine.{HouseOperation, proposes, turns, learns, crashes, house_perform}
use Rattle.model_house.specs.Public.{with_house_counts, house_propose, house_turn, house_learn, house_crash}

-- What an accepted operation adds to the house's past: a number is proposed to the house; a house look finds one, and decides its worker.
abbrev pub house_events : House → HouseOperation → List Event
house_events h (proposes p v) = proposal v ∷ []
house_events h (turns p hint) = []
house_events h (learns p) = look_events p h.decision
house_events h (crashes p) = []

-- Houses as a machine.
abbrev pub houses : System House (Input HouseOperation) HouseStepped Event
houses =
    record {
      perform = λ h f. house_perform h f.counts f.operation;
      state = λ a. a.house;
      code = λ a. a.code;
      accepted = λ h f. house_events h f.operation;
    }

-- One call. Its answer has the counts as they stand afterwards.
abbrev pub HouseCall : Type 0
HouseCall = Call (Input HouseOperation) HouseStepped

-- What the contract of the called function says, given house h: `system_house_change::propose`, `system_house_lent::turn`,
-- `system_house_lent::learn`, `system_house_change::crash` (`theory_functions`). (A proposal and a crash are lent no counts: theirs are
-- any, and stand as they stood.)
abbrev pub house_promised : House → Counts → HouseOperation → HouseStepped
house_promised h c (proposes p v) = with_house_counts (house_propose h p v) c
house_promised h c (turns p hint) = house_turn h p hint c
house_promised h c (learns p) = house_learn h p c
house_promised h c (crashes p) = with_house_counts (house_crash h p) c

-- A list of calls: each is given the house that the one before left.
abbrev pub HouseRun : House → List HouseCall → House → Type 0
HouseRun = Run (λ (a : HouseStepped). a.house) (λ (h : House) (f : Input HouseOperation). house_promised h f.counts f.operation)

-- The worker's record says that it is decided and holds v.
abbrev pub HouseHolds : House → (p v : ℕ) → Type 0
HouseHolds h p v = ((worker_at h p).stance ≡ Decided) × ((worker_at h p).value ≡ v)

-- What holds of a house h and the past x of the machine that came to it.
pub record HouseRule (h : House) (x : List Event) : Type 0 where
  -- a worker whose accepted house look found v is decided and holds v, and the other way round
  pub holds : (p v : ℕ) → DecidedOn p v x → HouseHolds h p v
  pub looked : (p v : ℕ) → HouseHolds h p v → DecidedOn p v x
  -- "all workers decided by a house look hold one number"
  pub agreement : (p q u v : ℕ) → DecidedOn p u x → DecidedOn q v x → u ≡ v
  -- "some worker proposed it to the house", by an accepted call before the look
  pub validity : (p v : ℕ) (before : List Event) → Past (decision p v ∷ before) x → Proposed v before

-- The claim: of every list of calls from an accepted opening each call is answered as the machine answers, and not with 3, and after each
-- the rule holds. (`System` has the words of 01's agreement rule that are the same here.)
abbrev pub HouseClaim : Type 0
HouseClaim =
    (c : ℕ) (wards : List ℕ)
    → let start = house_opening c wards in
    start.code ≡ 0
    → (cs : List HouseCall) (h : House)
    → HouseRun start.house cs h
    → EachAsTheMachine houses start.house cs
    × (h ≡ machine houses start.house (inputs cs))
    × AfterEach houses (λ g ds. HouseRule g (past houses start.house (inputs ds))) start.house cs
