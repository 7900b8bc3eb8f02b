-- How a case of a house is played, and what it is said to show.
use Rattle.std.specs.Prelude.{ℕ, Bool, ◌&&◌, List, eqb, set}
use Rattle.model.specs.declared.Session.{Session}
use Rattle.model.specs.declared.Counts.{Counts}
use Rattle.model.specs.Board.{process_at}
use Rattle.model.specs.Sound.{every}
use Rattle.model_cases.specs.Play.{played_all}
use Rattle.model_house.specs.declared.Place.TheVariants.{ProposeWard, StepWard, LearnWard, WriteTable, ProposePoll, StepPoll}
use Rattle.model_house.specs.declared.Place.TheVariants.{ReadTable, WriteHouse}
use Rattle.model_house.specs.declared.Stance.{Stance}
use Rattle.model_house.specs.declared.Stance.TheVariants.{Idle, Working, Exhausted, Crashed, Decided}
use Rattle.model_house.specs.declared.Worker.{Worker}
use Rattle.model_house.specs.declared.House.{House}
use Rattle.model_house.specs.Answers.{HouseStepped}
use Rattle.model_house.specs.House.{Table, worker_at, session_at, poll_at, table_at, with_entry, with_worker, house_opening}
use Rattle.model_house.specs.Machine.{HouseOperation, house_perform}
use Rattle.model_house.specs.Public.{house_operate}
use Rattle.model_house.specs.Sound.{sound_house}

-- ---- a house that is changed by hand, as no operation changes it

-- Another n; another c; another ward of worker p; another record of it; another session of index i, or poll; another table entry; another
-- decision.
pub data Change : Type 0 where
  set_n : ℕ → Change
  set_c : ℕ → Change
  set_ward : (p w : ℕ) → Change
  set_worker : (p : ℕ) → Worker → Change
  set_session : (i : ℕ) → Session → Change
  set_poll : (i : ℕ) → Session → Change
  set_entry : (o w v : ℕ) → Change
  set_decision : ℕ → Change

house : (n c : ℕ) → List ℕ → List Worker → List Session → List Session → Table → ℕ → House
house n c ws qs ss ps t d =
    record { n = n; c = c; wards = ws; workers = qs; sessions = ss; polls = ps; table = t; decision = d }

changed : House → Change → House
unfolding house
changed h (set_n k) = house k h.c h.wards h.workers h.sessions h.polls h.table h.decision
changed h (set_c k) = house h.n k h.wards h.workers h.sessions h.polls h.table h.decision
changed h (set_ward p w) = house h.n h.c (set h.wards p w) h.workers h.sessions h.polls h.table h.decision
changed h (set_worker p q) = with_worker h p q
changed h (set_session i s) = house h.n h.c h.wards h.workers (set h.sessions i s) h.polls h.table h.decision
changed h (set_poll i s) = house h.n h.c h.wards h.workers h.sessions (set h.polls i s) h.table h.decision
changed h (set_entry o w v) = house h.n h.c h.wards h.workers h.sessions h.polls (with_entry h.table o w v) h.decision
changed h (set_decision v) = house h.n h.c h.wards h.workers h.sessions h.polls h.table v

-- ---- a case

-- The number, the house and the counts after one operation: the machine's, and the public operation's.
played : HouseStepped → HouseOperation → HouseStepped
played t o = house_perform t.house t.counts o

called : HouseStepped → HouseOperation → HouseStepped
called t o = house_operate t.house t.counts o

altered : HouseStepped → Change → HouseStepped
unfolding changed
altered t x = record { code = t.code; house = changed t.house x; counts = t.counts }

-- What a case says of the state after it: the last number; the house's decision register; a table entry; a worker's record; the number that
-- a seat of a session or of a poll holds; the counts; that the house is sound.
pub data Shows : Type 0 where
  answers : (code : ℕ) → Shows
  decides : (v : ℕ) → Shows
  entry : (o w v : ℕ) → Shows
  stands : (p : ℕ) → Stance → (outer value : ℕ) → Shows
  ward_seat : (o w s v : ℕ) → Shows
  poll_seat : (o s v : ℕ) → Shows
  counts : (reads writes contested : ℕ) → Shows
  sound : Shows

number : Stance → ℕ
number Idle = 0
number (Working ProposeWard) = 1
number (Working StepWard) = 2
number (Working LearnWard) = 3
number (Working WriteTable) = 4
number (Working ProposePoll) = 5
number (Working StepPoll) = 6
number (Working ReadTable) = 7
number (Working WriteHouse) = 8
number Exhausted = 9
number Crashed = 10
number Decided = 11

shown : HouseStepped → Shows → Bool
unfolding number
shown t (answers k) = eqb t.code k
shown t (decides v) = eqb t.house.decision v
shown t (entry o w v) = eqb (table_at t.house.table o w) v
shown t (stands p a o v) =
    let q = worker_at t.house p in
    eqb (number q.stance) (number a) && eqb q.outer o && eqb q.value v
shown t (ward_seat o w s v) = eqb (process_at (session_at t.house o w) s).estimate v
shown t (poll_seat o s v) = eqb (process_at (poll_at t.house o) s).estimate v
shown t (counts a b d) = eqb t.counts.reads a && eqb t.counts.writes b && eqb t.counts.contested d
shown t sound = sound_house t.house

-- A row of the table: the opening, the counts lent, operations of the machine; then changes by hand and calls of the public operations; and
-- what the state after them shows.
pub record HouseCase : Type 0 where
  pub c : ℕ
  pub wards : List ℕ
  pub lent : Counts
  pub operations : List HouseOperation
  pub changes : List Change
  pub calls : List HouseOperation
  pub shows : List Shows

play : HouseCase → HouseStepped
unfolding played called altered
play x =
    let a = house_opening x.c x.wards in
    let t = played_all played (record { code = a.code; house = a.house; counts = x.lent }) x.operations in
    played_all called (played_all altered t x.changes) x.calls

unfoldable pub holds : HouseCase → Bool
unfolding play shown
holds x = let t = play x in every (shown t) x.shows
