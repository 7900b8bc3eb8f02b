-- Document 02, wish 11: one turn of a worker, on what the turn can read and change, its `View`. "Each turn makes at most one register
-- operation, table and house register included, and one lent tally counts these."
use Rattle.std.specs.Prelude.{ℕ, ◌+◌, Bool, cond, eqb, ltb}
use Rattle.model.specs.declared.Access.TheVariants.{ReadDecision, WriteDecision}
use Rattle.model.specs.declared.Process.{Process}
use Rattle.model.specs.declared.Session.{Session}
use Rattle.model.specs.declared.Counts.{Counts}
use Rattle.model.specs.declared.Operation.{Operation}
use Rattle.model.specs.declared.Operation.TheVariants.{Propose, Step, Learn}
use Rattle.model.specs.Window.{window}
use Rattle.model.specs.Board.{process_at}
use Rattle.model.specs.Step.{counted}
use Rattle.model.specs.Refusal.{status, is_spent, is_decided}
use Rattle.model.specs.Machine.{perform}
use Rattle.model_poll.specs.declared.Answer.{Answer}
use Rattle.model_poll.specs.declared.Answer.TheVariants.{Pending, Commits, Adopts}
use Rattle.model_poll.specs.Turn.{answer_of, is_answered}
use Rattle.model_poll.specs.Machine.{PollOperation, proposes, turns, poll_perform}
use Rattle.model_house.specs.declared.Place.{Place}
use Rattle.model_house.specs.declared.Place.TheVariants.{ProposeWard, StepWard, LearnWard, WriteTable, ProposePoll, StepPoll}
use Rattle.model_house.specs.declared.Place.TheVariants.{ReadTable, WriteHouse}
use Rattle.model_house.specs.declared.Stance.{Stance}
use Rattle.model_house.specs.declared.Stance.TheVariants.{Working, Exhausted}
use Rattle.model_house.specs.declared.Worker.{Worker}
use Rattle.model_house.specs.declared.View.{View}
use Rattle.model_house.specs.House.{outer_rounds, worker, Table, table_at, with_entry}

-- ---- what a turn changes of its view

abbrev pub view : (session poll : Session) → Table → (decision : ℕ) → Worker → Counts → View
view s b t d q c = record { session = s; poll = b; table = t; decision = d; worker = q; counts = c }

-- An operation of the ward's session, and one of the poll: their own machines', at the window of their n.
abbrev pub in_ward : View → Operation → View
in_ward v o =
    let a = perform (window v.session.n) v.session v.counts o in
    view a.session v.poll v.table v.decision v.worker a.counts

abbrev pub in_poll : View → PollOperation → View
in_poll v o =
    let a = poll_perform (window v.poll.n) v.poll v.counts o in
    view v.session a.session v.table v.decision v.worker a.counts

-- One register read or write that is no session's or poll's: of the table, or of the house's decision register.
abbrev pub one_read : Counts → Counts
one_read c = counted ReadDecision 0 c

abbrev pub one_write : Counts → Counts
one_write c = counted WriteDecision 0 c

-- The worker's record with another stance, and the view with that record.
abbrev pub standing : Stance → Worker → Worker
standing a q = worker a q.outer q.value

abbrev pub stands : View → Stance → View
stands v a = view v.session v.poll v.table v.decision (standing a v.worker) v.counts

-- ---- the stance after it

-- "Works and looks until decided." A worker "becomes spent in the turn that .. makes its ward seat spent".
abbrev pub after_step : Process → Stance
after_step q = cond (is_spent (status q.phase)) Exhausted (Working LearnWard)

abbrev pub after_learn : Process → Stance
after_learn q = Working (cond (is_decided q.phase) WriteTable StepWard)

-- It polls until the poll answers it.
abbrev pub after_poll : Process → Stance
after_poll q = Working (cond (is_answered (answer_of q)) ReadTable StepPoll)

-- "Either way the next outer round follows"; "a worker becomes spent in the turn that ends outer round 8".
abbrev pub round_over : (outer value : ℕ) → Worker
round_over o v = cond (ltb o outer_rounds) (worker (Working ProposeWard) (o + 1) v) (worker Exhausted o v)

-- "Reads the table at the answer's ward and takes that value" ("a blank table entry leaves the value"); "committed, it then writes the
-- house's own decision register; either way the next outer round follows". u is the answer's ward.
abbrev pub taken : (entry value : ℕ) → ℕ
taken x v = cond (eqb x 0) v x

abbrev pub after_read : Table → Worker → Answer → Worker
after_read t q Pending = q
after_read t q (Commits u) = worker (Working WriteHouse) q.outer (taken (table_at t q.outer u) q.value)
after_read t q (Adopts u) = round_over q.outer (taken (table_at t q.outer u) q.value)

-- ---- the turn of worker p, of ward w, whose seat in its ward's session is s, at each place

unfoldable pub turn_at : (p w s : ℕ) → (hint : Bool) → Place → View → View
-- "A worker proposes its value to its ward's session": "the first turn of an outer round only proposes to the ward".
turn_at p w s hint ProposeWard v = stands (in_ward v (Propose s v.worker.value)) (Working StepWard)
-- "In a ward session a worker's turns alternate, work first, then a look at the ward's D".
turn_at p w s hint StepWard v = let b = in_ward v (Step s hint) in stands b (after_step (process_at b.session s))
turn_at p w s hint LearnWard v = let b = in_ward v (Learn s) in stands b (after_learn (process_at b.session s))
-- It "writes the decision to the table": the number that its ward seat holds.
turn_at p w s hint WriteTable v =
    let q = v.worker in
    let t = with_entry v.table q.outer w (process_at v.session s).estimate in
    view v.session v.poll t v.decision (standing (Working ProposePoll) q) (one_write v.counts)
-- It "polls with its ward number": "the turn after the table write only proposes to the poll".
turn_at p w s hint ProposePoll v = stands (in_poll v (proposes p w)) (Working StepPoll)
turn_at p w s hint StepPoll v = let b = in_poll v (turns p) in stands b (after_poll (process_at b.poll p))
-- It "reads the table at the answer's ward and takes that value".
turn_at p w s hint ReadTable v =
    let q = after_read v.table v.worker (answer_of (process_at v.poll p)) in
    view v.session v.poll v.table v.decision q (one_read v.counts)
-- "Committed, it then writes the house's own decision register": its value.
turn_at p w s hint WriteHouse v =
    let q = v.worker in
    view v.session v.poll v.table q.value (round_over q.outer q.value) (one_write v.counts)
