-- The answers of `turn_at`: each arm is told the place.
use Rattle.std.proofs.Common.{ℕ, Bool, ◌≡◌, refl, sym, ◌∙◌, ap}
use Rattle.model.specs.declared.Operation.TheVariants.{Propose, Step, Learn}
use Rattle.model.specs.Board.{process_at}
use Rattle.model_poll.specs.Machine.{proposes, turns}
use Rattle.model_house.specs.declared.Place.{Place}
use Rattle.model_house.specs.declared.Place.TheVariants.{StepWard, StepPoll}
use Rattle.model_house.specs.declared.Stance.TheVariants.{Working}
use Rattle.model_house.specs.declared.View.{View}
use Rattle.model_house.specs.Turn.{after_step, after_learn, after_poll, turn_at}
use Rattle.model_house_laws.specs.Views.{ward_left, poll_left, register_left}
use Rattle.system_house_view.proofs.turn_at.Goals as goal

-- By the place that the arm is told.
told : (p w s : ℕ) (hint : Bool) (v : View) {r : View} {place x : Place} → place ≡ x → r ≡ turn_at p w s hint x v →
    r ≡ turn_at p w s hint place v
told p w s hint v e er = er ∙ ap (λ x. turn_at p w s hint x v) (sym e)

-- ---- in the ward's session

pub returns-in-ProposeWard : goal.returns-in-ProposeWard
unfolding turn_at
returns-in-ProposeWard c =
    let a = c.args in
    told a.p a.w a.s a.hint a.v c.in-ProposeWard.is
    (ward_left a.v c.requires (Propose a.s a.v.worker.value) (λ b. Working StepWard) c.in_ward-b.ensures refl c.stands.ensures)

pub returns-in-StepWard : goal.returns-in-StepWard
unfolding turn_at
returns-in-StepWard c =
    let a = c.args in
    told a.p a.w a.s a.hint a.v c.in-StepWard.is
    (ward_left a.v c.requires (Step a.s a.hint) (λ b. after_step (process_at b.session a.s)) c.in_ward-b-in-StepWard.ensures
    (c.after_step.ensures ∙ ap after_step c.seat.ensures) c.stands-in-StepWard.ensures)

pub returns-in-LearnWard : goal.returns-in-LearnWard
unfolding turn_at
returns-in-LearnWard c =
    let a = c.args in
    told a.p a.w a.s a.hint a.v c.in-LearnWard.is
    (ward_left a.v c.requires (Learn a.s) (λ b. after_learn (process_at b.session a.s)) c.in_ward-b-in-LearnWard.ensures
    (c.after_learn.ensures ∙ ap after_learn c.seat-in-LearnWard.ensures) c.stands-in-LearnWard.ensures)

-- ---- in the poll

pub returns-in-ProposePoll : goal.returns-in-ProposePoll
unfolding turn_at
returns-in-ProposePoll c =
    let a = c.args in
    told a.p a.w a.s a.hint a.v c.in-ProposePoll.is
    (poll_left a.v c.requires (proposes a.p a.w) (λ b. Working StepPoll) c.propose_poll.ensures refl c.stands-in-ProposePoll.ensures)

pub returns-in-StepPoll : goal.returns-in-StepPoll
unfolding turn_at
returns-in-StepPoll c =
    let a = c.args in
    told a.p a.w a.s a.hint a.v c.in-StepPoll.is
    (poll_left a.v c.requires (turns a.p) (λ b. after_poll (process_at b.poll a.p)) c.step_poll-b.ensures
    (c.after_poll.ensures ∙ ap after_poll c.seat-in-StepPoll.ensures) c.stands-in-StepPoll.ensures)

-- ---- at the house's own registers

pub returns-in-WriteTable : goal.returns-in-WriteTable
returns-in-WriteTable c =
    let a = c.args in
    told a.p a.w a.s a.hint a.v c.in-WriteTable.is
    (register_left a.v c.requires (c.write_table.ensures a.p a.hint))

pub returns-in-ReadTable : goal.returns-in-ReadTable
returns-in-ReadTable c =
    let a = c.args in
    told a.p a.w a.s a.hint a.v c.in-ReadTable.is
    (register_left a.v c.requires (c.read_table.ensures a.w a.s a.hint))

pub returns-in-WriteHouse : goal.returns-in-WriteHouse
returns-in-WriteHouse c =
    let a = c.args in
    told a.p a.w a.s a.hint a.v c.in-WriteHouse.is
    (register_left a.v c.requires (c.write_house.ensures a.p a.w a.s a.hint))
