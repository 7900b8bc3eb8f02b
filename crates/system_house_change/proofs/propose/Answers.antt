-- By the first refusal, and by the record that the proposal stores.
use Rattle.std.proofs.Common.{arith, refl}
use Rattle.std.proofs.lemmas.Grind.{common_steps}
use Rattle.model.specs.Board.{no_counts}
use Rattle.model_laws.specs.Answers.{number_some}
use Rattle.model_house.specs.Machine.{proposes}
use Rattle.model_house.specs.Public.{house_propose}
use Rattle.model_house_laws.specs.Accepted.{house_code_law, house_index, uncounted_refused, uncounted_left, proposed_is}
use Rattle.system_house_change.proofs.propose.Goals as goal

pub returns-in_err-first_refusal : goal.returns-in_err-first_refusal
unfolding house_propose
returns-in_err-first_refusal c =
    let h = c.args.h in
    let o = proposes c.args.p c.args.v in
    let code =
    house_code_law h no_counts o c.sound.ensures c.phase_of-phase.ensures c.propose_refusal-own.ensures c.in_err-first_refusal.ensures in
    grind (arith, common_steps, uncounted_refused h o code (number_some c.in_err-first_refusal.field-0.0))

pub returns : goal.returns
unfolding house_propose
returns c =
    let h = c.args.h in
    let o = proposes c.args.p c.args.v in
    let code =
    house_code_law h no_counts o c.sound.ensures c.phase_of-phase.ensures c.propose_refusal-own.ensures c.in_ok-first_refusal.ensures in
    uncounted_left h o code refl (proposed_is h c.args.p (house_index h no_counts o code refl) no_counts c.args.v)
