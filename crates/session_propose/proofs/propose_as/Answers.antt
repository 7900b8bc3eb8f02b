-- The answer of `propose_as`, by its first refusal, and by the record that it stores.
use Rattle.std.proofs.lemmas.Grind.{common_steps}
use Rattle.base.specs.Prelude.{refl, arith}
use Rattle.model_laws.specs.Types.{Propose}
use Rattle.model.specs.Board.{no_counts}
use Rattle.model.specs.Public.{propose_for_as}
use Rattle.model_laws.specs.Answers.{number_some, code_is, uncounted_refused, uncounted_accepted, index_of, proposed_is}
use Rattle.session_propose.proofs.propose_as.Goals as goal

pub returns-in_err-first_refusal : goal.returns-in_err-first_refusal
unfolding propose_for_as
returns-in_err-first_refusal c =
    let o = Propose c.args.p c.args.v in
    let code = code_is _ _ no_counts o c.sound_as.ensures c.propose_refusal-own.ensures c.in_err-first_refusal.ensures in
    grind (arith, common_steps, uncounted_refused _ _ o code (number_some c.in_err-first_refusal.field-0.0))

pub returns : goal.returns
unfolding propose_for_as
returns c =
    let o = Propose c.args.p c.args.v in
    let code = code_is _ _ no_counts o c.sound_as.ensures c.propose_refusal-own.ensures c.in_ok-first_refusal.ensures in
    uncounted_accepted _ _ o code refl (proposed_is _ _ _ _ (index_of _ _ no_counts o code refl) c.proposed.ensures)
