-- The answer of `learn`, by its first refusal, and by the record and the counts that it leaves.
use Rattle.std.proofs.lemmas.Grind.{common_steps}
use Rattle.base.specs.Prelude.{false, refl, arith}
use Rattle.model_laws.specs.Types.{Learn}
use Rattle.model.specs.Public.{learn_for}
use Rattle.model.specs.Machine.{access_of, counts_after}
use Rattle.model.specs.Step.{counted}
use Rattle.model_laws.specs.Answers.{number_some, code_is, operate_refused, operate_accepted, index_of, learnt_is}
use Rattle.session_learn.proofs.learn.Goals as goal

pub returns-in_err-first_refusal : goal.returns-in_err-first_refusal
unfolding learn_for
returns-in_err-first_refusal c =
    let o = Learn c.args.p in
    let code = code_is false _ _ o c.sound.ensures c.learn_refusal-own.ensures c.in_err-first_refusal.ensures in
    grind (arith, common_steps, operate_refused false _ _ o code (number_some c.in_err-first_refusal.field-0.0))

pub returns : goal.returns
unfolding learn_for access_of counts_after counted
returns c =
    let o = Learn c.args.p in
    let code = code_is false _ _ o c.sound.ensures c.learn_refusal-own.ensures c.in_ok-first_refusal.ensures in
    operate_accepted false _ _ o code refl (learnt_is _ _ _ (index_of false _ _ o code refl) c.learnt.ensures) c.counted-counts.ensures
