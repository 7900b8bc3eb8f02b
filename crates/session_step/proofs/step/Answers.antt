-- The answer of `step`, by its first refusal, and by the registers, the record and the counts that it leaves.
use Rattle.std.specs.Prelude.{◌≡◌}
use Rattle.std.proofs.lemmas.Grind.{common_steps}
use Rattle.base.specs.Prelude.{false, refl, ◌∙◌, ap, arith, cond}
use Rattle.model_laws.specs.Types.{Step}
use Rattle.model.specs.Window.{window}
use Rattle.model.specs.Step.{counted}
use Rattle.model.specs.Refusal.{full}
use Rattle.model.specs.Sound.{sound_as}
use Rattle.model.specs.Machine.{access_of}
use Rattle.model.specs.Public.{step_for}
use Rattle.model_laws.specs.Answers.{number_some, code_is, operate_refused, operate_accepted, index_of, known}
use Rattle.model_laws.specs.Operations.{access_in_arrays}
use Rattle.model_laws.specs.Registers.{counted_is, worked_is}
use Rattle.session_step.proofs.step.Goals as goal

pub returns : goal.returns
unfolding step_for access_of sound_as
returns c =
    let a = c.args in
    let o = Step a.p a.leader in
    let code = code_is false a.s a.c o c.sound.ensures c.step_refusal-own.ensures c.in_ok-first_refusal.ensures in
    let i = index_of false _ _ o code refl in
    let ranged = access_in_arrays _ _ o (known false _ _ o code refl).0 in
    let counts : c.counted-counts.result ≡ cond (full a.c) a.c (counted c.access-a.result c.mark-x.result a.c) = c.counted-counts.ensures in
    operate_accepted false _ _ o code refl
    (worked_is _ _ _ ranged i c.access-a.ensures c.value.ensures.reads c.mark-x.ensures.reads (window a.s.n)
    c.value.ensures.writes c.mark-x.ensures.writes c.decision.ensures (rw (← c.window-window.ensures) c.next.ensures))
    (counts
    ∙ ap (cond (full a.c) a.c)
    (counted_is a.s a.p a.leader ranged i c.access-a.ensures c.value.ensures.reads c.mark-x.ensures.reads a.c))

pub returns-in_err-first_refusal : goal.returns-in_err-first_refusal
unfolding step_for
returns-in_err-first_refusal c =
    let o = Step c.args.p c.args.leader in
    let code = code_is false _ _ o c.sound.ensures c.step_refusal-own.ensures c.in_err-first_refusal.ensures in
    grind (arith, common_steps, operate_refused false _ _ o code (number_some c.in_err-first_refusal.field-0.0))
