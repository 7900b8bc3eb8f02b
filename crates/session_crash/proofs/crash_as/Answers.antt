-- The answer of `crash_as`, by its first refusal, and by the record that it stores.
use Rattle.std.proofs.lemmas.Grind.{common_steps}
use Rattle.base.specs.Prelude.{refl, arith}
use Rattle.model_laws.specs.Types.{Crash}
use Rattle.model.specs.Board.{no_counts}
use Rattle.model.specs.Public.{crash_for_as}
use Rattle.model_laws.specs.Answers.{number_some, code_is, uncounted_refused, uncounted_accepted, index_of, crashed_is}
use Rattle.session_crash.proofs.crash_as.Goals as goal

pub returns-in_err-first_refusal : goal.returns-in_err-first_refusal
unfolding crash_for_as
returns-in_err-first_refusal c =
    let o = Crash c.args.p in
    let code = code_is _ _ no_counts o c.sound_as.ensures c.crash_refusal-own.ensures c.in_err-first_refusal.ensures in
    grind (arith, common_steps, uncounted_refused _ _ o code (number_some c.in_err-first_refusal.field-0.0))

pub returns : goal.returns
unfolding crash_for_as
returns c =
    let o = Crash c.args.p in
    let code = code_is _ _ no_counts o c.sound_as.ensures c.crash_refusal-own.ensures c.in_ok-first_refusal.ensures in
    uncounted_accepted _ _ o code refl (crashed_is _ _ _ (index_of _ _ no_counts o code refl) c.crashed.ensures)
