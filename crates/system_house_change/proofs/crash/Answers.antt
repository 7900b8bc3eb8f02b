-- By the first refusal, and by the record that the crash stores.
use Rattle.std.proofs.Common.{arith, refl}
use Rattle.std.proofs.lemmas.Grind.{common_steps}
use Rattle.model.specs.Board.{no_counts}
use Rattle.model_laws.specs.Answers.{number_some}
use Rattle.model_house.specs.Machine.{crashes}
use Rattle.model_house.specs.Public.{house_crash}
use Rattle.model_house_laws.specs.Accepted.{house_code_law, house_index, uncounted_refused, uncounted_left, crashed_is}
use Rattle.system_house_change.proofs.crash.Goals as goal

pub returns-in_err-first_refusal : goal.returns-in_err-first_refusal
unfolding house_crash
returns-in_err-first_refusal c =
    let h = c.args.h in
    let o = crashes c.args.p in
    let code =
    house_code_law h no_counts o c.sound.ensures c.phase_of-phase.ensures c.crash_refusal-own.ensures c.in_err-first_refusal.ensures in
    grind (arith, common_steps, uncounted_refused h o code (number_some c.in_err-first_refusal.field-0.0))

pub returns : goal.returns
unfolding house_crash
returns c =
    let h = c.args.h in
    let o = crashes c.args.p in
    let code =
    house_code_law h no_counts o c.sound.ensures c.phase_of-phase.ensures c.crash_refusal-own.ensures c.in_ok-first_refusal.ensures in
    uncounted_left h o code refl (crashed_is h c.args.p (house_index h no_counts o code refl) no_counts)
