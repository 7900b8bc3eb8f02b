-- By the first refusal, and by the record that the look stores.
use Rattle.std.proofs.Common.{arith, refl}
use Rattle.std.proofs.lemmas.Grind.{common_steps}
use Rattle.model_laws.specs.Answers.{number_some}
use Rattle.model_house.specs.Machine.{learns}
use Rattle.model_house.specs.Public.{house_learn}
use Rattle.model_house_laws.specs.Accepted.{house_code_law, house_refused, house_known, house_index, house_left, learnt_is, learnt_counts}
use Rattle.system_house_change.proofs.learn.Goals as goal

pub returns-in_err-first_refusal : goal.returns-in_err-first_refusal
unfolding house_learn
returns-in_err-first_refusal c =
    let a = c.args in
    let o = learns a.p in
    let code = house_code_law a.h a.c o c.sound.ensures c.phase_of.ensures c.learn_refusal-own.ensures c.in_err-first_refusal.ensures in
    grind (arith, common_steps, house_refused a.h a.c o code (number_some c.in_err-first_refusal.field-0.0))

pub returns : goal.returns
unfolding house_learn
returns c =
    let a = c.args in
    let o = learns a.p in
    let code = house_code_law a.h a.c o c.sound.ensures c.phase_of.ensures c.learn_refusal-own.ensures c.in_ok-first_refusal.ensures in
    house_left a.h a.c o code refl (learnt_is a.h a.p (house_index a.h a.c o code refl) a.c c.learnt.ensures)
    (learnt_counts a.h a.c a.p (house_known a.h a.c o code refl) c.counted-counts.ensures)
