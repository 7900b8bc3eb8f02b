-- The answer of `turn`, by its first refusal, and by the registers, the record, the counts and the answer that it leaves.
use Rattle.std.specs.Prelude.{◌≡◌, ◌<◌}
use Rattle.std.proofs.lemmas.Grind.{common_steps}
use Rattle.base.specs.Prelude.{refl, ◌∙◌, ap, true, cond, arith, rules, length}
use Rattle.base.specs.Arrays.{length_mapped}
use Rattle.model.specs.Window.{window}
use Rattle.model.specs.Step.{counted}
use Rattle.model.specs.Refusal.{full, learn_tests}
use Rattle.model.specs.Sound.{sound_as}
use Rattle.model_laws.specs.Sounds.{sound_few, sound_low}
use Rattle.model_laws.specs.Answers.{number_some, first_is}
use Rattle.model_poll_laws.specs.Sounds.{poll_process, poll_access_range}
use Rattle.model_poll_laws.specs.Answers.{turn_refused, turn_known, turn_index, turn_left}
use Rattle.poll_turn.specs.Turned.{turned_counts, turned_poll, turned_answer}
use Rattle.poll_turn.proofs.turn.Goals as goal

pub returns : goal.returns
unfolding sound_as
returns c =
    let a = c.args in
    let s = a.s in
    let code =
    first_is true s a.p (λ φ. learn_tests φ a.c) c.sound_as.ensures c.learn_refusal-own.ensures c.in_ok-first_refusal.ensures in
    let known = turn_known s a.c a.p code refl in
    let i = turn_index s a.c a.p code refl in
    let counts : c.counted.result ≡ cond (full a.c) a.c (counted c.access-a.result c.mark-x.result a.c) = c.counted.ensures in
    let ranged =
    poll_access_range (window s.n) s.limit _ _ (sound_low true s known.0)
    (poll_process (window s.n) s known.0 a.p known.1.here) in
    let long : length s.processes ≡ 64 = search (rules, length_mapped) in
    let below : a.p < length s.processes = omega (arith, long, sound_few true s known.0, known.1.below) in
    turn_left s a.c a.p code refl
    (turned_poll s a.p ranged i c.access-a.ensures c.value.ensures.reads c.mark-x.ensures.reads (window s.n)
    c.value.ensures.writes c.mark-x.ensures.writes (rw (← c.window-window.ensures) c.next-left.ensures))
    (counts
    ∙ ap (cond (full a.c) a.c)
    (turned_counts s a.p ranged i c.access-a.ensures c.value.ensures.reads c.mark-x.ensures.reads a.c))
    (turned_answer s.processes _ a.p _ i below c.answer-answer.ensures)

pub returns-in_err-first_refusal : goal.returns-in_err-first_refusal
returns-in_err-first_refusal c =
    let a = c.args in
    let code =
    first_is true a.s a.p (λ φ. learn_tests φ a.c) c.sound_as.ensures c.learn_refusal-own.ensures c.in_err-first_refusal.ensures in
    grind (arith, common_steps, turn_refused a.s a.c a.p code (number_some c.in_err-first_refusal.field-0.0))
