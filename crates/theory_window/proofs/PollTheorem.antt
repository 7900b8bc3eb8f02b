-- Windows that are too short for polls (document 02, wish 7), and which windows are safe for how many processes.
use Rattle.std.specs.Prelude.{◌+◌, ◌-◌, ◌≤◌, ◌≡◌}
use Rattle.base.specs.Prelude.{ℕ, arith, lt_of_not-le, add-zero, refl, sym, ◌∙◌, ap, ap₂, List, [], true}
use Rattle.base.specs.Bools.{and_left, and_right}
use Rattle.model_laws.specs.Types.{Limits, Session}
use Rattle.model.specs.Board.{opened, process_at}
use Rattle.model_laws.specs.Operations.{opening_accepted}
use Rattle.model_rule.specs.Safe.{threshold, ExactPollWindows}
use Rattle.model_poll.specs.declared.Answer.TheVariants.{Commits, Adopts}
use Rattle.model_poll.specs.Turn.{answer_of, Carries}
use Rattle.model_poll.specs.Machine.{PollOperation, poll_opening_for}
use Rattle.model_rule.specs.System.{machine}
use Rattle.model_rule.specs.PollCalls.{polls, PollRunWith}
use Rattle.model_rule.specs.PollRule.{PollRule, PollClaimWithin}
use Rattle.model_rule_cases.specs.Play.{fed_by, played, played_machine, Called, called, at_the_end}
use Rattle.model_rule_cases.specs.PollRefuted.{is_answer, answer_only}
use Rattle.theory_window.specs.Construction.{at_last, with_one, with_two}
use Rattle.theory_window.specs.More.{grown}
use Rattle.theory_window.proofs.Theorem.{every_from, too_short}
use Rattle.theory_poll.specs.Theorem.{poll_below_threshold}
use Rattle.theory_window.specs.PollBroken.{operations, answers_differ, broken, all_broken}
use Rattle.theory_window.specs.PollMore.{polls_same}

-- Two records of the poll that a list of operations comes to, from an accepted opening, within any limits, show a committed value and
-- another value.
breaks_poll_rule : (most : Limits) (w : ℕ → ℕ) (n : ℕ) (os : List PollOperation) (s : Session) (p q u v : ℕ) →
    let start = poll_opening_for most (w n) n in
    start.code ≡ 0 → s ≡ (played (polls (w n)) start.session [] os).0 →
    answer_of (process_at s p) ≡ Commits v → Carries (answer_of (process_at s q)) u → (u ≡ v → ⊥) → PollClaimWithin most w n → ⊥
breaks_poll_rule most w n os s p q u v ok left commits carries differ claim =
    let M = polls (w n) in
    let start = (poll_opening_for most (w n) n).session in
    let c : Called (PollRunWith w start) (fed_by os []) = called (fed_by os []) in
    let holds = claim ok c.calls c.left c.run in
    let rule = at_the_end M (λ s cs. PollRule (w n) start cs s) c.run holds.2 in
    let same : c.left ≡ s =
    holds.1 ∙ ap (machine M start) c.same ∙ sym (left ∙ ap (λ x. x.0) (played_machine M start os [])) in
    let one = rule.shown p v (rw (same, commits) refl) in
    let two = rule.shown q u (rw same carries) in
    differ (rule.agreement u v one.stood two.stood (one.answer ∙ rw same commits) (rw (two.answer, same) carries))

-- The list of a window from 2 to 15 breaks it, with as many processes as its threshold and with more.
broken_unsafe : (most : Limits) (W n : ℕ) → broken W ≡ true → threshold W ≤ n → (poll_opening_for most W n).code ≡ 0 →
    PollClaimWithin most (λ m. W) n → ⊥
unfolding broken answers_differ opened poll_opening_for
broken_unsafe most W n t enough accepted =
    let os = operations W in
    let one = with_one W (at_last W) in
    let other = with_two W (at_last W) in
    let more = n - threshold W in
    let size : n ≡ threshold W + more = omega arith in
    let opens = (opening_accepted most W n W accepted).4 ∙ ap₂ opened size (sym (add-zero W)) in
    let x = polls_same W more (opened (threshold W) W) [] os _ t in
    let same = sym (ap (λ s. (played (polls W) s [] os).0) opens ∙ ap (λ y. y.0) x.played) in
    let a = answer_of (process_at x.left one) in
    let b = answer_of (process_at x.left other) in
    let one_is = is_answer (Commits 1) a in
    let commits = answer_only (Commits 1) a (and_left one_is (is_answer (Adopts 2) b) x.holds) in
    let adopts = answer_only (Adopts 2) b (and_right one_is (is_answer (Adopts 2) b) x.holds) in
    breaks_poll_rule most (λ m. W) n os (grown more 0 x.left) one other 2 1 accepted same commits (rw adopts refl) (λ z. omega arith)

pub exact_poll_windows : ExactPollWindows
unfolding poll_opening_for
exact_poll_windows most limits W n least accepted = (
  λ below. poll_below_threshold (λ m. W) n below most limits,
  λ claim.
      lt_of_not-le λ enough.
      let few = (opening_accepted most W n W accepted).1 in
      let low = too_short W n least enough (omega (arith, limits.processes)) in
      broken_unsafe most W n (every_from broken 2 14 W least (omega arith) all_broken) enough accepted claim,
)
