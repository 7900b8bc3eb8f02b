-- By computation: the list of calls of each window from 2 to 15 (`theory_window`, `Construction`) breaks the rule of polls at that window.
use Rattle.std.specs.Prelude.{ℕ, ◌≡◌, refl, Bool, true, ◌&&◌, List, [], ◌++◌, map, replicate}
use Rattle.model_laws.specs.Types.{Session, Operation, Propose, Step, Learn, Crash}
use Rattle.model.specs.Board.{opened, process_at}
use Rattle.model.specs.Step.{waiting_rule, phase_access, access, found, go_on, phase_next, next, learnt, stored, turn, counted}
use Rattle.model.specs.Refusal.{full}
use Rattle.model.specs.Machine.{access_of, becomes, after, counts_after, answered, perform}
use Rattle.model.specs.Sound.{every}
use Rattle.model_rule.specs.Safe.{threshold}
use Rattle.model_rule.specs.PollCalls.{polls}
use Rattle.model_poll.specs.declared.Answer.TheVariants.{Commits, Adopts}
use Rattle.model_poll.specs.Turn.{without_decision, poll_access, ending, poll_next, answer_of}
use Rattle.model_poll.specs.Machine.{PollOperation, proposes, turns, crashes, turn_after, turn_counts, turned, poll_perform}
use Rattle.model_rule_cases.specs.PollRefuted.{is_answer}
use Rattle.theory_window.specs.Construction.{from, with_write, goes_on_to, all_go_on, one_pass, epochs, at_first, at_last, with_one, with_two}
use Rattle.theory_window.specs.Construction.{commit_steps, last_steps}
use Rattle.theory_window.specs.More.{watched}
use Rattle.theory_window.specs.PollMore.{inside}

-- The operations as a poll has them: a step is a turn. (There is no look among them before the end.)
abbrev turn_of : Operation → PollOperation
turn_of (Propose p v) = proposes p v
turn_of (Step p leader) = turns p
turn_of (Learn p) = turns p
turn_of (Crash p) = crashes p

-- Two processes stand before the write to register W: one writes, compares, checks and commits 1; the other writes 2 over it, marks the
-- rounds below, finds its own mark and adopts 2.
unfoldable pub operations : (W : ℕ) → List PollOperation
operations W =
    let s = at_last W in
    map turn_of s.operations ++ replicate (commit_steps W) (turns (with_one W s)) ++ replicate (last_steps W 0) (turns (with_two W s))

-- One record shows that 1 is committed, and another that 2 is adopted.
unfoldable pub answers_differ : Session → (one other : ℕ) → Bool
answers_differ s one other = is_answer (Commits 1) (answer_of (process_at s one)) && is_answer (Adopts 2) (answer_of (process_at s other))

-- The list of window W breaks the rule there, with as many processes as break it for sessions.
unfoldable pub broken : (W : ℕ) → Bool
broken W =
    let s = at_last W in
    watched (polls W) inside (opened (threshold W) W) [] (operations W) (λ t h. answers_differ t (with_one W s) (with_two W s))

pub all_broken : every broken (from 2 14) ≡ true
unfolding
    broken operations answers_differ with_write goes_on_to all_go_on one_pass epochs at_first at_last watched opened waiting_rule phase_access access
    found go_on phase_next next learnt stored turn counted full access_of becomes after counts_after answered perform without_decision
    poll_access ending poll_next answer_of turn_after turn_counts turned poll_perform
all_broken = refl
