-- How short may a window be? (Document 02, wish 7.)
use Rattle.std.specs.Prelude.{ℕ, ◌+◌, ◌*◌, ◌-◌, ◌/◌, max, ◌≤◌, ◌<◌, ◌≡◌, ◌↔◌, List}
use Rattle.model.specs.declared.Limits.{Limits}
use Rattle.model.specs.declared.Session.{Session}
use Rattle.model.specs.Board.{UpToServer}
use Rattle.model.specs.Machine.{opening_for}
use Rattle.model_poll.specs.Machine.{poll_opening_for}
use Rattle.model_rule.specs.Event.{DecidedOn}
use Rattle.model_rule.specs.System.{inputs, past}
use Rattle.model_rule.specs.Calls.{sessions, SessionCall, RunWith}
use Rattle.model_rule.specs.Rule.{AgreementWithin, AgreementWith}
use Rattle.model_rule.specs.PollRule.{PollClaimWithin, PollClaimWith}

-- Window W is safe for n processes: the agreement rule holds of every list of calls, whatever the round limit.
abbrev pub Safe : (W n : ℕ) → Type 0
Safe W n = (L : ℕ) → AgreementWith (λ m. W) n L

-- As many processes break window W, and no fewer: half of W, times the rest, and half of the rest, or 1 where that is 0.
abbrev pub threshold : (W : ℕ) → ℕ
threshold W =
    let half = W / 2 in
    let rest = W - half in
    rest * half + max 1 (rest / 2)

-- The rule below the threshold, where w n is the window of n processes. (4n is at most W times W only there: `EveryWindow` is a part of
-- it.)
abbrev pub BelowThreshold : Type 0
BelowThreshold = (w : ℕ → ℕ) (n L : ℕ) → n < threshold (w n) → AgreementWith w n L

-- And the answer from both sides: from every opening at a window from 2 on that is accepted, within any limits up to the server's, the rule
-- holds if and only if there are fewer processes than the threshold.
abbrev pub ExactWindows : Type 0
ExactWindows =
    (most : Limits) → UpToServer most → (W n L : ℕ) → 2 ≤ W → (opening_for most W n L).code ≡ 0
    → (n < threshold W ↔ AgreementWithin most (λ m. W) n L)

-- A list of calls from an opening at window W after which two processes have decided different numbers.
pub record TwoDecisions (most : Limits) (W n L : ℕ) : Type 0 where
  pub calls : List SessionCall
  pub left : Session
  pub run : RunWith (λ m. W) (opening_for most W n L).session calls left
  pub p : ℕ
  pub q : ℕ
  pub u : ℕ
  pub v : ℕ
  pub one : DecidedOn p u (past (sessions W) (opening_for most W n L).session (inputs calls))
  pub other : DecidedOn q v (past (sessions W) (opening_for most W n L).session (inputs calls))
  pub unlike : u ≡ v → ⊥

-- Where it does not hold, and there are 2W - 1 rounds or more, two processes can decide different numbers.
abbrev pub DifferentDecisions : Type 0
DifferentDecisions =
    (most : Limits) → UpToServer most → (W n L : ℕ) → 2 ≤ W → (opening_for most W n L).code ≡ 0
    → threshold W ≤ n → 2 * W - 1 ≤ L → TwoDecisions most W n L

-- ---- "Polls are covered too."

-- The rule below the threshold, and the answer from both sides, as those of sessions.
abbrev pub PollBelowThreshold : Type 0
PollBelowThreshold = (w : ℕ → ℕ) (n : ℕ) → n < threshold (w n) → PollClaimWith w n

abbrev pub ExactPollWindows : Type 0
ExactPollWindows =
    (most : Limits) → UpToServer most → (W n : ℕ) → 2 ≤ W → (poll_opening_for most W n).code ≡ 0
    → (n < threshold W ↔ PollClaimWithin most (λ m. W) n)
