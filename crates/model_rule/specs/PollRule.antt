-- The rule of polls (document 02, wish 6): "Show for any order of proposals, turns and crashes from an opening: each answer was proposed;
-- if one answer is committed v, every answer carries v; if all proposals are v, every answer is committed v."
use Rattle.std.specs.Prelude.{ℕ, ◌*◌, ◌≤◌, ◌<◌, ◌≡◌, List, ◌∷◌}
use Rattle.model.specs.declared.Status.TheVariants.{Active}
use Rattle.model.specs.declared.Session.{Session}
use Rattle.model.specs.declared.Caller.{Caller}
use Rattle.model.specs.declared.Limits.{Limits}
use Rattle.model.specs.Window.{window}
use Rattle.model.specs.Board.{limits_of, UpToServer, process_at}
use Rattle.model.specs.Refusal.{status}
use Rattle.model_rule.specs.Event.{Past, Proposed}
use Rattle.model_rule.specs.System.{machine, past, inputs, EachAsTheMachine, AfterEach}
use Rattle.model_poll.specs.declared.Answer.{Answer}
use Rattle.model_poll.specs.declared.Answer.TheVariants.{Commits}
use Rattle.model_poll.specs.Turn.{answer_of, Carries, pass_turns}
use Rattle.model_poll.specs.Machine.{turns, poll_opening_for}
use Rattle.model_rule.specs.PollCalls.{polls, PollCall, PollRunWith, turns_of}

-- The call c of the list is a turn of process p that gave the answer a.
pub record Gave (p : ℕ) (a : Answer) (cs : List PollCall) : Type 0 where
  pub turn : PollCall
  pub older : List PollCall
  pub stood : Past (turn ∷ older) cs
  pub own : turn.input.operation ≡ turns p
  pub answer : turn.answer.answer ≡ a

-- What holds of a list of calls cs that came from a poll just opened, `start`, to the poll s.
pub record PollRule (W : ℕ) (start : Session) (cs : List PollCall) (s : Session) : Type 0 where
  -- "each answer was proposed", by an accepted call before it
  pub validity : {c : PollCall} {older : List PollCall} (v : ℕ) → Past (c ∷ older) cs → Carries c.answer.answer v →
      Proposed v (past (polls W) start (inputs older))
  -- "if one answer is committed v, every answer carries v", before or after
  pub agreement : {c d : PollCall} {older older' : List PollCall} (u v : ℕ) → Past (c ∷ older) cs → Past (d ∷ older') cs →
      c.answer.answer ≡ Commits v → Carries d.answer.answer u → u ≡ v
  -- "if all proposals are v, every answer is committed v"
  pub unanimity : {c : PollCall} {older : List PollCall} (u v : ℕ) → ((w : ℕ) → Proposed w (past (polls W) start (inputs cs)) → w ≡ v) →
      Past (c ∷ older) cs → Carries c.answer.answer u → c.answer.answer ≡ Commits v
  -- the record of an answered process shows the answer that its turn gave, and no record shows another
  pub kept : {p : ℕ} {a : Answer} (v : ℕ) → Gave p a cs → Carries a v → answer_of (process_at s p) ≡ a
  pub shown : (p v : ℕ) → Carries (answer_of (process_at s p)) v → Gave p (answer_of (process_at s p)) cs
  -- no process takes more turns than that; one that still works, and so has no answer, has taken fewer, and its next turn is refused by 16
  -- alone
  pub one_pass : (p : ℕ) → turns_of p cs ≤ pass_turns W
  pub working : (p : ℕ) → status (process_at s p).phase ≡ Active → turns_of p cs < pass_turns W

-- The claim, within a caller's limits, of n processes, where w n is the window of n processes: "any order .. from an opening", and after
-- each call of it.
abbrev pub PollClaimWithin : Limits → (w : ℕ → ℕ) → (n : ℕ) → Type 0
PollClaimWithin most w n =
    let start = poll_opening_for most (w n) n in
    let M = polls (w n) in
    start.code ≡ 0
    → (cs : List PollCall) (s : Session)
    → PollRunWith w start.session cs s
    → EachAsTheMachine M start.session cs
    × (s ≡ machine M start.session (inputs cs))
    × AfterEach M (λ t ds. PollRule (w n) start.session ds t) start.session cs

-- 02, wish 9: within any limits up to the server's, as `AgreementWith`.
abbrev pub PollClaimWith : (w : ℕ → ℕ) → (n : ℕ) → Type 0
PollClaimWith w n = (most : Limits) → UpToServer most → PollClaimWithin most w n

-- 02, wish 7: ".. for every window W of at least 2 with W times W at least 4n .. Polls are covered too." (As `EveryWindow`.)
abbrev pub EveryPollWindow : Type 0
EveryPollWindow = (w : ℕ → ℕ) (n : ℕ) → 4 * n ≤ w n * w n → PollClaimWith w n

-- The claim in service,
abbrev pub PollClaim : Type 0
PollClaim = (n : ℕ) → PollClaimWith window n

-- and of each of the two callers: `PollClaimWithin` is of its `poll_opening` then.
abbrev pub CallerPollClaim : Type 0
CallerPollClaim = (caller : Caller) (n : ℕ) → PollClaimWithin (limits_of caller) window n
