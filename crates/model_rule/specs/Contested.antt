-- Contested as rounds (02, wish 2): "after a run from an opening, all of it and nothing else on one tally that began empty, it equals the
-- marked rounds on the board."
use Rattle.std.specs.Prelude.{ℕ, zero, suc, ◌+◌, ◌≡◌, Bool, false, List, [], ◌∷◌, get_or}
use Rattle.model.specs.declared.Session.{Session}
use Rattle.model.specs.declared.Counts.{Counts}
use Rattle.model.specs.declared.Limits.{Limits}
use Rattle.model.specs.Answers.{Stepped}
use Rattle.model.specs.Window.{window}
use Rattle.model.specs.Board.{UpToServer, no_counts}
use Rattle.model.specs.Step.{bit}
use Rattle.model.specs.Machine.{opening_for}
use Rattle.model.specs.Runner.{run_within}
use Rattle.model_poll.specs.Answers.{PollStepped}
use Rattle.model_poll.specs.Machine.{poll_opening_for}
use Rattle.model_rule.specs.System.{Call}
use Rattle.model_rule.specs.Calls.{Input, RunWith}
use Rattle.model_rule.specs.PollCalls.{PollRunWith}

-- How many of the rounds 1 to r are marked.
abbrev pub marked_to : (marks : List Bool) → (r : ℕ) → ℕ
marked_to marks zero = 0
marked_to marks (suc r) = marked_to marks r + bit (get_or marks r false)

-- The marked rounds on the board, of C[1] to C[L].
abbrev pub marked_rounds : Session → ℕ
marked_rounds s = marked_to s.marks s.limit

-- The calls are on one tally that began empty and stands at c now: each is given the counts that the one before left. (The counts in an
-- answer are its `tally`.)
abbrev pub OneTally : {O A : Type 0} → (tally : A → Counts) → List (Call (Input O) A) → Counts → Type 0
OneTally tally [] c = c ≡ no_counts
OneTally tally (k ∷ ks) c = (c ≡ tally k.answer) × OneTally tally ks k.input.counts

-- "All of it and nothing else on one tally": of every list of calls.
abbrev pub CountsMarked : {O A : Type 0} → (tally : A → Counts) → (Runs : List (Call (Input O) A) → Session → Type 0) → Type 0
CountsMarked {O} {A} tally Runs =
    (cs : List (Call (Input O) A)) (s : Session) (c : Counts) → Runs cs s → OneTally tally cs c → c.contested ≡ marked_rounds s

-- The claim, of every list of calls from every accepted opening, within any limits up to the server's (02, wish 9), of sessions,
abbrev pub ContestedRule : Type 0
ContestedRule =
    (most : Limits) → UpToServer most → (n L : ℕ) →
    let start = opening_for most (window n) n L in
    start.code ≡ 0 → CountsMarked (λ (a : Stepped). a.counts) (RunWith window start.session)

-- and of polls: "Here and below, each call of a run or order gets the session (later: poll, house) that the one before left."
abbrev pub PollContestedRule : Type 0
PollContestedRule =
    (most : Limits) → UpToServer most → (n : ℕ) →
    let start = poll_opening_for most (window n) n in
    start.code ≡ 0 → CountsMarked (λ (a : PollStepped). a.counts) (PollRunWith window start.session)

-- And of every sheet, refused or not, and every budget.
abbrev pub ContestedRun : Type 0
ContestedRun =
    (most : Limits) → UpToServer most → (sheet : List ℕ) (budget : ℕ) →
    let r = run_within most sheet budget in
    r.counts.contested ≡ marked_rounds r.session
