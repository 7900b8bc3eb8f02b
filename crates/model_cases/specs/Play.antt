-- How a paper case is played on the machine, and what it is said to show.
use Rattle.std.specs.Prelude.{ℕ, suc, zero, Bool, cond, not, ◌&&◌, List, [], ◌∷◌, eqb}
use Rattle.model.specs.declared.Phase.{Phase}
use Rattle.model.specs.declared.Phase.TheVariants.{Idle, Waiting, Write, Scan, Adopt, Compare, Flag, CheckMark}
use Rattle.model.specs.declared.Phase.TheVariants.{CheckValue, Commit, Exhausted, Crashed, Decided, HasCommitted, HasAdopted}
use Rattle.model.specs.declared.Caller.TheVariants.{Server}
use Rattle.model.specs.Answers.{Stepped}
use Rattle.model.specs.Window.{window}
use Rattle.model.specs.Board.{value_at, mark_at, process_at, no_counts}
use Rattle.model.specs.Machine.{Command, opening, execute}
use Rattle.model.specs.Sound.{every}
use Rattle.model.specs.Public.{with_counts}

-- The machine of n processes after one command: its answer, the session and the counts.
played : (n : ℕ) → Stepped → Command → Stepped
played n t x = execute (window n) t.session t.counts x

-- After operations one after another, by what each of them does. (Those of polls too: `model_poll_cases`.)
abbrev pub played_all : {S O : Type 0} → (S → O → S) → S → List O → S
played_all does t [] = t
played_all does t (o ∷ os) = played_all does (does t o) os

-- Opened by the server with n processes and round limit L, and an empty tally.
play : (n L : ℕ) → List Command → Stepped
unfolding played
play n L os = played_all (played n) (with_counts (opening Server n L) no_counts) os

-- What a case says of the state after it.
pub data Shows : Type 0 where
  answers : (code : ℕ) → Shows
  has_window : (W : ℕ) → Shows
  has_limit : (L : ℕ) → Shows
  register : (r v : ℕ) → Shows
  marked : (r : ℕ) → Shows
  decision : (v : ℕ) → Shows
  stands : (p : ℕ) → Phase → (round estimate : ℕ) → Shows
  counts : (reads writes contested : ℕ) → Shows
  closed : Bool → Shows

-- Whether two phases are the same: their kinds, and their k or i.
phase_eq : Phase → Phase → Bool
phase_eq φ ψ = eqb (kind φ) (kind ψ) && eqb (place φ) (place ψ)
  where
    kind : Phase → ℕ
    kind Idle = 0
    kind Waiting = 1
    kind Write = 2
    kind (Scan k) = 3
    kind (Adopt k) = 4
    kind (Compare i) = 5
    kind (Flag i) = 6
    kind (CheckMark i) = 7
    kind (CheckValue i) = 8
    kind Commit = 9
    kind Exhausted = 10
    kind Crashed = 11
    kind Decided = 12
    kind HasCommitted = 13
    kind HasAdopted = 14

    place : Phase → ℕ
    place Idle = 0
    place Waiting = 0
    place Write = 0
    place (Scan k) = k
    place (Adopt k) = k
    place (Compare i) = i
    place (Flag i) = i
    place (CheckMark i) = i
    place (CheckValue i) = i
    place Commit = 0
    place Exhausted = 0
    place Crashed = 0
    place Decided = 0
    place HasCommitted = 0
    place HasAdopted = 0

unfoldable pub shown : Stepped → Shows → Bool
unfolding phase_eq
shown t (answers k) = eqb t.code k
shown t (has_window W) = eqb (window t.session.n) W
shown t (has_limit L) = eqb t.session.limit L
shown t (register r v) = eqb (value_at t.session r) v
shown t (marked r) = mark_at t.session r
shown t (decision v) = eqb t.session.decision v
shown t (stands p φ r e) =
    let q = process_at t.session p in
    phase_eq q.phase φ && eqb q.round r && eqb q.estimate e
shown t (counts a b c) = eqb t.counts.reads a && eqb t.counts.writes b && eqb t.counts.contested c
shown t (closed b) = cond b t.session.closed (not t.session.closed)

-- A row of the table: the opening, the commands, and what the state after them shows.
pub record Case : Type 0 where
  pub n : ℕ
  pub limit : ℕ
  pub operations : List Command
  pub shows : List Shows

unfoldable pub holds : Case → Bool
unfolding play shown
holds c = let t = play c.n c.limit c.operations in every (shown t) c.shows

abbrev pub repeat : {O : Type 0} → ℕ → O → List O
repeat zero o = []
repeat (suc k) o = o ∷ repeat k o
