-- Lists of operations that are played on a machine, oldest first, and the calls that they make; and a list of sessions' against the rule.
use Rattle.std.specs.Prelude.{ℕ, ◌≡◌, true}
use Rattle.std.proofs.Math.Path.{refl}
use Rattle.std.proofs.Common.{sym, ◌∙◌, ap, subst}
use mathlib.Core.List.{List, [], ◌∷◌, ◌++◌}
use Rattle.model.specs.declared.Limits.{Limits}
use Rattle.model.specs.declared.Session.{Session}
use Rattle.model.specs.declared.Operation.{Operation}
use Rattle.model.specs.declared.Operation.TheVariants.{Step}
use Rattle.model.specs.Board.{no_counts}
use Rattle.model.specs.Machine.{Command, opening_for}
use Rattle.model_rule.specs.System.{System, Call, inputs, Run, none, call, machine, events, past, AfterEach}
use Rattle.model_rule.specs.Calls.{Input, sessions}
use Rattle.model_rule.specs.Rule.{Rule, ProposalsStand, AgreementWithin}

-- ---- the machine

-- What it is fed. Each call brings an empty tally: the counts do not bear on what happens.
abbrev pub uncounted : {O : Type 0} → O → Input O
uncounted o = record { operation = o; counts = no_counts }

-- What it is fed by the operations, newest first, on top of what it was fed before.
abbrev pub fed_by : {O : Type 0} → List O → List (Input O) → List (Input O)
fed_by [] fs = fs
fed_by (o ∷ os) fs = fed_by os (uncounted o ∷ fs)

module _ {State O Answer Event : Type 0} (M : System State (Input O) Answer Event) where
  -- The state and the past after the operations, from a state and its past, in one pass.
  unfoldable pub played : State → List Event → List O → State × List Event
  played s h [] = (s, h)
  played s h (o ∷ os) = played (M.state (M.perform s (uncounted o))) (events M s (uncounted o) ++ h) os

  -- Those are the machine's.
  pub played_machine : (start : State) (os : List O) (fs : List (Input O)) →
      played (machine M start fs) (past M start fs) os ≡ (machine M start (fed_by os fs), past M start (fed_by os fs))
  unfolding played
  played_machine start [] fs = refl
  played_machine start (o ∷ os) fs = played_machine start os (uncounted o ∷ fs)

  -- More operations are played from where the others came to.
  pub played_append : (s : State) (h : List Event) (os more : List O) →
      played s h (os ++ more) ≡ played (played s h os).0 (played s h os).1 more
  unfolding played
  played_append s h [] more = refl
  played_append s h (o ∷ os) more = played_append (M.state (M.perform s (uncounted o))) _ os more

-- ---- the calls

-- Calls by which a machine is fed fs, and the state that they come to.
pub record Called {State Input Answer : Type 0} (Runs : List (Call Input Answer) → State → Type 0) (fs : List Input) : Type 0 where
  pub calls : List (Call Input Answer)
  pub left : State
  pub run : Runs calls left
  pub same : inputs calls ≡ fs

-- Each answered as promised.
abbrev pub called : {State Input Answer : Type 0} {state : Answer → State} {promised : State → Input → Answer} {start : State} →
    (fs : List Input) → Called (Run state promised start) fs
called {start = start} [] = record { calls = []; left = start; run = none; same = refl }
called {Input = Input} {Answer = Answer} {state = state} {promised = promised} {start = start} (f ∷ fs) =
    let c = called {state = state} {promised = promised} {start = start} fs in
    let x : Call Input Answer = record { input = f; answer = promised c.left f } in
    record { calls = x ∷ c.calls; left = state x.answer; run = call c.run x refl; same = ap (λ gs. f ∷ gs) c.same }

-- The past of calls by which it is fed a list of operations.
pub called_past : {State O Answer Event : Type 0} (M : System State (Input O) Answer Event) (start : State) (os : List O)
    (cs : List (Call (Input O) Answer)) → inputs cs ≡ fed_by os [] → past M start (inputs cs) ≡ (played M start [] os).1
called_past M start os cs same = ap (past M start) same ∙ sym (ap (λ x. x.1) (played_machine M start os []))

-- What holds after each call holds at the end.
pub at_the_end : {State Input Answer Event : Type 0} (M : System State Input Answer Event) (P : State → List (Call Input Answer) → Type 0)
    {promised : State → Input → Answer} {start s : State} {cs : List (Call Input Answer)} → Run M.state promised start cs s →
    AfterEach M P start cs → P s cs
at_the_end M P none holds = holds
at_the_end M P (call run c e) holds = holds.0

-- What holds at the end of every list of calls, of the state and the past that the machine then has, holds after a list of operations.
pub played_holds : {State O Answer Event : Type 0} (M : System State (Input O) Answer Event) (P : State → List Event → Type 0)
    {promised : State → Input O → Answer} {start : State} (os : List O) →
    ((cs : List (Call (Input O) Answer)) (s : State) → Run M.state promised start cs s →
    P s (past M start (inputs cs)) × (s ≡ machine M start (inputs cs))) → let end = played M start [] os in P end.0 end.1
played_holds {State} {O} {Answer} {Event} M P {promised} {start} os all =
    let c : Called (Run M.state promised start) (fed_by os []) = called (fed_by os []) in
    let holds = all c.calls c.left c.run in
    subst (λ (end : State × List Event). P end.0 end.1) (sym (played_machine M start os []))
    (subst (λ (fs : List (Input O)). P (machine M start fs) (past M start fs)) c.same
    (subst (λ (s : State). P s (past M start (inputs c.calls))) holds.1 holds.0))

-- ---- of sessions

-- A step that is told to lead. (01: a work turn with hint yes.)
abbrev pub works : (p : ℕ) → Operation
works p = Step p true

-- What the rule says of a list of operations from an accepted opening, within any limits: of the session and the past after it.
pub played_rule : (most : Limits) (w : ℕ → ℕ) (n L : ℕ) (os : List Command) →
    let start = opening_for most (w n) n L in
    let end = played (sessions (w n)) start.session [] os in
    start.code ≡ 0 → AgreementWithin most w n L → Rule end.0 end.1
played_rule most w n L os ok rule =
    let M = sessions (w n) in
    let start = (opening_for most (w n) n L).session in
    played_holds M Rule os
    (λ cs s run.
    let all = rule ok cs s run in
    ((at_the_end M (λ t ds. Rule t (past M start (inputs ds)) × ProposalsStand (w n) start ds) run all.2).0, all.1))

-- A past that no rule allows: the agreement rule is false within those limits.
pub breaks_rule : (most : Limits) (w : ℕ → ℕ) (n L : ℕ) (os : List Command) →
    let start = opening_for most (w n) n L in
    start.code ≡ 0 → ((s : Session) → Rule s (played (sessions (w n)) start.session [] os).1 → ⊥) → AgreementWithin most w n L → ⊥
breaks_rule most w n L os ok never rule = never _ (played_rule most w n L os ok rule)
