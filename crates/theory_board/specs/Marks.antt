-- Contested and the number of marked rounds: mark by mark, in one operation of a session or a poll, and in a list of calls on one tally.
use Rattle.std.specs.Prelude.{◌+◌, ◌-◌, ◌≤◌, ◌<◌, ◌≡◌, ◌∷◌}
use Rattle.base.specs.Prelude.{ℕ, suc, zero, arith, refl, Bool, true, false, List, [], ℕ_discrete, length}
use Rattle.base.specs.Prelude.{get_or, set, get_or-set_same, get_or-set_other}
use Rattle.model_laws.specs.Types.{Access, Nothing, ReadValue, WriteValue, ReadMark, SetMark, ReadDecision, WriteDecision, Session, Counts}
use Rattle.model_laws.specs.Types.{Operation, Command, acts, closes, Process}
use Rattle.model.specs.Board.{process_at, opened, max_rounds}
use Rattle.model.specs.Step.{bit, found, stored, turn, newly_marked, counted}
use Rattle.model.specs.Refusal.{refusal, tests, stepped}
use Rattle.model.specs.Machine.{access_of, after, counts_after, answered, perform, execute, process_of}
use Rattle.model_laws.specs.Ranges.{InRange}
use Rattle.model_laws.specs.Operations.{access_in_range}
use Rattle.model_rule.specs.Event.{Event}
use Rattle.model_rule.specs.System.{System, Call, inputs, machine, EachAsTheMachine}
use Rattle.model_rule.specs.Calls.{Input}
use Rattle.model_rule.specs.Contested.{marked_to, marked_rounds, OneTally}
use Rattle.theory_board.specs.Opening.{same_everywhere}
use Rattle.theory_board.specs.Reached.{Reached}

-- ---- a mark that is set

module _ (marks : List Bool) (i : ℕ) where
  -- It is none of the first m rounds'.
  marked_above : (m : ℕ) → m ≤ i → marked_to (set marks i true) m ≡ marked_to marks m
  marked_above zero h = refl
  marked_above (suc m) h =
      rw (marked_above m (omega arith), get_or-set_other marks i m true false (λ e. omega arith))

  -- It is one of them: one more, if it stood unmarked.
  pub marked_set : (m : ℕ) → i < length marks → i < m → marked_to (set marks i true) m
      ≡ marked_to marks m + newly_marked (bit (get_or marks i false))
  marked_set zero low h = absurd (omega arith)
  marked_set (suc m) low h =
      elim (ℕ_discrete m i) [
        | yes e ↦ rw (e, marked_above i (omega arith), get_or-set_same marks i true false low) (once (get_or marks i false))
        | no ne ↦
            let rest = marked_set m low (omega (arith, ne)) in
            rw (rest, get_or-set_other marks i m true false ne) (omega arith)
      ]
    where
      once : (b : Bool) → marked_to marks i + 1 ≡ marked_to marks i + bit b + newly_marked (bit b)
      once true = omega arith
      once false = omega arith

-- ---- one law

-- From the counts c and the session s to d and t, contested grows by as much as the marked rounds do.
abbrev pub GrowAlike : (c : Counts) (s : Session) (d : Counts) (t : Session) → Type 0
GrowAlike c s d t = d.contested + marked_rounds s ≡ c.contested + marked_rounds t

module _ (s : Session) (c : Counts) (long : s.limit ≤ length s.marks) where
  stored_adds : (a : Access) (e : ℕ) → InRange s.limit a → GrowAlike c s (counted a (found s a) c) (stored s a e)
  unfolding counted found stored
  stored_adds Nothing e ok = refl
  stored_adds (ReadValue r) e ok = refl
  stored_adds (WriteValue r) e ok = refl
  stored_adds (ReadMark r) e ok = refl
  stored_adds (SetMark r) e ok = omega (arith, marked_set s.marks (r - 1) s.limit (omega arith) (omega arith))
  stored_adds ReadDecision e ok = refl
  stored_adds WriteDecision e ok = refl

  -- In a turn, accepted or refused, of a session or a poll.
  pub turn_adds : (k p : ℕ) (a : Access) (becomes : ℕ → Process) → (k ≡ 0 → InRange s.limit a) →
      let r = stepped k s (turn s p a becomes) c (counted a (found s a) c) in GrowAlike c s r.counts r.session
  unfolding turn
  turn_adds zero p a becomes ok = stored_adds a _ (ok refl)
  turn_adds (suc k) p a becomes ok = refl

  -- In an operation of a session's machine, and so in a proposal and a crash of a poll's.
  pub perform_adds : (W : ℕ) (o : Operation) → InRange s.limit (access_of s.limit (process_at s (process_of o)) o) →
      let r = perform W s c o in GrowAlike c s r.counts r.session
  unfolding perform answered after counts_after
  perform_adds W o ok = turn_adds (refusal (tests s c o)) _ _ _ (λ e. ok)

-- One command to a session that the machine reached.
pub reached_adds : {W n L : ℕ} {s : Session} {h : List Event} (c : Counts) (x : Command) → Reached false W n L s h →
    let r = execute W s c x in GrowAlike c s r.counts r.session
unfolding execute
reached_adds {W} {s = s} c (acts o) i = perform_adds s c i.invariant.long.marks W o (access_in_range W s o i.sound)
reached_adds c closes i = refl

-- ---- lists of calls

-- No round of a session just opened is marked.
pub opened_unmarked : (n L : ℕ) → marked_rounds (opened n L) ≡ 0
unfolding opened
opened_unmarked n L = none L
  where
    none : (r : ℕ) → marked_to (opened n L).marks r ≡ 0
    none zero = refl
    none (suc r) = rw (none r, same_everywhere max_rounds r _)

-- Calls on one tally that are answered as the machine answers, where marked is the number of marked rounds.
module _ {State O A E : Type 0} (M : System State (Input O) A E) (tally : A → Counts) (marked : State → ℕ) (start : State)
    (unmarked : marked start ≡ 0)
    (adds : (fs : List (Input O)) (f : Input O) →
    let s = machine M start fs in
    let r = M.perform s f in
    (tally r).contested + marked s ≡ f.counts.contested + marked (M.state r)) where
  pub calls_contested : (cs : List (Call (Input O) A)) (c : Counts) → EachAsTheMachine M start cs → OneTally tally cs c →
      c.contested ≡ marked (machine M start (inputs cs))
  calls_contested [] c each one = rw (one, unmarked) refl
  calls_contested (k ∷ ks) c each one =
      let before = calls_contested ks k.input.counts each.2 one.1 in
      rw (one.0, each.0) (omega (arith, adds (inputs ks) k.input))
