-- A list of calls that breaks the agreement rule at a window: what it shows, and that the rule is then false.
use Rattle.std.specs.Prelude.{◌≡◌, ◌&&◌}
use Rattle.base.specs.Prelude.{ℕ, refl, sym, ◌∙◌, Bool, true, not, true≢false, List, [], map, eqb, ltb, eq-eqb}
use Rattle.base.specs.Bools.{and_left, and_right}
use Rattle.model.specs.declared.Caller.TheVariants.{Server}
use Rattle.model.specs.declared.Operation.{Operation}
use Rattle.model.specs.Board.{limits_of}
use Rattle.model.specs.Machine.{acts, opening_for, process_of}
use Rattle.model.specs.Sound.{every}
use Rattle.model_rule.specs.Event.{Event, commit, decision, DecidedOn}
use Rattle.model_rule.specs.Calls.{sessions}
use Rattle.model_rule_cases.specs.Play.{played}
use Rattle.model_rule_cases.specs.Events.{occurs, occurs_happened}

-- What a process is said to do: it commits the value in the round, and by its look it is decided with it.
pub record Commitment : Type 0 where
  pub process : ℕ
  pub round : ℕ
  pub value : ℕ

-- A list of operations at a window, and the two commits in it.
pub record Row : Type 0 where
  pub n : ℕ
  pub window : ℕ
  pub limit : ℕ
  pub operations : List Operation
  pub first : Commitment
  pub second : Commitment

unfoldable pub happens : List Event → Commitment → Bool
happens h c = occurs (commit c.round c.value) h && occurs (decision c.process c.value) h

-- The past of the row's machine: its opening, within the server's limits, and operations at its window.
abbrev pub past_of : Row → List Event
past_of r = (played (sessions r.window) (opening_for (limits_of Server) r.window r.n r.limit).session [] (map acts r.operations)).1

-- Both commits happen, and their values differ.
unfoldable pub differ : List Event → (first second : Commitment) → Bool
differ h a b = happens h a && happens h b && not (eqb a.value b.value)

-- Whether the operation is of one of the first n processes.
abbrev pub within : (n : ℕ) → Operation → Bool
within n o = ltb (process_of o) n

-- The opening is accepted, the operations are of its processes, and in its past two commits differ.
unfoldable pub breaks : Row → Bool
breaks r =
    eqb (opening_for (limits_of Server) r.window r.n r.limit).code 0 && every (within r.n) r.operations
    && differ (past_of r) r.first r.second

-- ---- what the tests say

-- What happens of a decision.
happens_decided : (h : List Event) (c : Commitment) → happens h c ≡ true → DecidedOn c.process c.value h
unfolding happens
happens_decided h c t = occurs_happened (decision c.process c.value) h (and_right (occurs (commit c.round c.value) h) _ t)

-- Two processes decide different values.
pub differ_shows : (h : List Event) (a b : Commitment) → differ h a b ≡ true →
    DecidedOn a.process a.value h × DecidedOn b.process b.value h × (a.value ≡ b.value → ⊥)
unfolding differ
differ_shows h a b t =
    let c = happens h a in
    let d = happens h b in
    let e = not (eqb a.value b.value) in
    let two = and_left (c && d) e t in (
      happens_decided h a (and_left c d two),
      happens_decided h b (and_right c d two),
      λ same. true≢false (sym (and_right (c && d) e t) ∙ rw (eq-eqb a.value b.value same) refl),
    )
