-- More processes, which take no part, and more rounds, where no process comes to the limit, change nothing of what happens.
use Rattle.std.specs.Prelude.{◌+◌, ◌-◌, ◌<◌, ◌≡◌, ◌&&◌, ◌∷◌, ◌++◌}
use Rattle.base.specs.Prelude.{ℕ, suc, zero, arith, refl, sym, ◌∙◌, ap, Bool, true, false, cond, List, []}
use Rattle.base.specs.Prelude.{true≢false, eqb, ltb, lt-leb, le-leb, ltb-true}
use Rattle.base.specs.Bools.{and_left, and_right}
use Rattle.model.specs.declared.Access.{Access}
use Rattle.model.specs.declared.Access.TheVariants.{Nothing, ReadValue, WriteValue, ReadMark, SetMark, ReadDecision, WriteDecision}
use Rattle.model.specs.declared.Phase.{Phase}
use Rattle.model.specs.declared.Phase.TheVariants.{Idle, Waiting, Write, Scan, Adopt, Compare, Flag, CheckMark}
use Rattle.model.specs.declared.Phase.TheVariants.{CheckValue, Commit, Exhausted, Crashed, Decided, HasCommitted, HasAdopted}
use Rattle.model.specs.declared.Session.{Session}
use Rattle.model.specs.declared.Counts.{Counts}
use Rattle.model.specs.declared.Operation.{Operation}
use Rattle.model.specs.declared.Operation.TheVariants.{Propose, Step, Learn, Crash}
use Rattle.model.specs.declared.Process.{Process}
use Rattle.model.specs.Board.{process_at, no_counts}
use Rattle.model.specs.Step.{waiting_rule, phase_access, access, found, phase_next, next, process, stored, turn}
use Rattle.model.specs.Refusal.{refusal, tests, stepped}
use Rattle.model.specs.Machine.{Command, acts, closes, access_of, becomes, after, answered, perform, execute, process_of}
use Rattle.model_rule.specs.Event.{Event}
use Rattle.model_rule.specs.System.{System, events}
use Rattle.model_rule.specs.Calls.{Input, sessions}
use Rattle.model_laws.specs.Accepted.{tests_are}
use Rattle.model_rule_cases.specs.Play.{uncounted, played}

-- The session with a processes and b rounds more.
abbrev pub grown : (a b : ℕ) → Session → Session
grown a b s =
    record {
      n = s.n + a;
      limit = s.limit + b;
      values = s.values;
      marks = s.marks;
      decision = s.decision;
      processes = s.processes;
      closed = s.closed;
    }

-- ---- a turn by itself

stored_grown : (a b : ℕ) (s : Session) (x : Access) (e : ℕ) → stored (grown a b s) x e ≡ grown a b (stored s x e)
unfolding stored
stored_grown a b s Nothing e = refl
stored_grown a b s (ReadValue r) e = refl
stored_grown a b s (WriteValue r) e = refl
stored_grown a b s (ReadMark r) e = refl
stored_grown a b s (SetMark r) e = refl
stored_grown a b s ReadDecision e = refl
stored_grown a b s WriteDecision e = refl

found_grown : (a b : ℕ) (s : Session) (x : Access) → found (grown a b s) x ≡ found s x
unfolding found
found_grown a b s Nothing = refl
found_grown a b s (ReadValue r) = refl
found_grown a b s (WriteValue r) = refl
found_grown a b s (ReadMark r) = refl
found_grown a b s (SetMark r) = refl
found_grown a b s ReadDecision = refl
found_grown a b s WriteDecision = refl

pub turn_grown : (a b : ℕ) (s : Session) (p : ℕ) (x : Access) (becomes : ℕ → Process) →
    turn (grown a b s) p x becomes ≡ grown a b (turn s p x becomes)
unfolding turn
turn_grown a b s p x becomes = rw (found_grown a b s x, stored_grown a b s x (process_at s p).estimate) refl

-- ---- the round limit

-- A process in round r that finds x does not come to the limit. Only at gate and in a scan is the limit read: at gate the process is below
-- it, and in both it does not find the last round filled.
abbrev clear : (L r : ℕ) → Phase → (x : ℕ) → Bool
clear L r Idle x = true
clear L r Waiting x = ltb r L && cond (eqb x 0) true (ltb (r + 1) L)
clear L r Write x = true
clear L r (Scan k) x = cond (eqb x 0) true (ltb k L)
clear L r (Adopt k) x = true
clear L r (Compare i) x = true
clear L r (Flag i) x = true
clear L r (CheckMark i) x = true
clear L r (CheckValue i) x = true
clear L r Commit x = true
clear L r Exhausted x = true
clear L r Crashed x = true
clear L r Decided x = true
clear L r HasCommitted x = true
clear L r HasAdopted x = true

-- Where a register is blank, or its round is below the limit, a later limit gives the same.
blank_or_below : {A : Type 0} (blank : Bool) (k L b : ℕ) (when_blank below last later : A) → cond blank true (ltb k L) ≡ true →
    cond blank when_blank (cond (ltb k (L + b)) below later) ≡ cond blank when_blank (cond (ltb k L) below last)
blank_or_below true k L b when_blank below last later ok = refl
blank_or_below false k L b when_blank below last later ok =
    let low = ltb-true k L ok in rw (ok, le-leb (suc k) (L + b) (omega arith)) refl

-- So a step of such a process accesses the same register, and leaves the same.
later_limit : (W L b r e : ℕ) (φ : Phase) (leader : Bool) (x : ℕ) → clear L r φ x ≡ true →
    (phase_access (L + b) r φ leader ≡ phase_access L r φ leader) × (phase_next W (L + b) r e φ leader x ≡ phase_next W L r e φ leader x)
unfolding phase_access phase_next waiting_rule
later_limit W L b r e Idle leader x ok = (refl, refl)
later_limit W L b r e Waiting leader x ok =
    let low = and_left (ltb r L) _ ok in
    let below = ltb-true r L low in
    let same = blank_or_below (eqb x 0) (r + 1) L b Write (Scan (r + 2)) (Adopt L) (Adopt (L + b)) (and_right (ltb r L) _ ok) in
    rw (low, le-leb (suc r) (L + b) (omega arith)) (refl, ap (λ φ. cond leader (process φ (r + 1) e) (process Waiting r e)) same)
later_limit W L b r e Write leader x ok = (refl, refl)
later_limit W L b r e (Scan k) leader x ok =
    (refl, ap (λ φ. process φ r e) (blank_or_below (eqb x 0) k L b (Adopt (k - 1)) (Scan (k + 1)) (Adopt L) (Adopt (L + b)) ok))
later_limit W L b r e (Adopt k) leader x ok = (refl, refl)
later_limit W L b r e (Compare i) leader x ok = (refl, refl)
later_limit W L b r e (Flag i) leader x ok = (refl, refl)
later_limit W L b r e (CheckMark i) leader x ok = (refl, refl)
later_limit W L b r e (CheckValue i) leader x ok = (refl, refl)
later_limit W L b r e Commit leader x ok = (refl, refl)
later_limit W L b r e Exhausted leader x ok = (refl, refl)
later_limit W L b r e Crashed leader x ok = (refl, refl)
later_limit W L b r e Decided leader x ok = (refl, refl)
later_limit W L b r e HasCommitted leader x ok = (refl, refl)
later_limit W L b r e HasAdopted leader x ok = (refl, refl)

-- ---- one operation

-- No operation but a step reads the limit.
abbrev pub clear_of : Session → Operation → Bool
clear_of s (Propose p v) = true
clear_of s (Step p leader) = let q = process_at s p in clear s.limit q.round q.phase (found s (access s.limit q leader))
clear_of s (Learn p) = true
clear_of s (Crash p) = true

step_later : (W b : ℕ) (s : Session) (p : ℕ) (leader : Bool) → clear_of s (Step p leader) ≡ true →
    let q = process_at s p in
    let L = s.limit in
    turn s p (access (L + b) q leader) (next W (L + b) q leader) ≡ turn s p (access L q leader) (next W L q leader)
unfolding turn access next
step_later W b s p leader ok =
    let q = process_at s p in
    let same = later_limit W s.limit b q.round q.estimate q.phase leader (found s (access s.limit q leader)) ok in
    rw (same.0, same.1) refl

after_grown : (W a b : ℕ) (s : Session) (o : Operation) → clear_of s o ≡ true → after W (grown a b s) o ≡ grown a b (after W s o)
unfolding after access_of becomes
after_grown W a b s (Propose p v) ok = turn_grown a b s p _ _
after_grown W a b s (Step p leader) ok = turn_grown a b s p _ _ ∙ ap (grown a b) (step_later W b s p leader ok)
after_grown W a b s (Learn p) ok = turn_grown a b s p _ _
after_grown W a b s (Crash p) ok = turn_grown a b s p _ _

-- The session and the number of an answer.
pub stepped_grown : (a b k : ℕ) (s t : Session) (c d e : Counts) →
    let x = stepped k s t c d in
    let y = stepped k (grown a b s) (grown a b t) c e in
    (y.session ≡ grown a b x.session) × (y.code ≡ x.code)
stepped_grown a b zero s t c d e = (refl, refl)
stepped_grown a b (suc k) s t c d e = (refl, refl)

pub perform_grown : (W a b : ℕ) (s : Session) (o : Operation) → process_of o < s.n → clear_of s o ≡ true →
    let x = perform W s no_counts o in
    let y = perform W (grown a b s) no_counts o in
    (y.session ≡ grown a b x.session) × (y.code ≡ x.code)
unfolding perform answered
perform_grown W a b s o below ok =
    let number : refusal (tests (grown a b s) no_counts o) ≡ refusal (tests s no_counts o) =
    rw (
      tests_are (grown a b s) no_counts o,
      tests_are s no_counts o,
      lt-leb (s.n + a) (process_of o) (omega arith),
      lt-leb s.n (process_of o) below,
    )
    refl in
    rw (number, after_grown W a b s o ok) (stepped_grown a b (refusal (tests s no_counts o)) s (after W s o) no_counts _ _)

-- ---- a list of operations

module _ {O A : Type 0} (M : System Session (Input O) A Event) (test : Session → O → Bool) where
  -- In one pass: the test holds of every operation in its place, and `end` of what they come to.
  unfoldable pub watched : Session → List Event → List O → (end : Session → List Event → Bool) → Bool
  watched s h [] end = end s h
  watched s h (o ∷ os) end = test s o && watched (M.state (M.perform s (uncounted o))) (events M s (uncounted o) ++ h) os end

  -- What they come to, in the session and in the one that has a processes and b rounds more.
  pub record Same (a b : ℕ) (s : Session) (h : List Event) (os : List O) (end : Session → List Event → Bool) : Type 0 where
    pub left : Session
    pub past : List Event
    pub holds : end left past ≡ true
    pub played : played M (grown a b s) h os ≡ (grown a b left, past)

  -- Where the test lets nothing through that is not the same with more of both.
  module _ (a b : ℕ) (one : (s : Session) (o : O) → test s o ≡ true →
      (M.state (M.perform (grown a b s) (uncounted o)) ≡ grown a b (M.state (M.perform s (uncounted o))))
      × (events M (grown a b s) (uncounted o) ≡ events M s (uncounted o))) where
    pub watched_same : (s : Session) (h : List Event) (os : List O) (end : Session → List Event → Bool) → watched s h os end ≡ true →
        Same a b s h os end
    unfolding watched played
    watched_same s h [] end all = record { left = s; past = h; holds = all; played = refl }
    watched_same s h (o ∷ os) end all =
        let k = one s o (and_left (test s o) _ all) in
        let rest = watched_same (M.state (M.perform s (uncounted o))) _ os end (and_right (test s o) _ all) in
        record { left = rest.left; past = rest.past; holds = rest.holds; played = rw (k.0, k.1) rest.played }

-- A step of a process of the session that does not come to the limit, or another operation of such a process. (No list here closes.)
abbrev pub inside : Session → Command → Bool
inside s (acts o) = ltb (process_of o) s.n && clear_of s o
inside s closes = false

pub sessions_same : (W a b : ℕ) (s : Session) (h : List Event) (os : List Command) (end : Session → List Event → Bool) →
    watched (sessions W) inside s h os end ≡ true → Same (sessions W) inside a b s h os end
unfolding execute
sessions_same W a b = watched_same (sessions W) inside a b one
  where
    one : (s : Session) (x : Command) → inside s x ≡ true →
        ((sessions W).state ((sessions W).perform (grown a b s) (uncounted x)) ≡ grown a b ((sessions W).state ((sessions W).perform s (uncounted x))))
        × (events (sessions W) (grown a b s) (uncounted x) ≡ events (sessions W) s (uncounted x))
    one s (acts o) ok =
        let below = ltb-true (process_of o) s.n (and_left (ltb (process_of o) s.n) _ ok) in
        let k = perform_grown W a b s o below (and_right (ltb (process_of o) s.n) _ ok) in
        (k.0, rw k.1 refl)
    one s closes ok = absurd (true≢false (sym ok))
