-- The contracts of the functions whose calls the agreement rule and the rule of polls take, read off the functions: each one requires
-- nothing, and ensures what the rule takes for granted of its call (`promised`, `poll_promised`, and the accepted opening). Any other
-- contract is refused here. (`Houses` has those that the rule of houses takes.)
use Rattle.std.specs.Prelude.{◌≡◌}
use Rattle.base.specs.Prelude.{refl, ap, ℕ, Bool}
use seplogic.Ra.Ura.{Ura}
use base.Logic.{SProp, emp}
use base.Fml.{Lft}
use prog.Memory.{Memory}
use prog.Routine.{Routine}
use types.Logic.{Logic}
use contract.Lifetimes.{Lfts}
use contract.Monad.{Fun, fact}
use Rattle.std.specs.Borrow.{MutBor}
use denote.Triple.Entry.{Res}
use denote.Triple.Clauses.{Ended, AtExit, ClausesAt}
use Rattle.model.specs.declared.Caller.{Caller}
use Rattle.model.specs.declared.Session.{Session}
use Rattle.model.specs.declared.Counts.{Counts}
use Rattle.model.specs.declared.Operation.{Operation}
use Rattle.model.specs.declared.Operation.TheVariants.{Propose, Step, Learn, Crash}
use Rattle.model.specs.Answers.{Changed, told, told_counted, told_opened}
use Rattle.model.specs.Machine.{acts, closes, opening}
use Rattle.model.specs.Public
use Rattle.model.specs.Public.{with_counts}
use Rattle.model_poll.specs.Machine.{proposes, turns, crashes, unanswered, poll_opening}
use Rattle.model_poll.specs.Answers.{told_polled, told_polled_counted}
use Rattle.model_poll.specs.Public.{poll_propose, poll_crash, with_lent}
use Rattle.model_rule.specs.Calls.{promised}
use Rattle.model_rule.specs.PollCalls.{poll_promised}
use Rattle.session_open.specs.contracts.open as opens
use Rattle.session_propose.specs.contracts.propose as propose
use Rattle.session_crash.specs.contracts.crash as crash
use Rattle.session_close.specs.contracts.close as close
use Rattle.session_step_lent.specs.contracts.step as step
use Rattle.session_step_lent.specs.contracts.learn as learn
use Rattle.session_step.specs.contracts.step as step-by-value
use Rattle.session_learn.specs.contracts.learn as learn-by-value
use Rattle.session_operate.specs.contracts.operate as operate
use Rattle.poll_open.specs.contracts.open as poll-opens
use Rattle.poll_change.specs.contracts.propose as poll-propose
use Rattle.poll_change.specs.contracts.crash as poll-crash
use Rattle.poll_turn_lent.specs.contracts.turn as turn
use Rattle.poll_turn.specs.contracts.turn as turn-by-value

-- The contract that requires nothing, and ensures of the result, and of what is lent as it stands at exit, the fact that is said.
abbrev pub ensures : {M : Type 1} (𝓤 : Ura M) {T : Ended} {κs : Lfts T.signature.lifetimes} →
    (Res T.signature κs → AtExit T κs → Type 0) → ClausesAt 𝓤 T κs
ensures 𝓤 said = record { ghost = Unit {0}; requires = λ g. emp 𝓤; ensures = λ g r e. fact 𝓤 (said r e) }

module _ {M : Type 1} {𝓤 : Ura M} (𝓛 : Logic 𝓤) (mem : Memory → SProp 𝓤) (run : Routine → Fun 𝓤) where
  pub open_contract : (caller : Caller) (n L : ℕ) →
      opens.clauses 𝓛 mem run tt (caller, (n, (L, tt))) ≡ ensures 𝓤 (λ r e. told_opened r ≡ opening caller n L)
  open_contract caller n L = refl

  pub poll_open_contract : (caller : Caller) (n : ℕ) →
      poll-opens.clauses 𝓛 mem run tt (caller, (n, tt)) ≡ ensures 𝓤 (λ r e. told_opened r ≡ poll_opening caller n)
  poll_open_contract caller n = refl

  -- A close names no process, and is lent no counts.
  pub close_contract : (s : Session) → close.clauses 𝓛 mem run tt (s, tt) ≡ ensures 𝓤 (λ r e. told s r ≡ Public.close s)
  close_contract s = refl

  module _ (s : Session) (p : ℕ) where
    -- A proposal and a crash are lent no counts.
    pub propose_contract : (v : ℕ) → propose.clauses 𝓛 mem run tt (s, (p, (v, tt))) ≡ ensures 𝓤 (λ r e. told s r ≡ Public.propose s p v)
    propose_contract v = refl

    pub crash_contract : crash.clauses 𝓛 mem run tt (s, (p, tt)) ≡ ensures 𝓤 (λ r e. told s r ≡ Public.crash s p)
    crash_contract = refl

    pub poll_propose_contract : (v : ℕ) → poll-propose.clauses 𝓛 mem run tt (s, (p, (v, tt))) ≡ ensures 𝓤 (λ r e. told s r ≡ poll_propose s p v)
    poll_propose_contract v = refl

    pub poll_crash_contract : poll-crash.clauses 𝓛 mem run tt (s, (p, tt)) ≡ ensures 𝓤 (λ r e. told s r ≡ poll_crash s p)
    poll_crash_contract = refl

    -- A work turn, a look and a poll's turn are: e has the counts as they stand at exit.
    pub step_contract : (κ : Lft) (leader : Bool) (counts : MutBor Counts) →
        step.clauses 𝓛 mem run (κ, tt) (s, (p, (leader, (counts, tt))))
        ≡ ensures 𝓤 (λ r e. with_counts (told s r) e.1.1.1.0.now ≡ promised s counts.now (acts (Step p leader)))
    step_contract κ leader counts = refl

    pub learn_contract : (κ : Lft) (counts : MutBor Counts) →
        learn.clauses 𝓛 mem run (κ, tt) (s, (p, (counts, tt)))
        ≡ ensures 𝓤 (λ r e. with_counts (told s r) e.1.1.0.now ≡ promised s counts.now (acts (Learn p)))
    learn_contract κ counts = refl

    pub turn_contract : (κ : Lft) (counts : MutBor Counts) →
        turn.clauses 𝓛 mem run (κ, tt) (s, (p, (counts, tt)))
        ≡ ensures 𝓤 (λ r e. with_lent (told_polled s r) e.1.1.0.now ≡ poll_promised s counts.now (turns p))
    turn_contract κ counts = refl

    -- With the counts by value.
    pub step_value_contract : (leader : Bool) (c : Counts) →
        step-by-value.clauses 𝓛 mem run tt (s, (p, (leader, (c, tt)))) ≡ ensures 𝓤 (λ r e. told_counted s c r ≡ promised s c (acts (Step p leader)))
    step_value_contract leader c = refl

    pub learn_value_contract : (c : Counts) →
        learn-by-value.clauses 𝓛 mem run tt (s, (p, (c, tt))) ≡ ensures 𝓤 (λ r e. told_counted s c r ≡ promised s c (acts (Learn p)))
    learn_value_contract c = refl

    pub turn_value_contract : (c : Counts) →
        turn-by-value.clauses 𝓛 mem run tt (s, (p, (c, tt))) ≡ ensures 𝓤 (λ r e. told_polled_counted s c r ≡ poll_promised s c (turns p))
    turn_value_contract c = refl

  -- Any operation, with the counts by value. (That is `promised`: `promised_operate` of `theory_agreement`.)
  pub operate_contract : (s : Session) (c : Counts) (o : Operation) →
      operate.clauses 𝓛 mem run tt (s, (c, (o, tt))) ≡ ensures 𝓤 (λ r e. told_counted s c r ≡ Public.operate s c o)
  operate_contract s c o = refl

-- Where no counts are lent, they stand as they stood: what the contract says of the answer r, as told, is what the rule takes.
pub propose_promised : (s : Session) (c : Counts) (p v : ℕ) (r : Changed) → r ≡ Public.propose s p v →
    with_counts r c ≡ promised s c (acts (Propose p v))
propose_promised s c p v r e = ap (λ x. with_counts x c) e

pub crash_promised : (s : Session) (c : Counts) (p : ℕ) (r : Changed) → r ≡ Public.crash s p →
    with_counts r c ≡ promised s c (acts (Crash p))
crash_promised s c p r e = ap (λ x. with_counts x c) e

pub close_promised : (s : Session) (c : Counts) (r : Changed) → r ≡ Public.close s → with_counts r c ≡ promised s c closes
close_promised s c r e = ap (λ x. with_counts x c) e

-- Nor is an answer given by a poll.
pub poll_propose_promised : (s : Session) (c : Counts) (p v : ℕ) (r : Changed) → r ≡ poll_propose s p v →
    unanswered (with_counts r c) ≡ poll_promised s c (proposes p v)
poll_propose_promised s c p v r e = ap (λ x. unanswered (with_counts x c)) e

pub poll_crash_promised : (s : Session) (c : Counts) (p : ℕ) (r : Changed) → r ≡ poll_crash s p →
    unanswered (with_counts r c) ≡ poll_promised s c (crashes p)
poll_crash_promised s c p r e = ap (λ x. unanswered (with_counts x c)) e
