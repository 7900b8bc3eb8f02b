-- The agreement rule holds at every window that is wide enough, and so in service: the calls follow the machine, whose rule holds.
use Rattle.std.specs.Prelude.{◌*◌, ◌≤◌, ◌≡◌}
use Rattle.base.specs.Prelude.{ℕ, arith, refl, sym, ◌∙◌, ap, false, List, []}
use Rattle.model_laws.specs.Types.{Limits, Session, Counts, Operation, Propose, Step, Learn, Crash, Command, acts, closes}
use Rattle.model.specs.Window.{window}
use Rattle.model.specs.Numbers.{unsound}
use Rattle.model.specs.Board.{limits_of, UpToServer}
use Rattle.model.specs.Machine.{answered, perform, execute, opening_for}
use Rattle.model.specs.Public.{operate_for_as, step_for, learn_for, close_for}
use Rattle.model_laws.specs.Windows.{window_square}
use Rattle.model_laws.specs.Accepted.{never_three}
use Rattle.model_laws.specs.Callers.{caller_limits, opening_held}
use Rattle.model_laws.specs.Answers.{stepped_code, operate_sound, propose_counts, crash_counts}
use Rattle.model_rule.specs.Event.{Event}
use Rattle.model_rule.specs.System.{inputs, machine, past, EachAsTheMachine}
use Rattle.model_rule.specs.Calls.{sessions, SessionCall, promised_for, RunWith}
use Rattle.model_rule.specs.Rule.{Rule, ProposalsStand, EveryWindow, AgreementRule, CallerAgreement}
use Rattle.model_rule.specs.Safe.{Safe, BelowThreshold}
use Rattle.theory_count.specs.Grid.{wide_below, below_wide}
use Rattle.theory_board.specs.Reached.{Reached, command_reached, machine_reached, opened_session}
use Rattle.theory_board.specs.Lists.{followed, after_each}
use Rattle.theory_agreement.specs.Conclusions.{reached_below}
use Rattle.theory_agreement.specs.Closed.{proposals_stand}

-- What a call answers is what the operation answers: a proposal and a crash leave any counts.
pub promised_operate : (W : ℕ) (s : Session) (c : Counts) (o : Operation) → promised_for W s c (acts o) ≡ operate_for_as false W s c o
unfolding step_for learn_for
promised_operate W s c (Propose p v) = propose_counts false W s c p v
promised_operate W s c (Step p leader) = refl
promised_operate W s c (Learn p) = refl
promised_operate W s c (Crash p) = crash_counts false W s c p

-- A session that the machine reached: every call at its window is answered as the machine answers, and not 3.
module _ (w : ℕ → ℕ) {n L : ℕ} {m : Session} {h : List Event} (i : Reached false (w n) n L m h) (c : Counts) where
  pub promised_as : (x : Command) → promised_for (w m.n) m c x ≡ execute (w n) m c x
  unfolding execute close_for
  promised_as (acts o) =
      let same : w m.n ≡ w n = ap w i.size in
      promised_operate (w m.n) m c o ∙ operate_sound false (w m.n) m c o (rw same i.sound) ∙ rw same
  promised_as closes = rw (ap w i.size, i.sound)

pub never_unsound : (W : ℕ) (m : Session) (c : Counts) (x : Command) → (execute W m c x).code ≡ unsound → ⊥
unfolding execute perform answered
never_unsound W m c (acts o) e = never_three m c o (sym (stepped_code _ m _ _ _) ∙ e)
never_unsound W m c closes e = omega arith

-- A list of calls follows the machine: each is answered as the machine answers, and the session at the end is the machine's.
pub sessions_followed : (w : ℕ → ℕ) {n L : ℕ} {start : Session} {cs : List SessionCall} {s : Session} → 1 ≤ w n →
    Reached false (w n) n L start [] → RunWith w start cs s →
    EachAsTheMachine (sessions (w n)) start cs × (s ≡ machine (sessions (w n)) start (inputs cs))
sessions_followed w {n} {L} wide =
    followed (sessions (w n)) (Reached false (w n) n L) (λ s h f. command_reached wide f)
    (λ s h f i. (promised_as w i f.counts f.operation, never_unsound (w n) s f.counts f.operation))

-- An accepted opening, within limits up to the server's.
pub opening_reached : (most : Limits) → UpToServer most → (W n L : ℕ) → (opening_for most W n L).code ≡ 0 →
    (1 ≤ n) × Reached false W n L (opening_for most W n L).session []
opening_reached most up W n L ok =
    let a = opening_held most up W n L ok in (a.0, rw a.4 (opened_session W n L a.0 a.1 a.2 a.3))

-- The agreement rule, below the threshold of every window.
pub below_threshold : BelowThreshold
below_threshold w n L few most up ok cs s run =
    let M = sessions (w n) in
    let start = (opening_for most (w n) n L).session in
    let o = opening_reached most up (w n) n L ok in
    let least : 2 ≤ w n = below_wide (w n) n o.0 few in
    let wide : 1 ≤ w n = omega arith in
    let f = sessions_followed w wide o.1 run in
    let holds : (cs : List SessionCall) (s : Session) → RunWith w start cs s →
    Rule s (past M start (inputs cs)) × ProposalsStand (w n) start cs =
    λ cs s run. (
      rw (sessions_followed w wide o.1 run).1 (reached_below least few (machine_reached wide o.1 (inputs cs))),
      proposals_stand (w n) start,
    ) in
    (f.0, f.1, after_each M (λ s cs. Rule s (past M start (inputs cs)) × ProposalsStand (w n) start cs) holds run)

-- Where the square of the window is at least 4n.
pub every_window : EveryWindow
every_window w n L square = below_threshold w n L (wide_below (w n) n square)

-- At a window that is one number: "every window W of at least 2 with W times W at least 4n".
pub wide_safe : (W n : ℕ) → 2 ≤ W → 4 * n ≤ W * W → Safe W n
wide_safe W n least square L = every_window (λ m. W) n L square

-- And in service,
pub agreement : AgreementRule
agreement n L = every_window window n L (window_square n)

-- of both callers.
pub caller_agreement : CallerAgreement
caller_agreement caller n L = agreement n L (limits_of caller) (caller_limits caller)
