-- The rule of polls holds at every window that is wide enough, and so in service; and contested is the number of marked rounds.
use Rattle.std.specs.Prelude.{◌*◌, ◌≤◌, ◌<◌, ◌≡◌}
use Rattle.base.specs.Prelude.{ℕ, arith, refl, sym, ◌∙◌, subst, List, [], true}
use Rattle.model_laws.specs.Types.{Session, Counts, Propose, Crash}
use Rattle.model.specs.Window.{window}
use Rattle.model.specs.Board.{limits_of, process_at, idle, opened, max_processes}
use Rattle.model.specs.Refusal.{refusal}
use Rattle.model.specs.Machine.{access_of}
use Rattle.model_laws.specs.Windows.{window_square, window_least}
use Rattle.model_laws.specs.Callers.{caller_limits}
use Rattle.model_poll.specs.declared.Answer.{Answer}
use Rattle.model_poll.specs.Answers.{PollStepped}
use Rattle.model_poll.specs.Turn.{answer_of, Carries}
use Rattle.model_poll.specs.Machine.{turns, PollOperation, proposes, crashes, turn_tests, turn_after, turn_counts, turned, poll_perform}
use Rattle.model_poll_laws.specs.Opening.{poll_opened}
use Rattle.model_poll_laws.specs.Answers.{turn_accepted}
use Rattle.model_poll_laws.specs.Sounds.{poll_access_range, poll_process}
use Rattle.model_rule.specs.Event.{Event}
use Rattle.model_rule.specs.Safe.{threshold, PollBelowThreshold}
use Rattle.model_rule.specs.System.{inputs, machine, past, EachAsTheMachine}
use Rattle.model_rule.specs.PollCalls.{polls, PollCall, PollRunWith}
use Rattle.model_rule.specs.PollRule.{Gave, PollRule, PollClaimWith, EveryPollWindow, PollClaim, CallerPollClaim}
use Rattle.model_rule.specs.Contested.{marked_rounds, PollContestedRule}
use Rattle.theory_board.specs.Marks.{GrowAlike, turn_adds, perform_adds, opened_unmarked, calls_contested}
use Rattle.theory_board.specs.Opening.{same_everywhere}
use Rattle.theory_board.specs.Lists.{after_each}
use Rattle.theory_board.specs.Reached.{Reached}
use Rattle.theory_count.specs.Grid.{wide_below, below_wide}
use Rattle.theory_poll.specs.Machine.{poll_reached, opened_poll, answers_agree}
use Rattle.theory_poll.specs.Unanimous.{AllCalm, machine_calm, opened_calm, calm_answer}
use Rattle.theory_poll.specs.Calls.{Fresh, polls_followed, held, answers_proposed, shown_given}
use Rattle.theory_poll.specs.Passes.{taken_pass, calls_taken}

-- ---- of the machine, at any window W with 2 ≤ W and a threshold above n

module _ {W n : ℕ} {start : Session} (wide : 2 ≤ W) (few : n < threshold W) (i : Reached true W n W start []) (fresh : Fresh start)
    (calm : AllCalm start []) (cs : List PollCall)
    (each : EachAsTheMachine (polls W) start cs) where
  abbrev m : Session
  m = machine (polls W) start (inputs cs)

  some : 1 ≤ W
  some = omega arith

  here : Reached true W n W m (past (polls W) start (inputs cs))
  here = poll_reached some i (inputs cs)

  kept_answer : {p : ℕ} {a : Answer} (v : ℕ) → Gave p a cs → Carries a v → answer_of (process_at m p) ≡ a
  kept_answer {p} {a} v gave has =
      let k = held W start v each gave.stood (subst (λ (x : Answer). Carries x v) (sym gave.answer) has) in
      let own : turns k.0 ≡ turns p = sym k.1 ∙ gave.own in
      let same : k.0 ≡ p = cc in
      rw same at (k.2 ∙ gave.answer)

  pub calls_rule : PollRule W start cs m
  calls_rule =
      record {
        validity = λ v stood has. answers_proposed some i v each stood has;
        agreement =
            λ u v one other committed has.
            let a = held W start v each one (rw committed refl) in
            let b = held W start u each other has in
            answers_agree here wide few a.0 b.0 u v (a.2 ∙ committed) (subst (λ (x : Answer). Carries x u) (sym b.2) has);
        unanimity =
            λ u v only stood has.
            let a = held W start u each stood has in
            sym a.2 ∙ calm_answer here v only (machine_calm some i calm v (inputs cs) only) a.0 u
            (subst (λ (x : Answer). Carries x u) (sym a.2) has);
        kept = λ v gave has. kept_answer v gave has;
        shown = λ p v has. shown_given some i fresh cs each p v has;
        one_pass = λ p. (taken_pass here p _ (calls_taken some i fresh cs each p)).0;
        working = λ p active. (taken_pass here p _ (calls_taken some i fresh cs each p)).1 active;
      }

-- ---- of the calls

-- A poll just opened is fresh.
opened_fresh : (W n : ℕ) → Fresh (opened n W)
unfolding opened
opened_fresh W n p = same_everywhere max_processes p idle

-- The rule of polls, below the threshold of every window.
pub poll_below_threshold : PollBelowThreshold
poll_below_threshold w n few most up ok cs s run =
    let start = opened n (w n) in
    let o = poll_opened most up (w n) n ok in
    let least : 2 ≤ w n = below_wide (w n) n o.0 few in
    let wide : 1 ≤ w n = omega arith in
    let reached = opened_poll (w n) n o.0 o.1 o.2 in
    let here : PollRunWith w start cs s = rw o.3 at run in
    let f = polls_followed w wide reached here in
    let holds : (cs : List PollCall) (s : Session) → PollRunWith w start cs s → PollRule (w n) start cs s =
    λ cs s run.
    let f = polls_followed w wide reached run in
    rw f.1 (calls_rule least few reached (opened_fresh (w n) n) (opened_calm (w n) n) cs f.0) in
    rw o.3 (f.0, f.1, after_each (polls (w n)) (λ s cs. PollRule (w n) start cs s) holds here)

-- Where the square of the window is at least 4n.
pub every_poll_window : EveryPollWindow
every_poll_window w n square = poll_below_threshold w n (wide_below (w n) n square)

-- At a window that is one number, in the words of 02, wish 7.
pub poll_rule_at : (W n : ℕ) → 2 ≤ W → 4 * n ≤ W * W → PollClaimWith (λ m. W) n
poll_rule_at W n least square = every_poll_window (λ m. W) n square

-- And in service,
pub poll_rule : PollClaim
poll_rule n = every_poll_window window n (window_square n)

-- of both callers.
pub caller_poll_rule : CallerPollClaim
caller_poll_rule caller n = poll_rule n (limits_of caller) (caller_limits caller)

-- ---- contested is the number of marked rounds, after every list of calls on one tally

-- One operation on a poll that the machine reached.
pub poll_reached_adds : {W n : ℕ} {s : Session} {h : List Event} (c : Counts) (o : PollOperation) → Reached true W n W s h →
    let r = poll_perform W s c o in GrowAlike c s r.counts r.session
unfolding poll_perform turned turn_after turn_counts access_of
poll_reached_adds {W} {s = s} c (proposes p v) i = perform_adds s c i.invariant.long.marks W (Propose p v) tt
poll_reached_adds {W} {s = s} c (turns p) i =
    turn_adds s c i.invariant.long.marks (refusal (turn_tests s c p)) p _ _
    (λ e. poll_access_range W s.limit s.limit (process_at s p) (omega arith)
    (poll_process W s i.sound p (turn_accepted s c p e).here))
poll_reached_adds {W} {s = s} c (crashes p) i = perform_adds s c i.invariant.long.marks W (Crash p) tt

pub poll_contested : PollContestedRule
poll_contested most up n ok cs s c run tally =
    let o = poll_opened most up (window n) n ok in
    let wide : 1 ≤ window n = omega (arith, window_least n o.0) in
    let reached = opened_poll (window n) n o.0 o.1 o.2 in
    let here : PollRunWith window (opened n (window n)) cs s = rw o.3 at run in
    let f = polls_followed window wide reached here in
    rw f.1
    (calls_contested (polls (window n)) (λ (a : PollStepped). a.counts) marked_rounds _ (opened_unmarked n (window n))
    (λ fs f. poll_reached_adds f.counts f.operation (poll_reached wide reached fs))
    cs c f.0 tally)
