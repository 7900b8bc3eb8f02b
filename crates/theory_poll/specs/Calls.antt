-- The calls follow the machine, and what they answered stands in the records.
use Rattle.std.specs.Prelude.{◌≤◌, ◌≡◌, ◌∷◌, ◌⊎◌}
use Rattle.base.specs.Prelude.{ℕ, arith, refl, sym, ◌∙◌, ap, subst, ℕ_discrete, true, List, [], inl, inr, ⊎_elim}
use Rattle.model_laws.specs.Types.{Session, Counts, Process, Propose, Crash}
use Rattle.model.specs.Board.{process_at, idle}
use Rattle.model.specs.Machine.{answered, perform}
use Rattle.model.specs.Sound.{sound_for_as}
use Rattle.model_laws.specs.Accepted.{returned, never_three}
use Rattle.model_laws.specs.Answers.{stepped_code, operate_sound, propose_counts, crash_counts}
use Rattle.model_rule.specs.Event.{Event, proposal, Past, here, there, Proposed}
use Rattle.model_rule.specs.System.{inputs, machine, past, EachAsTheMachine}
use Rattle.model_rule.specs.Calls.{Input}
use Rattle.model_poll.specs.declared.Answer.{Answer}
use Rattle.model_poll.specs.Answers.{PollStepped}
use Rattle.model_poll.specs.Turn.{answer_of, Carries}
use Rattle.model_poll.specs.Machine.{PollOperation, proposes, turns, crashes, turn_tests, turned, unanswered, poll_perform}
use Rattle.model_poll.specs.Public.{poll_turn_for}
use Rattle.model_rule.specs.PollCalls.{polls, PollCall, poll_promised_for, PollRunWith}
use Rattle.model_rule.specs.PollRule.{Gave}
use Rattle.model_poll_laws.specs.Performs.{poll_process_of, poll_becomes, perform_cases, others_stay, own_becomes, accepted_below}
use Rattle.model_poll_laws.specs.Performs.{answered_stays, gives, turn_gives}
use Rattle.theory_board.specs.Step.{step_older}
use Rattle.theory_board.specs.Lists.{followed}
use Rattle.theory_board.specs.Reached.{Reached}
use Rattle.theory_poll.specs.Machine.{poll_operation_reached, poll_reached, answer_known}

-- ---- the calls follow the machine

-- What a call on a sound poll answers is what the machine answers.
promised_performs : (W : ℕ) (s : Session) (c : Counts) (o : PollOperation) → sound_for_as true W s ≡ true →
    poll_promised_for W s c o ≡ poll_perform W s c o
unfolding poll_perform poll_turn_for turned
promised_performs W s c (proposes p v) ok = ap unanswered (propose_counts true W s c p v ∙ operate_sound true W s c (Propose p v) ok)
promised_performs W s c (turns p) ok = rw ok refl
promised_performs W s c (crashes p) ok = ap unanswered (crash_counts true W s c p ∙ operate_sound true W s c (Crash p) ok)

-- At the window of a poll that the machine reached.
pub answered_as : (w : ℕ → ℕ) {n : ℕ} {s : Session} {h : List Event} → Reached true (w n) n (w n) s h → (c : Counts) (o : PollOperation) →
    poll_promised_for (w s.n) s c o ≡ poll_perform (w n) s c o
answered_as w {n} {s} m c o =
    let same : w s.n ≡ w n = ap w m.size in
    promised_performs (w s.n) s c o (rw same m.sound) ∙ rw same

-- The machine never returns 3.
pub never_unsound : (W : ℕ) (s : Session) (c : Counts) (o : PollOperation) → (poll_perform W s c o).code ≡ 3 → ⊥
unfolding poll_perform perform answered turned
never_unsound W s c (proposes p v) e = never_three s c (Propose p v) (sym (stepped_code _ s _ _ _) ∙ e)
never_unsound W s c (turns p) e =
    omega (arith, (returned 3 (turn_tests s c p) (omega arith) (sym (stepped_code _ s _ _ _) ∙ e)).0)
never_unsound W s c (crashes p) e = never_three s c (Crash p) (sym (stepped_code _ s _ _ _) ∙ e)

pub polls_followed : (w : ℕ → ℕ) {n : ℕ} {start : Session} {cs : List PollCall} {s : Session} → 1 ≤ w n →
    Reached true (w n) n (w n) start [] →
    PollRunWith w start cs s → EachAsTheMachine (polls (w n)) start cs × (s ≡ machine (polls (w n)) start (inputs cs))
polls_followed w {n} wide =
    followed (polls (w n)) (Reached true (w n) n (w n)) (λ s h f. poll_operation_reached wide f)
    (λ s h f i. (answered_as w i f.counts f.operation, never_unsound (w n) s f.counts f.operation))

-- ---- the answers

-- A call of the list that gave an answer is a turn, and its process has that answer still.
pub held : (W : ℕ) (start : Session) {c : PollCall} {older cs : List PollCall} (v : ℕ) → EachAsTheMachine (polls W) start cs →
    Past (c ∷ older) cs →
    Carries c.answer.answer v → (p : ℕ) × (c.input.operation ≡ turns p)
    × (answer_of (process_at (machine (polls W) start (inputs cs)) p) ≡ c.answer.answer)
held W start {c} {older} v each here has =
    let m = machine (polls W) start (inputs older) in
    let same = ap (λ (x : PollStepped). x.answer) each.0 in
    let g = gives W m c.input.counts c.input.operation v (subst (λ (a : Answer). Carries a v) same has) in
    (g.0, g.1, sym g.3 ∙ sym same)
held W start v each (there {e = d} {h = cs} stood) has =
    let m = machine (polls W) start (inputs cs) in
    let h = held W start v each.2 stood has in
    let still = answered_stays W m d.input.counts d.input.operation h.0 v
    (subst (λ (a : Answer). Carries a v) (sym h.2) has) in
    (h.0, h.1, ap answer_of still ∙ h.2)

-- The answer of the newest call is of a value that was proposed before it.
newest_proposed : {W n : ℕ} {start : Session} → 1 ≤ W → Reached true W n W start [] →
    (f : Input PollOperation) (fs : List (Input PollOperation)) (v : ℕ) →
    Carries (poll_perform W (machine (polls W) start fs) f.counts f.operation).answer v → Proposed v (past (polls W) start fs)
newest_proposed {W} {n} {start} wide i f fs v has =
    let m = machine (polls W) start fs in
    let g = gives W m f.counts f.operation v has in
    let q = process_at m g.0 in
    let known = (answer_known (poll_reached wide i (f ∷ fs)) g.0 v (subst (λ (a : Answer). Carries a v) g.3 has)).0 in
    step_older (proposal v) g.0 q.round q.estimate q.phase (λ z. z)
    (rw (g.2, g.1) at known)

-- "Each answer was proposed", by an accepted call before it.
pub answers_proposed : {W n : ℕ} {start : Session} {c : PollCall} {older cs : List PollCall} → 1 ≤ W → Reached true W n W start [] →
    (v : ℕ) →
    EachAsTheMachine (polls W) start cs → Past (c ∷ older) cs → Carries c.answer.answer v →
    Proposed v (past (polls W) start (inputs older))
answers_proposed {c = c} {older = older} wide i v each here has =
    newest_proposed wide i c.input (inputs older) v
    (subst (λ (a : Answer). Carries a v) (ap (λ (x : PollStepped). x.answer) each.0) has)
answers_proposed wide i v each (there stood) has = answers_proposed wide i v each.2 stood has

-- ---- the records

-- After one operation, a process with an answer had it before, or the operation is its own accepted turn.
new_answer : {W n : ℕ} {m : Session} {h : List Event} → Reached true W n W m h → (c : Counts) (o : PollOperation) (p v : ℕ) →
    Carries (answer_of (process_at (poll_perform W m c o).session p)) v →
    (answer_of (process_at m p) ≡ answer_of (process_at (poll_perform W m c o).session p)) ⊎ ((o ≡ turns p) × ((poll_perform W m c o).code ≡ 0))
unfolding answer_of
new_answer {W} {n} {m} i c o p v =
    perform_cases (λ k t. Carries (answer_of (process_at t p)) v →
    (answer_of (process_at m p) ≡ answer_of (process_at t p)) ⊎ ((o ≡ turns p) × (k ≡ 0))) W m c o
    (λ a has.
    elim (ℕ_discrete p (poll_process_of o)) [
      | yes e ↦
          let below = accepted_below m c o a in
          let own = own_becomes W m o (omega (arith, i.invariant.long.processes)) in
          inr (by_turn o p e (subst (λ (q : Process). Carries (answer_of q) v) own (rw e at has)), refl)
      | no other ↦ inl (ap answer_of (sym (others_stay W m o p other)))
    ])
    (λ k has. inl refl)
  where
    by_turn : (o : PollOperation) (p : ℕ) → p ≡ poll_process_of o → Carries (answer_of (poll_becomes W m o)) v → o ≡ turns p
    by_turn (proposes j u) p e has = absurd has
    by_turn (turns j) p e has = rw e refl
    by_turn (crashes j) p e has = absurd has

-- No process of the poll that the calls began with has proposed.
abbrev pub Fresh : Session → Type 0
Fresh start = (p : ℕ) → process_at start p ≡ idle

-- A record shows an answer only if a turn of its process gave it.
pub shown_given : {W n : ℕ} {start : Session} → 1 ≤ W → Reached true W n W start [] → Fresh start → (cs : List PollCall) →
    EachAsTheMachine (polls W) start cs →
    (p v : ℕ) → let a = answer_of (process_at (machine (polls W) start (inputs cs)) p) in Carries a v → Gave p a cs
unfolding answer_of
shown_given {W} {n} {start} wide i fresh [] each p v has = absurd (rw (fresh p) at has)
shown_given {W} {n} {start} wide i fresh (c ∷ cs) each p v has =
    let m = machine (polls W) start (inputs cs) in
    let o = c.input.operation in
    ⊎_elim
    (λ same.
    let g = shown_given wide i fresh cs each.2 p v (subst (λ (a : Answer). Carries a v) (sym same) has) in
    record { turn = g.turn; older = g.older; stood = there g.stood; own = g.own; answer = g.answer ∙ same })
    (λ own.
    record {
      turn = c;
      older = cs;
      stood = here;
      own = own.0;
      answer = ap (λ (x : PollStepped). x.answer) each.0 ∙ turn_gives W m c.input.counts o p own.0 own.1;
    })
    (new_answer (poll_reached wide i (inputs cs)) c.input.counts o p v has)
