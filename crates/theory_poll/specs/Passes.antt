-- One pass: the turns that each process took, by where it stands.
use Rattle.std.specs.Prelude.{◌≤◌, ◌<◌, ◌≡◌, ◌&&◌, ◌∷◌}
use Rattle.base.specs.Prelude.{ℕ, suc, arith, refl, sym, ap, ℕ_discrete, true, false, cond, List, [], not-false}
use Rattle.base.specs.Prelude.{eqb, eq-eqb, ne_eqb}
use Rattle.model_laws.specs.Types.{Session, Counts, Process}
use Rattle.model.specs.declared.Status.TheVariants.{Active}
use Rattle.model.specs.Board.{process_at}
use Rattle.model.specs.Refusal.{status, is_outside}
use Rattle.model.specs.Sound.{sound_process_as}
use Rattle.model_laws.specs.Phases.{process_facts}
use Rattle.model_laws.specs.Sounds.{sound_process_law}
use Rattle.model_poll.specs.Answers.{PollStepped}
use Rattle.model_poll.specs.Turn.{pass_turns}
use Rattle.model_poll.specs.Machine.{PollOperation, proposes, turns, crashes, poll_perform}
use Rattle.model_rule.specs.System.{inputs, machine, EachAsTheMachine}
use Rattle.model_rule.specs.PollCalls.{polls, PollCall, is_turn_of, turns_of}
use Rattle.model_poll_laws.specs.Sounds.{as_session, round_rule, poll_limit}
use Rattle.model_poll_laws.specs.Performs.{PollAccepted, poll_process_of, poll_becomes, perform_cases, others_stay, own_becomes}
use Rattle.model_poll_laws.specs.Performs.{accepted_below}
use Rattle.model_poll_laws.specs.Pass.{Taken, taken_low, taken_turn}
use Rattle.theory_board.specs.Reached.{Reached}
use Rattle.theory_poll.specs.Machine.{poll_reached}
use Rattle.theory_poll.specs.Calls.{Fresh}
use Rattle.model_rule.specs.Event.{Event}

-- So many turns were taken by the process with this record.
abbrev TakenBy : (W : ℕ) → Process → ℕ → Type 0
TakenBy W q t = Taken W q.round t q.phase

-- The operation of another process is no turn of process p.
not_its_turn : (o : PollOperation) (p : ℕ) → (p ≡ poll_process_of o → ⊥) → is_turn_of p o ≡ false
not_its_turn (proposes m v) p other = refl
not_its_turn (turns m) p other = ne_eqb m p (λ e. other (sym e))
not_its_turn (crashes m) p other = refl

module _ {W n : ℕ} {m : Session} {h : List Event} (i : Reached true W n W m h) where
  sound_at : (p : ℕ) → sound_process_as true W W (process_at m p) ≡ true
  sound_at p = rw (poll_limit W m i.sound) at (sound_process_law true W m p i.sound)

  -- What soundness says of a record, for the count.
  pub taken_pass : (p t : ℕ) → TakenBy W (process_at m p) t →
      let σ = status (process_at m p).phase in
      (t ≤ pass_turns W) × (σ ≡ Active → t < pass_turns W) × (is_outside σ ≡ true → t ≡ 0)
  taken_pass p t k =
      let q = process_at m p in
      let sound = sound_at p in
      taken_low W q.round t q.phase (round_rule W W q sound) (λ g. (process_facts W W q (as_session W W q g sound)).phase) k

  -- What an accepted operation makes of the record of its process, with the turn counted if it is one.
  own_taken : (c : Counts) (o : PollOperation) (t : ℕ) → PollAccepted m c o → TakenBy W (process_at m (poll_process_of o)) t →
      TakenBy W (poll_becomes W m o) (cond (is_turn_of (poll_process_of o) o) (suc t) t)
  own_taken c (proposes p v) t a k = omega (arith, (taken_pass p t k).2 (not-false _ a.own.1.0))
  own_taken c (turns p) t a k =
      rw (eq-eqb p p refl, poll_limit W m i.sound) (taken_turn W (process_at m p) _ t a.inside a.here (sound_at p) k)
  own_taken c (crashes p) t a k = (taken_pass p t k).0

  -- The turns of process p after one operation more.
  operation_taken : (c : Counts) (o : PollOperation) (p t : ℕ) → TakenBy W (process_at m p) t →
      let r = poll_perform W m c o in TakenBy W (process_at r.session p) (cond (eqb r.code 0 && is_turn_of p o) (suc t) t)
  operation_taken c o p t k =
      perform_cases (λ j s. TakenBy W (process_at s p) (cond (eqb j 0 && is_turn_of p o) (suc t) t)) W m c o
      (λ a.
      elim (ℕ_discrete p (poll_process_of o)) [
        | yes e ↦
            let below = accepted_below m c o a in
            rw (e, own_becomes W m o (omega (arith, i.invariant.long.processes))) (own_taken c o t a (rw e at k))
        | no other ↦ rw (others_stay W m o p other, not_its_turn o p other) k
      ])
      (λ j. rw (ne_eqb (suc j) 0 (λ e. omega arith)) k)

-- A list of calls.
pub calls_taken : {W n : ℕ} {start : Session} → 1 ≤ W → Reached true W n W start [] → Fresh start → (cs : List PollCall) →
    EachAsTheMachine (polls W) start cs → (p : ℕ) →
    TakenBy W (process_at (machine (polls W) start (inputs cs)) p) (turns_of p cs)
calls_taken wide i fresh [] each p = rw (fresh p) refl
calls_taken {W} {n} {start} wide i fresh (c ∷ cs) each p =
    rw (ap (λ (x : PollStepped). x.code) each.0)
    (operation_taken (poll_reached wide i (inputs cs)) c.input.counts c.input.operation p (turns_of p cs)
    (calls_taken wide i fresh cs each.2 p))
