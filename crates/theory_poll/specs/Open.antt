-- A sound poll is open (document 02, wish 10), so no call on a poll, sound or not, is refused with 18.
use Rattle.std.specs.Prelude.{◌≡◌, ◌∷◌}
use Rattle.base.specs.Prelude.{ℕ, arith, refl, sym, ◌∙◌, Bool, true, false, not, cond, List, leb, eqb}
use Rattle.model_laws.specs.Types.{Session, Counts, Propose, Crash}
use Rattle.model.specs.Board.{process_at, no_counts}
use Rattle.model.specs.Numbers.{unsound, closed_to_proposals}
use Rattle.model.specs.Refusal.{Test, status, is_outside, refusal, tests}
use Rattle.model.specs.Machine.{answered}
use Rattle.model.specs.Public.{operate_for_as, propose_for_as, crash_for_as}
use Rattle.model.specs.Sound.{sound_for_as}
use Rattle.model_laws.specs.Accepted.{returned}
use Rattle.model_laws.specs.Answers.{stepped_code}
use Rattle.model_poll.specs.Machine.{PollOperation, proposes, turns, crashes, turn_tests, turned}
use Rattle.model_poll.specs.Public.{poll_turn_for}
use Rattle.model_poll_laws.specs.Sounds.{poll_open}
use Rattle.model_rule.specs.PollCalls.{poll_promised_for}

-- A proposal to an open session: 4, 5, 6.
proposal_open : (a b d : Bool) → cond a 4 (cond b 5 (cond d 6 0)) ≡ closed_to_proposals → ⊥
proposal_open true b d e = omega arith
proposal_open false true d e = omega arith
proposal_open false false true e = omega arith
proposal_open false false false e = omega arith

pub never_closed : (W : ℕ) (s : Session) (c : Counts) (o : PollOperation) → (poll_promised_for W s c o).code ≡ closed_to_proposals → ⊥
unfolding propose_for_as crash_for_as operate_for_as answered poll_turn_for turned
never_closed W s c (proposes p v) e = go (sound_for_as true W s) refl (sym (stepped_code _ s _ _ _) ∙ e)
  where
    go : (b : Bool) → sound_for_as true W s ≡ b →
        cond (not b) unsound (refusal (tests s no_counts (Propose p v))) ≡ closed_to_proposals → ⊥
    go true eb k =
        let second = not (is_outside (status (process_at s p).phase)) in
        proposal_open (leb s.n p) (eqb v 0) second (rw (poll_open W s eb) at k)
    go false eb k = omega arith
never_closed W s c (turns p) e =
    let ts : List Test = (not (sound_for_as true W s), unsound) ∷ turn_tests s c p in
    omega (arith, (returned closed_to_proposals ts (omega arith) (sym (stepped_code _ s _ _ _) ∙ e)).0)
never_closed W s c (crashes p) e =
    let ts : List Test = (not (sound_for_as true W s), unsound) ∷ tests s no_counts (Crash p) in
    omega (arith, (returned closed_to_proposals ts (omega arith) (sym (stepped_code _ s _ _ _) ∙ e)).0)
