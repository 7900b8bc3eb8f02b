-- The rule of houses (document 02, wish 11): every operation keeps the invariant, which tells the rule; and the calls follow the machine.
use Rattle.std.specs.Prelude.{◌≤◌, ◌≡◌, ◌&&◌, ◌++◌}
use Rattle.base.specs.Prelude.{ℕ, suc, zero, arith, refl, sym, ◌∙◌, ap, Bool, true, false, true≢false, not-false, List, []}
use Rattle.base.specs.Prelude.{length, leb, leb-true}
use Rattle.base.specs.Bools.{and_left}
use Rattle.model_laws.specs.Types.{Counts}
use Rattle.model.specs.Numbers.{unsound}
use Rattle.model.specs.Board.{no_counts}
use Rattle.model.specs.Refusal.{refusal, status, is_outside, is_gone, is_spent, full}
use Rattle.model_laws.specs.Accepted.{none_holds}
use Rattle.model_rule.specs.Event.{Event}
use Rattle.model_rule.specs.System.{inputs, if_accepted, machine, events, past, EachAsTheMachine}
use Rattle.model_rule.specs.Calls.{Input}
use Rattle.theory_board.specs.Lists.{machine_kept, followed, after_each}
use Rattle.model_house.specs.House.{ward_of, worker_at, allowed, house_open_tests, opened_house, house_changed, house_opening}
use Rattle.model_house.specs.Machine.{view_of, HouseOperation, proposes, turns, learns, crashes, phase_of, house_tests, turn_by, turned}
use Rattle.model_house.specs.Machine.{house_after, house_counts, house_stepped, house_answered, house_perform}
use Rattle.model_house.specs.Turn.{turn_at}
use Rattle.model_house.specs.Sound.{sound_house}
use Rattle.model_house.specs.Public.{house_operate, with_house_counts, without_house_counts, house_propose, house_turn, house_learn, house_crash}
use Rattle.model_house.specs.Rule.{house_events, houses, HouseCall, house_promised, HouseRun, HouseRule, HouseClaim}
use Rattle.model_house_laws.specs.Accepted.{tests_known, house_never_three}
use Rattle.theory_house.specs.Types.{Place, Stance, Idle, Working, Exhausted, Crashed, Decided, House}
use Rattle.theory_house.specs.Core.{house_agreed}
use Rattle.theory_house.specs.Invariant.{Held}
use Rattle.theory_house.specs.Opening.{opened_held}
use Rattle.theory_house.specs.Small.{proposal_held, look_held, crash_held}
use Rattle.theory_house.specs.Turning.{Turning, own_seat}
use Rattle.theory_house.specs.Places.{place_turned}
use Rattle.theory_house.specs.Sound.{house_sound}
use Rattle.theory_house.specs.Ranks.{opened_numbers}

-- ---- every operation keeps the invariant

working_is : (x : Stance) → let σ = status (phase_of x) in is_outside σ ≡ false → is_gone σ ≡ false → is_spent σ ≡ false →
    (y : Place) × (x ≡ Working y)
working_is Idle o g s = absurd (true≢false o)
working_is (Working y) o g s = (y, refl)
working_is Exhausted o g s = absurd (true≢false s)
working_is Crashed o g s = absurd (true≢false g)
working_is Decided o g s = absurd (true≢false g)

module _ {h : House} {x : List Event} (i : Held h x) where
  -- An accepted turn is one at a place.
  pub turn_known : (c : Counts) (p : ℕ) (hint : Bool) → refusal (house_tests h c (turns p hint)) ≡ 0 →
      (y : Place) × Turning h x p y × (full c ≡ false) × (turned h c p hint ≡ turn_at p (ward_of h p) (own_seat h p) hint y (view_of h c p))
  unfolding turned turn_by
  turn_known c p hint e =
      let a = tests_known h c (turns p hint) e in
      let own = a.1 in
      let y = working_is (worker_at h p).stance own.0 own.1.0 own.1.1.0 in (
        y.0,
        record { held = i; low = a.0; stance = y.1 },
        own.1.1.1.0,
        ap (λ z. turn_by p (ward_of h p) (own_seat h p) hint z (view_of h c p)) y.1,
      )

  after_held : (c : Counts) (o : HouseOperation) → refusal (house_tests h c o) ≡ 0 → Held (house_after h c o) (house_events h o ++ x)
  unfolding house_after
  after_held c (proposes p v) e = let a = tests_known h c (proposes p v) e in proposal_held i p a.0 c v a.1
  after_held c (turns p hint) e =
      let k = turn_known c p hint e in
      rw k.3 (place_turned h x p c k.2 hint k.0 k.1)
  after_held c (learns p) e = let a = tests_known h c (learns p) e in look_held i p a.0 c a.1
  after_held c (crashes p) e = let a = tests_known h c (crashes p) e in crash_held i p a.0 c a.1

  -- Accepted or refused.
  pub operation_held : (f : Input HouseOperation) → Held (house_perform h f.counts f.operation).house (events houses h f ++ x)
  unfolding house_perform house_answered
  operation_held f = go (refusal (house_tests h f.counts f.operation)) refl
    where
      go : (k : ℕ) → refusal (house_tests h f.counts f.operation) ≡ k →
          let c = f.counts in
          let a = house_stepped k h (house_after h c f.operation) c (house_counts h c f.operation) in
          Held a.house (if_accepted a.code (house_events h f.operation) ++ x)
      go zero e = after_held f.counts f.operation e
      go (suc k) e = i

  -- What it tells is the rule.
  held_rule : HouseRule h x
  held_rule =
      record {
        holds = λ p v d. (i.told p).holds v d;
        looked = λ p v d. rw (← d.1) ((i.told p).looked d.0);
        agreement =
            λ p q u v d e.
            house_agreed i.known i.numbers.some (i.rests p u d.before d.past).1 (i.rests q v e.before e.past).1;
        validity = λ p v before k. (i.rests p v before k).0;
      }

-- ---- every call is answered as the machine answers

stepped_any : (k : ℕ) (h t : House) (d c : Counts) →
    with_house_counts (without_house_counts (house_stepped k h t d d)) c ≡ house_stepped k h t c c
stepped_any zero h t d c = refl
stepped_any (suc k) h t d c = refl

stepped_code : (k : ℕ) (h t : House) (d c : Counts) → (house_stepped k h t d c).code ≡ k
stepped_code zero h t d c = refl
stepped_code (suc k) h t d c = refl

promised_is : (h : House) → sound_house h ≡ true → (c : Counts) (o : HouseOperation) → house_promised h c o ≡ house_perform h c o
unfolding house_perform house_answered house_operate house_propose house_turn house_learn house_crash house_after house_counts
promised_is h ok c (proposes p v) =
    rw ok (stepped_any (refusal (house_tests h c (proposes p v))) h (house_after h c (proposes p v)) no_counts c)
promised_is h ok c (turns p hint) = rw ok refl
promised_is h ok c (learns p) = rw ok refl
promised_is h ok c (crashes p) =
    rw ok (stepped_any (refusal (house_tests h c (crashes p))) h (house_after h c (crashes p)) no_counts c)

never_unsound : (h : House) (c : Counts) (o : HouseOperation) → (house_perform h c o).code ≡ unsound → ⊥
unfolding house_perform house_answered
never_unsound h c o e = house_never_three h c o (sym (stepped_code _ h _ c _) ∙ e)

-- ---- from an accepted opening

pub opening_known : (c : ℕ) (ws : List ℕ) → (house_opening c ws).code ≡ 0 →
    (1 ≤ length ws) × (allowed c ws ≡ true) × ((house_opening c ws).house ≡ opened_house c ws)
unfolding house_opening
opening_known c ws = go (refusal (house_open_tests c ws)) refl
  where
    go : (k : ℕ) → refusal (house_open_tests c ws) ≡ k →
        let a = house_changed k (opened_house 0 []) (opened_house c ws) in
        a.code ≡ 0 → (1 ≤ length ws) × (allowed c ws ≡ true) × (a.house ≡ opened_house c ws)
    go zero e ok =
        let a = none_holds (house_open_tests c ws) (omega arith) e in
        let b = not-false (leb 1 (length ws) && leb (length ws) 64) a.0 in
        (leb-true 1 (length ws) (and_left (leb 1 (length ws)) _ b), not-false (allowed c ws) a.1.0, refl)
    go (suc k) e ok = absurd (omega arith)

module _ {start : House} (fresh : Held start []) where
  pub houses_followed : {cs : List HouseCall} {h : House} → HouseRun start cs h →
      EachAsTheMachine houses start cs × (h ≡ machine houses start (inputs cs))
  houses_followed =
      followed houses Held (λ h x f i. operation_held i f)
      (λ h x f i. (promised_is h (house_sound i) f.counts f.operation, never_unsound h f.counts f.operation)) fresh

  calls_rule : (cs : List HouseCall) (h : House) → HouseRun start cs h → HouseRule h (past houses start (inputs cs))
  calls_rule cs h run =
      rw (houses_followed run).1 (held_rule (machine_kept houses Held (λ h x f i. operation_held i f) fresh (inputs cs)))

pub opening_held : (c : ℕ) (ws : List ℕ) → (house_opening c ws).code ≡ 0 → Held (house_opening c ws).house []
opening_held c ws ok = let o = opening_known c ws ok in rw o.2 (opened_held c ws (opened_numbers c ws o.0 o.1))

pub house_rule : HouseClaim
house_rule c ws ok cs h run =
    let start = (house_opening c ws).house in
    let fresh = opening_held c ws ok in
    let f = houses_followed fresh run in
    (f.0, f.1, after_each houses (λ g ds. HouseRule g (past houses start (inputs ds))) (calls_rule fresh) run)
