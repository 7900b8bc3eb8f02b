-- Contested and the marked rounds of all boards of a house: they grow alike in every call, so that on one tally that began empty they are
-- equal (02, wish 2: "Here and below, each call of a run or order gets the session (later: poll, house) that the one before left").
use Rattle.std.specs.Prelude.{◌+◌, ◌<◌, ◌≡◌, ◌∷◌}
use Rattle.base.specs.Prelude.{ℕ, suc, zero, arith, refl, sym, ap, subst, Bool, List, [], length, get_or, set, replicate}
use Rattle.model_laws.specs.Types.{Session, Counts, Operation}
use Rattle.model.specs.Window.{window}
use Rattle.model.specs.Board.{opened}
use Rattle.model.specs.Step.{counted}
use Rattle.model.specs.Refusal.{refusal}
use Rattle.model_laws.specs.Operations.{access_in_range}
use Rattle.model_rule.specs.Event.{Event}
use Rattle.model_rule.specs.Contested.{marked_rounds, OneTally}
use Rattle.model_poll.specs.Machine.{PollOperation}
use Rattle.theory_board.specs.Lists.{machine_kept}
use Rattle.theory_board.specs.Marks.{perform_adds, opened_unmarked, calls_contested}
use Rattle.theory_poll.specs.Theorem.{poll_reached_adds}
use Rattle.model_house.specs.House.{no_session, ward_seats, ward_rounds, ward_of, house_opening, opened_house}
use Rattle.model_house.specs.Turn.{in_ward, in_poll, turn_at}
use Rattle.model_house.specs.Machine.{HouseOperation, proposes, turns, learns, crashes, house_tests, view_of, with_view, house_after}
use Rattle.model_house.specs.Machine.{house_counts, house_stepped, house_answered, house_perform}
use Rattle.model_house.specs.Rule.{houses, HouseCall, HouseRun}
use Rattle.theory_house.specs.Types.{Place, ProposeWard, StepWard, LearnWard, WriteTable, ProposePoll, StepPoll, ReadTable}
use Rattle.theory_house.specs.Types.{WriteHouse, House, View, HouseStepped}
use Rattle.theory_house.specs.Invariant.{Held}
use Rattle.theory_house.specs.Turning.{Turning, own_session, own_poll, own_seat, index_of, round_of, ward_reached, poll_reached, round_low}
use Rattle.theory_house.specs.Turning.{index_low}
use Rattle.theory_house.specs.Theorem.{turn_known, operation_held, houses_followed, opening_known, opening_held}

-- ---- the marked rounds

abbrev marked_on : List Session → ℕ
marked_on [] = 0
marked_on (s ∷ l) = marked_rounds s + marked_on l

abbrev pub house_marked : House → ℕ
house_marked h = marked_on h.sessions + marked_on h.polls

marked_set : (l : List Session) (i : ℕ) (s : Session) → i < length l →
    marked_on (set l i s) + marked_rounds (get_or l i no_session) ≡ marked_on l + marked_rounds s
marked_set [] i s low = absurd (omega arith)
marked_set (x ∷ l) zero s low = omega arith
marked_set (x ∷ l) (suc i) s low = omega (arith, marked_set l i s (omega arith))

marked_none : (k n L : ℕ) → marked_on (replicate k (opened n L)) ≡ 0
marked_none zero n L = refl
marked_none (suc k) n L = omega (arith, opened_unmarked n L, marked_none k n L)

none_marked : (c : ℕ) (ws : List ℕ) → house_marked (opened_house c ws) ≡ 0
unfolding opened_house
none_marked c ws = omega (arith, marked_none 32 (ward_seats (length ws) c) ward_rounds, marked_none 8 (length ws) (window (length ws)))

-- ---- one call

module _ {h : House} {x : List Event} {p : ℕ} {place : Place} (t : Turning h x p place) (c : Counts) (hint : Bool) where
  abbrev S : Session
  S = own_session h p

  abbrev P : Session
  P = own_poll h p

  -- Of what the turn can change.
  abbrev Alike : View → Type 0
  Alike v = v.counts.contested + (marked_rounds S + marked_rounds P) ≡ c.contested + (marked_rounds v.session + marked_rounds v.poll)

  ward_alike : (o : Operation) → Alike (in_ward (view_of h c p) o)
  unfolding view_of
  ward_alike o =
      let range = access_in_range _ S o (ward_reached t).sound in
      omega (arith, perform_adds S c (ward_reached t).invariant.long.marks (window S.n) o range)

  poll_alike : (o : PollOperation) → Alike (in_poll (view_of h c p) o)
  unfolding view_of
  poll_alike o =
      let e : window P.n ≡ window h.n = ap window (poll_reached t).size in
      rw e (omega (arith, poll_reached_adds c o (poll_reached t)))

  turn_alike : (y : Place) → Alike (turn_at p (ward_of h p) (own_seat h p) hint y (view_of h c p))
  unfolding turn_at view_of counted
  turn_alike ProposeWard = ward_alike _
  turn_alike StepWard = ward_alike _
  turn_alike LearnWard = ward_alike _
  turn_alike WriteTable = refl
  turn_alike ProposePoll = poll_alike _
  turn_alike StepPoll = poll_alike _
  turn_alike ReadTable = refl
  turn_alike WriteHouse = refl

  turned_alike : let v = turn_at p (ward_of h p) (own_seat h p) hint place (view_of h c p) in
      v.counts.contested + house_marked h ≡ c.contested + house_marked (with_view h p v)
  unfolding with_view
  turned_alike =
      let v = turn_at p (ward_of h p) (own_seat h p) hint place (view_of h c p) in
      let known = t.held.known in
      let low = index_low t in
      let few = round_low t in
      let ward = marked_set h.sessions (index_of h p) v.session (omega (arith, known.wards.long)) in
      let vote = marked_set h.polls (round_of h p) v.poll (omega (arith, known.votes.long)) in
      omega (arith, ward, vote, turn_alike place)

-- A call, accepted or refused.
pub grows_alike : {h : House} {x : List Event} → Held h x → (c : Counts) (o : HouseOperation) → let r = house_perform h c o in
    r.counts.contested + house_marked h ≡ c.contested + house_marked r.house
unfolding house_perform house_answered house_counts house_after counted
grows_alike {h} i c o = by (refusal (house_tests h c o)) refl
  where
    accepted : (o : HouseOperation) → refusal (house_tests h c o) ≡ 0 →
        (house_counts h c o).contested + house_marked h ≡ c.contested + house_marked (house_after h c o)
    accepted (proposes p v) e = refl
    accepted (turns p hint) e =
        let k = turn_known i c p hint e in
        subst (λ (v : View). v.counts.contested + house_marked h ≡ c.contested + house_marked (with_view h p v)) (sym k.3)
        (turned_alike k.1 c hint)
    accepted (learns p) e = refl
    accepted (crashes p) e = refl

    by : (k : ℕ) → refusal (house_tests h c o) ≡ k → let r = house_stepped k h (house_after h c o) c (house_counts h c o) in
        r.counts.contested + house_marked h ≡ c.contested + house_marked r.house
    by zero e = accepted o e
    by (suc k) e = refl

-- ---- a list of calls

pub house_contested : (c : ℕ) (ws : List ℕ) → let start = house_opening c ws in start.code ≡ 0 →
    (cs : List HouseCall) (h : House) (d : Counts) → HouseRun start.house cs h → OneTally (λ (a : HouseStepped). a.counts) cs d →
    d.contested ≡ house_marked h
house_contested c ws ok cs h d run tally =
    let fresh = opening_held c ws ok in
    let f = houses_followed fresh run in
    rw f.1
    (calls_contested houses (λ (a : HouseStepped). a.counts) house_marked _ (rw (opening_known c ws ok).2 (none_marked c ws))
    (λ fs f. grows_alike (machine_kept houses Held (λ h x f i. operation_held i f) fresh fs) f.counts f.operation)
    cs d f.0 tally)
