-- An accepted turn, at each of its eight places, keeps the invariant.
use Rattle.std.specs.Prelude.{◌≡◌, ◌++◌, ◌⊎◌}
use Rattle.base.specs.Prelude.{ℕ, suc, zero, arith, refl, sym, ◌∙◌, Bool, true, false, true≢false, List, [], eqb, ne_eqb, ltb}
use Rattle.base.specs.Prelude.{inl, inr, ⊎_elim}
use Rattle.base.specs.Bools.{cond_cases}
use Rattle.model_laws.specs.Types.{Process, Session, Counts, Operation, Propose, Step, Learn}
use Rattle.model.specs.declared.Status.TheVariants.{Active, Spent}
use Rattle.model.specs.Window.{window}
use Rattle.model.specs.Board.{process_at}
use Rattle.model.specs.Step.{found, learnt}
use Rattle.model.specs.Refusal.{status, is_active, is_spent, is_gone, is_decided, full}
use Rattle.model.specs.Machine.{access_of, becomes}
use Rattle.model_laws.specs.Phases.{active_is, decided_is}
use Rattle.model_laws.specs.Works.{next_works}
use Rattle.model_laws.specs.Sounds.{sound_process_law}
use Rattle.model_laws.specs.Accepted.{propose_accepts, step_accepts, learn_accepts}
use Rattle.model_rule.specs.Event.{Event, proposal, look_events, Proposed}
use Rattle.model_poll.specs.declared.Answer.{Answer}
use Rattle.model_poll.specs.declared.Answer.TheVariants.{Pending, Commits, Adopts}
use Rattle.model_poll.specs.Turn.{answer_of, is_answered}
use Rattle.model_poll.specs.Machine.{proposes, turns}
use Rattle.model_poll_laws.specs.Sounds.{poll_open}
use Rattle.model_poll_laws.specs.Works.{poll_next_works}
use Rattle.model_poll_laws.specs.Ends.{out_proposal, working_turn}
use Rattle.theory_board.specs.Past.{happened_cases, happened_older}
use Rattle.theory_board.specs.Lawful.{IsCommitted, lawful_at, commit_lawful}
use Rattle.theory_board.specs.Step.{step_older}
use Rattle.theory_board.specs.Start.{decided_committed}
use Rattle.theory_poll.specs.Machine.{answer_known, answer_committed}
use Rattle.model_house.specs.House.{worker_at, ward_of, table_at}
use Rattle.model_house.specs.Turn.{view, one_read, standing, in_ward, in_poll, turn_at, after_step, after_learn, after_poll, after_read, round_over}
use Rattle.model_house.specs.Machine.{phase_of, with_view, view_of}
use Rattle.model_house.specs.Sound.{seats_fit}
use Rattle.theory_house.specs.Types.{Place, ProposeWard, StepWard, LearnWard, WriteTable, ProposePoll, StepPoll, ReadTable}
use Rattle.theory_house.specs.Types.{WriteHouse, Working, Worker, House}
use Rattle.theory_house.specs.Core.{Filled, unmoved}
use Rattle.theory_house.specs.Invariant.{Held}
use Rattle.theory_house.specs.Store.{table_known, house_known}
use Rattle.theory_house.specs.Workers.{fits_next, fits_over}
use Rattle.theory_house.specs.Turning.{Turning, round_of, own_seat, own_session, own_poll, Ready, memory_of, ward_past, fit, some, seats}
use Rattle.theory_house.specs.Turning.{knows, round_low, ward_low, ward_reached, ward_open, poll_reached, seat_low, poll_low}
use Rattle.theory_house.specs.Turns.{plain_turn, ward_own, ward_turn, poll_own, poll_turn_law}

-- No look is a proposal.
look_older : (p x v : ℕ) {h : List Event} → Proposed v (look_events p x ++ h) → Proposed v h
look_older p zero v t = t
look_older p (suc x) v t = happened_older (λ e. let z : ◌≡◌ {A = ℕ} 0 1 = cc in omega arith) t

-- The round's end decides nobody.
over_here : (o v : ℕ) → is_gone (status (phase_of (round_over o v).stance)) ≡ false
over_here o v = cond_cases (λ (q : Worker). is_gone (status (phase_of q.stance)) ≡ false) (ltb o 8) (λ e. refl) (λ e. refl)

module _ (h : House) (x : List Event) (p : ℕ) (c : Counts) (room : full c ≡ false) (hint : Bool) where
  abbrev q : Worker
  q = worker_at h p

  abbrev s : ℕ
  s = own_seat h p

  abbrev S : Session
  S = own_session h p

  abbrev P : Session
  P = own_poll h p

  -- The turn at a place leaves a house that is held.
  abbrev Turned : Place → Type 0
  Turned y = Turning h x p y → Held (with_view h p (turn_at p (ward_of h p) s hint y (view_of h c p))) x

  propose_ward : Turned ProposeWard
  unfolding turn_at view_of seats_fit becomes
  propose_ward t =
      let o : Operation = Propose s q.value in
      let ok = propose_accepts S c s (seat_low t) q.value (some t) (seats t) (ward_open t) in
      ward_turn t c o refl ok (Working StepWard)
      (λ v k. ⊎_elim (λ z. let same : v ≡ q.value = cc in inr (rw same (knows t).0)) inl (happened_cases k))
      (refl, rw (ward_own t c o refl ok) refl, (knows t).1)

  step_ward : Turned StepWard
  unfolding turn_at view_of seats_fit becomes
  step_ward t =
      let o : Operation = Step s hint in
      let a = process_at S s in
      let active = active_is (status a.phase) (seats t) in
      let ok = step_accepts S c s (seat_low t) hint active room in
      let y : Process = process_at (in_ward (view_of h c p) o).session s in
      let works : (status y.phase ≡ Active) ⊎ (status y.phase ≡ Spent) =
      rw (ward_own t c o refl ok)
      (next_works (λ φ. (status φ ≡ Active) ⊎ (status φ ≡ Spent)) _ _ a hint _ (λ φ e. inl e) (λ e l. inr refl) active) in
      ward_turn t c o refl ok (after_step y)
      (λ v k. inl (step_older (proposal v) s a.round a.estimate a.phase (λ z. z) k))
      (cond_cases (Ready h p (memory_of t) y (process_at P p)) (is_spent (status y.phase))
      (λ e. (refl, refl, tt))
      (λ e. (refl, ⊎_elim (λ z. rw z refl) (λ z. absurd (true≢false (rw z at e))) works, knows t)))

  learn_ward : Turned LearnWard
  unfolding turn_at view_of seats_fit becomes learnt
  learn_ward t =
      let a = process_at S s in
      let ok = learn_accepts S c s (seat_low t) (active_is (status a.phase) (seats t)) room in
      let y : Process = process_at (in_ward (view_of h c p) (Learn s)).session s in
      let works : is_decided y.phase ≡ false → is_active (status y.phase) ≡ true =
      rw (ward_own t c (Learn s) refl ok)
      (cond_cases (λ (z : Process). is_decided z.phase ≡ false → is_active (status z.phase) ≡ true)
      (eqb (found S (access_of S.limit a (Learn s))) 0) (λ e n. seats t) (λ e n. absurd (true≢false n))) in
      ward_turn t c (Learn s) refl ok (after_learn y) (λ v k. inl (look_older s S.decision v k))
      (cond_cases (λ z. Ready h p (memory_of t) y (process_at P p) (Working z)) (is_decided y.phase)
      (λ e. (refl, e, knows t))
      (λ e. (refl, works e, knows t)))

  -- The number of a decided seat was committed.
  write_table : Turned WriteTable
  unfolding turn_at view_of seats_fit
  write_table t =
      let a = process_at S s in
      let b = (ward_reached t).invariant in
      let d = decided_is a.phase (seats t) in
      let k : IsCommitted a.estimate (ward_past t) = decided_committed b.lawful (rw d at ((b.stands s).placed (rw d refl)).1) in
      let written = (commit_lawful b.lawful k.1).written in
      let filled : Filled a.estimate = λ z. omega (arith, (lawful_at b.lawful written.1.past).some) in
      let seated = t.held.numbers.seat p t.low in
      let known = table_known t.held.known q.outer (ward_of h p) a.estimate (round_low t) (omega (arith, ward_low t)) (omega arith)
      filled k in
      plain_turn t (standing (Working ProposePoll) q) _ known.0 known.1
      (fits_next (fit t) (some t) (Working ProposePoll) (λ o from l. (refl, refl)) (knows t) (λ z. filled (sym known.2 ∙ z)))
      refl

  propose_poll : Turned ProposePoll
  unfolding turn_at seats_fit
  propose_poll t =
      let w = ward_of h p in
      let unclosed = poll_open (window h.n) P (poll_reached t).sound in
      let ok = out_proposal (window h.n) P c p (poll_low t) w (ward_low t).0 (seats t) unclosed in
      poll_turn_law t c (proposes p w) refl ok (Working StepPoll)
      (λ u k. ⊎_elim (λ z. let same : u ≡ w = cc in inr (rw same ((ward_low t).1, knows t))) inl (happened_cases k))
      (λ m. (refl, rw (poll_own t c (proposes p w) refl ok) refl, tt))

  step_poll : Turned StepPoll
  unfolding turn_at view_of seats_fit
  step_poll t =
      let W = window h.n in
      let b = poll_reached t in
      let a = process_at P p in
      let active = active_is (status a.phase) (seats t) in
      let ok = working_turn W P c p (poll_low t) active room in
      let y : Process = process_at (in_poll (view_of h c p) (turns p)).poll p in
      let works : (status y.phase ≡ Active) ⊎ (is_answered (answer_of y) ≡ true) =
      rw (poll_own t c (turns p) refl ok, b.rounds)
      (poll_next_works W a _ (rw b.rounds at (sound_process_law true W P p b.sound)) active) in
      poll_turn_law t c (turns p) refl ok (after_poll y)
      (λ v k. inl (step_older (proposal v) p a.round a.estimate a.phase (λ z. z) k))
      (λ m.
      cond_cases (λ z. Ready h p m (process_at S s) y (Working z)) (is_answered (answer_of y))
      (λ e. (refl, e, tt))
      (λ e. (refl, ⊎_elim (λ z. rw z refl) (λ z. absurd (true≢false (sym z ∙ e))) works, tt)))

  -- The entry of the answer's ward is filled, and it takes that.
  read_table : Turned ReadTable
  unfolding turn_at view_of seats_fit
  read_table t = go (answer_of (process_at P p)) refl (seats t)
    where
      go : (a : Answer) → answer_of (process_at P p) ≡ a → is_answered a ≡ true →
          Held (with_view h p (view S P h.table h.decision (after_read h.table q a) (one_read c))) x
      go Pending ea e = absurd (true≢false (sym e))
      go (Commits u) ea e =
          let known = answer_known (poll_reached t) p u (rw ea refl) in
          let f = (t.held.known.polled (round_of h p) u known.0).1 in
          rw (ne_eqb (table_at h.table q.outer u) 0 f)
          (plain_turn t _ _ t.held.known unmoved
          (fits_next (fit t) (omega (arith, f)) (Working WriteHouse) (λ o from l. (refl, refl)) (rw ea refl)
          ((u, known.1, refl), (round_of h p, u, answer_committed (poll_reached t) p u (rw ea refl) ea, refl)))
          refl)
      go (Adopts u) ea e =
          let known = answer_known (poll_reached t) p u (rw ea refl) in
          let f = (t.held.known.polled (round_of h p) u known.0).1 in
          rw (ne_eqb (table_at h.table q.outer u) 0 f)
          (plain_turn t _ _ t.held.known unmoved (fits_over (fit t) (omega (arith, f)) (u, known.1, refl)) (over_here q.outer _))

  write_house : Turned WriteHouse
  unfolding turn_at view_of seats_fit
  write_house t =
      plain_turn t _ _ (house_known t.held.known [] q.value (inr (knows t).1)).0 unmoved (fits_over (fit t) (some t) (knows t).0)
      (over_here q.outer q.value)

  -- At any place.
  pub place_turned : (y : Place) → Turned y
  place_turned ProposeWard = propose_ward
  place_turned StepWard = step_ward
  place_turned LearnWard = learn_ward
  place_turned WriteTable = write_table
  place_turned ProposePoll = propose_poll
  place_turned StepPoll = step_poll
  place_turned ReadTable = read_table
  place_turned WriteHouse = write_house
