-- A turn of a worker that works, by what it touches: no board, its ward's session, or the poll of its round.
use Rattle.std.specs.Prelude.{◌+◌, ◌-◌, ◌*◌, ◌%◌, ◌≤◌, ◌<◌, ◌≡◌, ◌++◌, ◌⊎◌}
use Rattle.std.proofs.Math.Seq.{set-get_or}
use Rattle.base.specs.Prelude.{ℕ, arith, refl, ◌∙◌, ap, true, false, true≢false, List, [], length}
use Rattle.base.specs.Prelude.{set, get_or, get_or-set_same}
use Rattle.base.specs.Arrays.{get_or_set_cases}
use Rattle.model_laws.specs.Types.{Session, Counts, Stepped, Operation}
use Rattle.model.specs.Window.{window}
use Rattle.model.specs.Board.{process_at}
use Rattle.model.specs.Step.{found}
use Rattle.model.specs.Refusal.{refusal, tests, status, is_gone}
use Rattle.model.specs.Machine.{access_of, becomes, after, process_of, perform}
use Rattle.model_laws.specs.Windows.{window_least}
use Rattle.model_laws.specs.Accepted.{accepted}
use Rattle.model_laws.specs.Operations.{after_same}
use Rattle.model_laws.specs.Answers.{perform_accepted}
use Rattle.model_rule.specs.Event.{Event, events_of, Proposed}
use Rattle.model_rule.specs.PollCalls.{poll_events_of}
use Rattle.model_poll.specs.Machine.{PollOperation, poll_perform}
use Rattle.model_poll_laws.specs.Performs as poll
use Rattle.model_poll_laws.specs.Performs.{poll_process_of, poll_after, poll_becomes, turn_others, turn_own, others_stay, own_becomes}
use Rattle.theory_board.specs.Reached.{Reached, after_reached}
use Rattle.theory_poll.specs.Machine.{accepted_poll}
use Rattle.model_house.specs.House.{no_session, ward_of, ward_seats, ward_rounds}
use Rattle.model_house.specs.Turn.{view, in_ward, in_poll, stands}
use Rattle.model_house.specs.Machine.{phase_of, with_view, view_of}
use Rattle.theory_house.specs.Types.{Place, Stance, Worker, Table, House}
use Rattle.theory_house.specs.Core.{cell, Filled, Memory, Begins, Known, Grown, unmoved}
use Rattle.theory_house.specs.Invariant.{ward_seat, poll_seat, Fits, memory, Held}
use Rattle.theory_house.specs.Store.{ward_known, poll_known}
use Rattle.theory_house.specs.Workers.{fits_next, quiet_held}
use Rattle.theory_house.specs.Turning.{Turning, round_of, own_seat, index_of, own_session, own_poll, Ready, memory_of, ward_past, poll_past}
use Rattle.theory_house.specs.Turning.{fit, some, undecided, round_low, ward_low, index_low, ward_reached, ward_open, poll_reached}
use Rattle.theory_house.specs.Turning.{seat_low, poll_low}

-- A seat that is not seat z of board i stays, where those of board i do.
seat_stays : (l : List Session) (i z : ℕ) (N : Session) → ((y : ℕ) → (y ≡ z → ⊥) → process_at N y ≡ process_at (get_or l i no_session) y) →
    (j y : ℕ) → (j ≡ i → y ≡ z → ⊥) → process_at (get_or (set l i N) j no_session) y ≡ process_at (get_or l j no_session) y
seat_stays l i z N others j y other =
    get_or_set_cases (λ (s : Session). process_at s y ≡ process_at (get_or l j no_session) y) l i j N no_session
    (λ e. rw e (others y (other e))) refl

module _ {h : House} {x : List Event} {p : ℕ} {place : Place} (t : Turning h x p place) where
  abbrev s : ℕ
  s = own_seat h p

  abbrev S : Session
  S = own_session h p

  abbrev P : Session
  P = own_poll h p

  abbrev k : ℕ
  k = ward_seats h.n h.c

  -- ---- no board

  pub plain_turn : (q' : Worker) {u : Table} {d : ℕ} (c : Counts) → let m = memory t.held.polls u x in
      Known h.n h.c h.sessions h.polls d t.held.sessions m → Grown (memory_of t) m →
      Fits (window h.n) m q' (ward_seat h.wards h.sessions p) (poll_seat h.polls p) (ward_of h p) →
      is_gone (status (phase_of q'.stance)) ≡ false → Held (with_view h p (view S P u d q' c)) x
  unfolding with_view
  plain_turn q' c known more fits now =
      rw (set-get_or h.sessions (index_of h p) no_session, set-get_or h.polls (round_of h p) no_session)
      (quiet_held t.held p t.low [] q' known more (λ j l other o l₁. (refl, refl)) fits (undecided t) (λ e. true≢false (rw e at now))
      (λ j u b y. y))

  -- ---- an accepted operation of its seat in the ward's session

  module _ (c : Counts) (o : Operation) (own : process_of o ≡ s) (ok : refusal (tests S c o) ≡ 0) where
    abbrev N : Session
    N = (perform (window S.n) S c o).session

    after_is : N ≡ after (window k) S o
    after_is =
        ap (λ z. (perform (window z) S c o).session) (ward_reached t).size
        ∙ ap (λ (a : Stepped). a.session) (perform_accepted false (window k) S c o ok)

    pub ward_own : process_at N s ≡ becomes (window k) S.limit (process_at S s) o (found S (access_of S.limit (process_at S s) o))
    unfolding after
    ward_own =
        let long : s < length S.processes = omega (arith, seat_low t, (ward_reached t).invariant.long.processes) in
        ap (λ y. process_at y s) after_is ∙ rw own (turn_own S s _ _ long)

    ward_stays : (j y : ℕ) → (j ≡ index_of h p → y ≡ s → ⊥) →
        process_at (get_or (set h.sessions (index_of h p) N) j no_session) y ≡ process_at (get_or h.sessions j no_session) y
    unfolding after
    ward_stays = seat_stays h.sessions _ s N (λ y ne. rw after_is (turn_others S (process_of o) _ _ y (λ z. ne (z ∙ own))))

    pub ward_turn : (y : Stance) → let es = events_of (process_at S s) S.decision o in
        ((v : ℕ) → Proposed v (es ++ ward_past t) → Proposed v (ward_past t) ⊎ Begins (window h.n) (memory_of t) (round_of h p) v) →
        Ready h p (memory_of t) (process_at N s) (process_at P p) y → Held (with_view h p (stands (in_ward (view_of h c p) o) y)) x
    unfolding with_view view_of
    ward_turn y proposed ready =
        let idx = index_of h p in
        let known = t.held.known in
        let ward : (j : ℕ) → j < h.n → (1 ≤ ward_of h j) × (ward_of h j ≤ h.c) = t.held.numbers.ward in
        let wide : 1 ≤ window k = omega (arith, window_least k (omega (arith, seat_low t, (ward_reached t).size))) in
        let es = events_of (process_at S s) S.decision o in
        let reached : Reached false (window k) k ward_rounds N (es ++ ward_past t) =
        rw after_is (rw own at (after_reached wide c o (ward_reached t) (accepted S c o ok))) in
        let unclosed : N.closed ≡ false = rw after_is ((after_same (window k) S o).2 ∙ ward_open t) in
        let round : idx % 8 ≡ round_of h p = omega (arith, round_low t) in
        let here : get_or (set h.sessions idx N) idx no_session ≡ N =
        get_or-set_same h.sessions idx N no_session (omega (arith, known.wards.long, index_low t)) in
        rw (set-get_or h.polls (round_of h p) no_session)
        (quiet_held t.held p t.low [] _ (ward_known known idx (index_low t) es reached unclosed (rw round proposed)) unmoved
        (λ j l other e l₁. (
          ward_stays (8 * (ward_of h j - 1) + e) (own_seat h j)
              (λ same. t.held.numbers.apart j p l t.low other (omega (arith, round_low t, ward j l, ward_low t))),
          refl,
        ))
        (fits_next (fit t) (some t) y (λ e from l. (ward_stays (8 * (ward_of h p - 1) + e) s (λ z u. omega (arith, (fit t).start)), refl))
        (rw here ready.1) (rw here ready.2))
        (undecided t) (λ e. true≢false (rw e at ready.0)) (λ j u b y. y))

  -- ---- an accepted operation of its seat in the poll

  module _ (c : Counts) (o : PollOperation) (own : poll_process_of o ≡ p) (ok : (poll_perform (window h.n) P c o).code ≡ 0) where
    abbrev B : Session
    B = (poll_perform (window P.n) P c o).session

    poll_is : B ≡ poll_after (window h.n) P o
    poll_is =
        ap (λ z. (poll_perform (window z) P c o).session) (poll_reached t).size ∙ (poll.perform_accepted (window h.n) P c o ok).1

    pub poll_own : process_at B p ≡ poll_becomes (window h.n) P o
    poll_own =
        let long : poll_process_of o < length P.processes = omega (arith, poll_low t, (poll_reached t).invariant.long.processes) in
        ap (λ y. process_at y p) poll_is ∙ (rw own at (own_becomes (window h.n) P o long))

    poll_stays : (j y : ℕ) → (j ≡ round_of h p → y ≡ p → ⊥) → poll_seat (set h.polls (round_of h p) B) y j ≡ poll_seat h.polls y j
    poll_stays = seat_stays h.polls _ p B (λ y ne. rw poll_is (others_stay (window h.n) P o y (λ z. ne (z ∙ own))))

    pub poll_turn_law : (y : Stance) → let es = poll_events_of P o in
        ((u : ℕ) → Proposed u (es ++ poll_past t) →
        Proposed u (poll_past t) ⊎ ((u ≤ h.c) × Filled (cell h.table (round_of h p) (u - 1)))) →
        ((m : Memory) → Ready h p m (process_at S s) (process_at B p) y) → Held (with_view h p (stands (in_poll (view_of h c p) o) y)) x
    unfolding with_view view_of
    poll_turn_law y proposed ready =
        let wide : 1 ≤ window h.n = omega (arith, window_least h.n t.held.numbers.some) in
        let es = poll_events_of P o in
        let reached : Reached true (window h.n) h.n (window h.n) B (es ++ poll_past t) =
        rw poll_is (accepted_poll wide c o (poll_reached t) (poll.perform_accepted (window h.n) P c o ok).0) in
        let known = poll_known t.held.known (round_of h p) (round_low t) es reached proposed in
        let here : get_or (set h.polls (round_of h p) B) (round_of h p) no_session ≡ B =
        get_or-set_same h.polls (round_of h p) B no_session (omega (arith, t.held.known.votes.long, round_low t)) in
        rw (set-get_or h.sessions (index_of h p) no_session)
        (quiet_held t.held p t.low [] _ known.0 known.1 (λ j l other e l₁. (refl, poll_stays e j (λ same. other)))
        (fits_next (fit t) (some t) y (λ e from l. (refl, poll_stays e p (λ z u. omega (arith, (fit t).start))))
        (rw here (ready (memory_of t)).1) (rw here (ready _).2))
        (undecided t) (λ e. true≢false (rw e at (ready (memory_of t)).0)) (λ j u b y. y))
