-- A worker that is to take its turn: what the invariant tells of it, its seats and its boards.
use Rattle.std.specs.Prelude.{◌-◌, ◌≤◌, ◌<◌, ◌≡◌}
use Rattle.base.specs.Prelude.{ℕ, arith, refl, true, false, List}
use Rattle.model_laws.specs.Types.{Process, Session}
use Rattle.model.specs.Window.{window}
use Rattle.model.specs.Board.{process_at}
use Rattle.model.specs.Refusal.{status, is_gone}
use Rattle.model_rule.specs.Event.{Event}
use Rattle.theory_board.specs.Reached.{Reached}
use Rattle.model_house.specs.House.{worker_at, ward_of, session_index, session_at, poll_at, seat_of, ward_seats, ward_rounds}
use Rattle.model_house.specs.Machine.{phase_of}
use Rattle.model_house.specs.Sound.{seats_fit}
use Rattle.theory_house.specs.Types.{Place, Stance, Working, Decided, Worker, House}
use Rattle.theory_house.specs.Core.{past_at, Memory}
use Rattle.theory_house.specs.Invariant.{ward_seat, poll_seat, KnowsAt, Knows, Fits, memory, Held}

-- Its round, from 0; its seat in its ward; its session, with its index; its poll.
module _ (h : House) (p : ℕ) where
  abbrev pub round_of : ℕ
  round_of = (worker_at h p).outer - 1

  abbrev pub own_seat : ℕ
  own_seat = seat_of h.wards p

  abbrev pub index_of : ℕ
  index_of = session_index (worker_at h p).outer (ward_of h p)

  abbrev pub own_session : Session
  own_session = session_at h (worker_at h p).outer (ward_of h p)

  abbrev pub own_poll : Session
  own_poll = poll_at h (worker_at h p).outer

  -- The stance y is one that the turn can leave it with, its seats a and b.
  abbrev pub Ready : Memory → (a b : Process) → (y : Stance) → Type 0
  Ready m a b y =
      (is_gone (status (phase_of y)) ≡ false) × (seats_fit y a b ≡ true)
      × Knows (window h.n) m y round_of (worker_at h p).value (ward_of h p) a b

-- It is one of the n workers of a house that is held, and works.
pub record Turning (h : House) (x : List Event) (p : ℕ) (place : Place) : Type 0 where
  pub held : Held h x
  pub low : p < h.n
  pub stance : (worker_at h p).stance ≡ Working place

module _ {h : House} {x : List Event} {p : ℕ} {place : Place} (t : Turning h x p place) where
  abbrev q : Worker
  q = worker_at h p

  abbrev s : ℕ
  s = own_seat h p

  abbrev S : Session
  S = own_session h p

  abbrev P : Session
  P = own_poll h p

  abbrev k : ℕ
  k = ward_seats h.n h.c

  -- What is remembered of the house and of its boards.
  abbrev pub memory_of : Memory
  memory_of = memory t.held.polls h.table x

  abbrev pub ward_past : List Event
  ward_past = past_at t.held.sessions (index_of h p)

  abbrev pub poll_past : List Event
  poll_past = past_at t.held.polls (round_of h p)

  -- Its record and its seats.
  pub fit : Fits (window h.n) memory_of q (ward_seat h.wards h.sessions p) (poll_seat h.polls p) (ward_of h p)
  fit = t.held.worker p t.low

  pub some : 0 < q.value
  some = fit.some (rw t.stance refl)

  pub seats : seats_fit (Working place) (process_at S s) (process_at P p) ≡ true
  seats = rw t.stance at fit.seats

  pub knows : KnowsAt (window h.n) memory_of place (round_of h p) q.value (ward_of h p) (process_at P p)
  knows = rw t.stance at fit.knows

  pub undecided : q.stance ≡ Decided → ⊥
  undecided e = let same = t.stance in let z : ◌≡◌ {A = ℕ} 0 1 = cc in omega arith

  -- Its boards.
  pub round_low : round_of h p < 8
  round_low = omega (arith, fit.start, fit.few)

  pub ward_low : (1 ≤ ward_of h p) × (ward_of h p ≤ h.c) × (h.c ≤ 4)
  ward_low = let w = t.held.numbers.ward p t.low in (w.0, w.1, t.held.numbers.most)

  pub index_low : index_of h p < 32
  index_low = omega (arith, round_low, ward_low)

  pub ward_reached : Reached false (window k) k ward_rounds S ward_past
  ward_reached = (t.held.known.wards.each (index_of h p) index_low).0

  pub ward_open : S.closed ≡ false
  ward_open = (t.held.known.wards.each (index_of h p) index_low).1

  pub poll_reached : Reached true (window h.n) h.n (window h.n) P poll_past
  poll_reached = (t.held.known.votes.each (round_of h p) round_low).0

  pub seat_low : s < S.n
  seat_low = rw ward_reached.size (t.held.numbers.seat p t.low)

  pub poll_low : p < P.n
  poll_low = rw poll_reached.size t.low
