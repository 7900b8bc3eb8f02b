-- What every list of operations keeps of a house h and its past x: `Held h x`.
use Rattle.std.specs.Prelude.{◌+◌, ◌*◌, ◌-◌, ◌≤◌, ◌<◌, ◌≡◌, ◌∷◌}
use Rattle.base.specs.Prelude.{ℕ, suc, true, false, List, length, get_or, take}
use Rattle.model_laws.specs.Types.{Process, Session}
use Rattle.model.specs.Window.{window}
use Rattle.model.specs.Board.{process_at}
use Rattle.model.specs.Refusal.{status, is_outside}
use Rattle.model_rule.specs.Event.{Event, decision, Past, Proposed, DecidedOn}
use Rattle.model_house.specs.House.{no_session, ward_of, worker_at, seat_of, ward_seats, allowed}
use Rattle.model_house.specs.Machine.{phase_of}
use Rattle.model_house.specs.Sound.{seats_fit}
use Rattle.theory_house.specs.Types.{Place, ProposeWard, StepWard, LearnWard, WriteTable, ProposePoll, StepPoll, ReadTable}
use Rattle.theory_house.specs.Types.{WriteHouse, Stance, Idle, Working, Exhausted, Crashed, Decided, Worker, Table, House}
use Rattle.theory_house.specs.Core.{cell, Filled, Memory, Begins, HouseCommitted, Known}

-- n workers of c wards, as an accepted opening has them; `wards` is the array of sixteen. Two workers of one ward have different seats.
pub record Numbers (n c : ℕ) (wards : List ℕ) : Type 0 where
  pub some : 1 ≤ n
  pub few : n ≤ 16
  pub one : 1 ≤ c
  pub most : c ≤ 4
  pub long : length wards ≡ 16
  pub allow : allowed c (take n wards) ≡ true
  pub ward : (p : ℕ) → p < n → (1 ≤ get_or wards p 0) × (get_or wards p 0 ≤ c)
  pub seat : (p : ℕ) → p < n → seat_of wards p < ward_seats n c
  pub apart : (p q : ℕ) → p < n → q < n → (p ≡ q → ⊥) → get_or wards p 0 ≡ get_or wards q 0 → seat_of wards p ≡ seat_of wards q → ⊥

-- ---- one worker

-- Its seats, by round from 0: in its ward's sessions, and in the polls.
abbrev pub ward_seat : (wards : List ℕ) → (sessions : List Session) → (p o : ℕ) → Process
ward_seat wards sessions p o = process_at (get_or sessions (8 * (get_or wards p 0 - 1) + o) no_session) (seat_of wards p)

abbrev pub poll_seat : (polls : List Session) → (p o : ℕ) → Process
poll_seat polls p o = process_at (get_or polls o no_session) p

abbrev pub Out : Process → Type 0
Out a = is_outside (status a.phase) ≡ true

-- What is known at each place, beside the seat that the next turn needs: of the value v, of the entry of ward w, and of the poll's seat b
-- of round r, which is out until the worker proposes to the poll.
abbrev pub KnowsAt : (W : ℕ) → Memory → Place → (r v w : ℕ) → (b : Process) → Type 0
KnowsAt W m ProposeWard r v w b = Begins W m r v × Out b
KnowsAt W m StepWard r v w b = Out b
KnowsAt W m LearnWard r v w b = Out b
KnowsAt W m WriteTable r v w b = Out b
KnowsAt W m ProposePoll r v w b = Filled (cell m.table r (w - 1))
KnowsAt W m StepPoll r v w b = Unit {0}
KnowsAt W m ReadTable r v w b = Unit {0}
KnowsAt W m WriteHouse r v w b = Begins W m (suc r) v × HouseCommitted W m v

abbrev pub Knows : (W : ℕ) → Memory → Stance → (r v w : ℕ) → (a b : Process) → Type 0
Knows W m Idle r v w a b = (r ≡ 0) × Out a × Out b
Knows W m (Working x) r v w a b = KnowsAt W m x r v w b
Knows W m Exhausted r v w a b = Unit {0}
Knows W m Crashed r v w a b = Unit {0}
Knows W m Decided r v w a b = Unit {0}

-- A worker of ward w with the record q and the seats a and b: those of later rounds are out, and those of its own round as its next turn
-- needs them.
pub record Fits (W : ℕ) (m : Memory) (q : Worker) (a b : ℕ → Process) (w : ℕ) : Type 0 where
  pub start : 1 ≤ q.outer
  pub few : q.outer ≤ 8
  pub some : is_outside (status (phase_of q.stance)) ≡ false → 0 < q.value
  pub later : (o : ℕ) → q.outer ≤ o → o < 8 → Out (a o) × Out (b o)
  pub seats : seats_fit q.stance (a (q.outer - 1)) (b (q.outer - 1)) ≡ true
  pub knows : Knows W m q.stance (q.outer - 1) q.value w (a (q.outer - 1)) (b (q.outer - 1))

-- ---- decisions

-- A worker is decided exactly if a house look of it found its number,
pub record Told (p : ℕ) (q : Worker) (x : List Event) : Type 0 where
  pub holds : (v : ℕ) → DecidedOn p v x → (q.stance ≡ Decided) × (q.value ≡ v)
  pub looked : q.stance ≡ Decided → DecidedOn p q.value x

-- and what a look found was proposed before it, and committed for the house.
abbrev pub Rests : (W : ℕ) → Memory → Type 0
Rests W m = (p v : ℕ) (before : List Event) → Past (decision p v ∷ before) m.past → Proposed v before × HouseCommitted W m v

-- ---- the house

abbrev pub memory : (polls : List (List Event)) → Table → (past : List Event) → Memory
memory g t x = record { polls = g; table = t; past = x }

-- With pasts of its sessions and of its polls.
pub record Held (h : House) (x : List Event) : Type 0 where
  pub sessions : List (List Event)
  pub polls : List (List Event)
  pub numbers : Numbers h.n h.c h.wards
  pub long : length h.workers ≡ 16
  pub known : Known h.n h.c h.sessions h.polls h.decision sessions (memory polls h.table x)
  pub worker : (p : ℕ) → p < h.n → Fits (window h.n) (memory polls h.table x) (worker_at h p) (ward_seat h.wards h.sessions p)
      (poll_seat h.polls p) (ward_of h p)
  pub told : (p : ℕ) → Told p (worker_at h p) x
  pub rests : Rests (window h.n) (memory polls h.table x)
