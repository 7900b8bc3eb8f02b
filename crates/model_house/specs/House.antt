-- Document 02, wish 11, "Workers with ward names": what a house holds, and a house just opened.
use Rattle.std.specs.Prelude.{ℕ, suc, zero, ◌+◌, ◌*◌, ◌-◌, Bool, true, false, cond, not, ◌&&◌, Result, List, [], ◌∷◌, ◌++◌, length, get_or, set, replicate, take, leb, eqb}
use Rattle.model.specs.declared.refusal.Refusal.{Refusal}
use Rattle.model.specs.declared.Session.{Session}
use Rattle.model.specs.Window.{window}
use Rattle.model.specs.Numbers.{bad_process_count, bad_wards}
use Rattle.model.specs.Board.{max_processes, opened}
use Rattle.model.specs.Refusal.{Test, refusal}
use Rattle.model.specs.Sound.{every}
use Rattle.model_house.specs.declared.Stance.{Stance}
use Rattle.model_house.specs.declared.Stance.TheVariants.{Idle}
use Rattle.model_house.specs.declared.Worker.{Worker}
use Rattle.model_house.specs.declared.House.{House}
use Rattle.model_house.specs.Answers.{HouseChanged, told_house}

-- "Each worker knows its ward, numbered 1 to c: c at most 4, at most 16 workers"; "each outer round, 1 to 8".
abbrev pub max_wards : ℕ
max_wards = 4

abbrev pub max_workers : ℕ
max_workers = 16

abbrev pub outer_rounds : ℕ
outer_rounds = 8

-- "A ward session has n - c + 1 seats .. and 64 rounds."
abbrev pub ward_seats : (n c : ℕ) → ℕ
ward_seats n c = n - (c - 1)

abbrev pub ward_rounds : ℕ
ward_rounds = 64

-- The test holds of every number below k.
abbrev pub all_below : ℕ → (ℕ → Bool) → Bool
all_below zero test = true
all_below (suc k) test = all_below k test && test k

-- The value table: a row for each outer round, of an entry for each ward.
abbrev pub Table : Type 0
Table = List (List ℕ)

-- ---- what it holds (past the end of an array: a session, a record and a row of no house)

abbrev pub no_session : Session
no_session = record { n = 0; limit = 0; values = []; marks = []; decision = 0; processes = []; closed = false }

abbrev pub worker : Stance → (outer value : ℕ) → Worker
worker a o v = record { stance = a; outer = o; value = v }

abbrev pub no_worker : Worker
no_worker = worker Idle 0 0

abbrev pub no_row : List ℕ
no_row = []

abbrev pub ward_of : House → (p : ℕ) → ℕ
ward_of h p = get_or h.wards p 0

abbrev pub worker_at : House → (p : ℕ) → Worker
worker_at h p = get_or h.workers p no_worker

-- "For each outer round, 1 to 8, one session for each ward and one poll .. for all workers."
abbrev pub session_index : (o w : ℕ) → ℕ
session_index o w = outer_rounds * (w - 1) + (o - 1)

abbrev pub session_at : House → (o w : ℕ) → Session
session_at h o w = get_or h.sessions (session_index o w) no_session

abbrev pub poll_at : House → (o : ℕ) → Session
poll_at h o = get_or h.polls (o - 1) no_session

-- "The value table has one row for each outer round and one entry per ward": the entry of outer round o and ward w, and the table with v
-- there.
abbrev pub entries_of : Table → (o : ℕ) → List ℕ
entries_of t o = get_or t (o - 1) no_row

abbrev pub table_at : Table → (o w : ℕ) → ℕ
table_at t o w = get_or (entries_of t o) (w - 1) 0

abbrev pub with_entry : Table → (o w v : ℕ) → Table
with_entry t o w v = set t (o - 1) (set (entries_of t o) (w - 1) v)

-- A ward session's seats are "taken by its workers in number order": the seat of worker p is the number of workers of its ward with a lower
-- number. (In a poll, which "has n seats", worker p has seat p.)
abbrev pub members : (w : ℕ) → (wards : List ℕ) → ℕ
members w [] = 0
members w (x ∷ xs) = cond (eqb x w) 1 0 + members w xs

unfoldable pub seat_of : (wards : List ℕ) → (p : ℕ) → ℕ
seat_of wards p = members (get_or wards p 0) (take p wards)

-- The house with another record of worker p, all else as it was.
abbrev pub with_worker : House → (p : ℕ) → Worker → House
with_worker h p q =
    record {
      n = h.n;
      c = h.c;
      wards = h.wards;
      workers = set h.workers p q;
      sessions = h.sessions;
      polls = h.polls;
      table = h.table;
      decision = h.decision;
    }

-- ---- opening

-- Wards "numbered 1 to c: c at most 4, at most 16 workers, at least one in each ward".
unfoldable pub allowed : (c : ℕ) → (wards : List ℕ) → Bool
allowed c wards =
    (leb 1 c && leb c max_wards)
    && leb (length wards) max_workers
    && every (λ w. leb 1 w && leb w c) wards
    && all_below c (λ i. leb 1 (members (i + 1) wards))

-- "New 19: c not 1 to 4, over 16 workers, a worker's ward not 1 to c, or an empty ward; at opening, after 1 by the server's limits."
abbrev pub house_open_tests : (c : ℕ) → (wards : List ℕ) → List Test
house_open_tests c wards =
    (not (leb 1 (length wards) && leb (length wards) max_processes), bad_process_count) ∷ (not (allowed c wards), bad_wards) ∷ []

-- A house just opened: every session and poll is, table and decision register are blank, no worker has proposed.
unfoldable pub opened_house : (c : ℕ) → (wards : List ℕ) → House
opened_house c wards =
    let n = length wards in
    record {
      n = n;
      c = c;
      wards = wards ++ replicate (max_workers - n) 0;
      workers = replicate max_workers (worker Idle 1 0);
      sessions = replicate (outer_rounds * max_wards) (opened (ward_seats n c) ward_rounds);
      polls = replicate outer_rounds (opened n (window n));
      table = replicate outer_rounds (replicate max_wards 0);
      decision = 0;
    }

-- By the number of the refusal: 0 and the house after, or the number and the house before.
abbrev pub house_changed : (code : ℕ) → (before after : House) → HouseChanged
house_changed zero before after = record { code = 0; house = after }
house_changed (suc k) before after = record { code = suc k; house = before }

-- The wards of the workers are given in number order, so that n is the length of the list. Refused, no house is made: the answer holds that
-- of no worker, which is not sound.
unfoldable pub house_opening : (c : ℕ) → (wards : List ℕ) → HouseChanged
house_opening c wards = house_changed (refusal (house_open_tests c wards)) (opened_house 0 []) (opened_house c wards)

-- What the code's answer says of it (`Answers`).
abbrev pub told_house_opened : Result House Refusal → HouseChanged
told_house_opened r = told_house (opened_house 0 []) r
