-- When a house is sound. Document 02, wish 11: "3 is tested first in each call on a house: wards not as opening allows, a session or poll
-- unsound, closed or of another size, a poll number above c, an outer round not 1 to 8, a proposed worker without a value, or a seat not
-- out, working, decided or answered (committed, before a house write) as a working worker's next turn needs." Nothing else is tested.
use Rattle.std.specs.Prelude.{ℕ, ◌*◌, Bool, true, not, ◌&&◌, ◌||◌, get_or, take, leb, ltb, eqb}
use Rattle.model.specs.declared.Process.{Process}
use Rattle.model.specs.declared.Session.{Session}
use Rattle.model.specs.Board.{process_at}
use Rattle.model.specs.Refusal.{status, is_outside, is_active, is_decided}
use Rattle.model.specs.Sound.{every, sound, sound_poll}
use Rattle.model_poll.specs.Turn.{answer_of, is_answered, is_committed}
use Rattle.model_house.specs.declared.Place.TheVariants.{ProposeWard, StepWard, LearnWard, WriteTable, ProposePoll, StepPoll}
use Rattle.model_house.specs.declared.Place.TheVariants.{ReadTable, WriteHouse}
use Rattle.model_house.specs.declared.Stance.{Stance}
use Rattle.model_house.specs.declared.Stance.TheVariants.{Idle, Working, Exhausted, Crashed, Decided}
use Rattle.model_house.specs.declared.House.{House}
use Rattle.model_house.specs.House.{max_workers, outer_rounds, ward_seats, ward_rounds, all_below, no_session, ward_of, worker_at}
use Rattle.model_house.specs.House.{session_at, poll_at, seat_of, allowed}
use Rattle.model_house.specs.Machine.{phase_of}

-- "Wards not as opening allows": of the n workers that there are.
unfoldable pub sound_wards : House → Bool
sound_wards h = leb 1 h.n && leb h.n max_workers && allowed h.c (take h.n h.wards)

-- "A session .. unsound, closed or of another size".
unfoldable pub sound_ward : (seats : ℕ) → Session → Bool
sound_ward seats s = eqb s.n seats && eqb s.limit ward_rounds && not s.closed && sound s

-- "A .. poll unsound, closed or of another size" (a sound poll is open, and has L = W), "a poll number above c", in a register or a seat.
unfoldable pub sound_numbers : (c : ℕ) → Session → Bool
sound_numbers c s = every (λ x. leb x c) s.values && every (λ (q : Process). leb q.estimate c) s.processes

unfoldable pub sound_vote : (n c : ℕ) → Session → Bool
sound_vote n c s = eqb s.n n && sound_poll s && sound_numbers c s

-- "A seat not out, working, decided or answered (committed, before a house write) as a working worker's next turn needs": its ward seat a
-- and its poll seat b of its outer round.
unfoldable pub seats_fit : Stance → (a b : Process) → Bool
seats_fit (Working ProposeWard) a b = is_outside (status a.phase)
seats_fit (Working StepWard) a b = is_active (status a.phase)
seats_fit (Working LearnWard) a b = is_active (status a.phase)
seats_fit (Working WriteTable) a b = is_decided a.phase
seats_fit (Working ProposePoll) a b = is_outside (status b.phase)
seats_fit (Working StepPoll) a b = is_active (status b.phase)
seats_fit (Working ReadTable) a b = is_answered (answer_of b)
seats_fit (Working WriteHouse) a b = is_committed (answer_of b)
seats_fit Idle a b = true
seats_fit Exhausted a b = true
seats_fit Crashed a b = true
seats_fit Decided a b = true

-- "An outer round not 1 to 8, a proposed worker without a value", or such a seat.
unfoldable pub sound_worker : House → (p : ℕ) → Bool
sound_worker h p =
    let q = worker_at h p in
    (leb 1 q.outer && leb q.outer outer_rounds)
    && (is_outside (status (phase_of q.stance)) || ltb 0 q.value)
    && seats_fit q.stance (process_at (session_at h q.outer (ward_of h p)) (seat_of h.wards p)) (process_at (poll_at h q.outer) p)

-- The wards; the sessions of wards 1 to c and the polls, of all outer rounds; the workers. (Table and decision register may hold anything,
-- and so may sessions of higher wards, workers from n on, and seats that no working worker needs next.)
unfoldable pub sound_house : House → Bool
sound_house h =
    sound_wards h
    && all_below (outer_rounds * h.c) (λ i. sound_ward (ward_seats h.n h.c) (get_or h.sessions i no_session))
    && all_below outer_rounds (λ i. sound_vote h.n h.c (get_or h.polls i no_session))
    && all_below h.n (sound_worker h)
