-- Cases of houses (document 02, wish 11), and that all of them hold of the machine and of the public operations.
use Rattle.std.specs.Prelude.{ℕ, ◌≡◌, refl, true, false, List, [], ◌∷◌, ◌++◌, set}
use Rattle.model.specs.declared.Phase.{Phase}
use Rattle.model.specs.declared.Phase.TheVariants as phase
use Rattle.model.specs.declared.Session.{Session}
use Rattle.model.specs.declared.Counts.{Counts}
use Rattle.model.specs.Window.{window, root_up, root_from}
use Rattle.model.specs.Board.{opened, no_counts, with_values, with_process, with_decision, with_closed}
use Rattle.model.specs.Step.{waiting_rule, phase_access, access, found, go_on, phase_next, next, stored, turn, counted, learnt, process}
use Rattle.model.specs.Refusal.{full}
use Rattle.model.specs.Machine.{opening_for, access_of, becomes, after, counts_after, answered, perform}
use Rattle.model.specs.Sound.{every, sound_phase_as, sound_process_as, poll_registers, sound_for_as, sound_as}
use Rattle.model_cases.specs.Play.{repeat}
use Rattle.model_poll.specs.Turn.{without_decision, poll_access, ending, poll_next, answer_of}
use Rattle.model_poll.specs.Machine as poll
use Rattle.model_house.specs.declared.Place.TheVariants.{ProposeWard, StepWard, LearnWard, WriteTable, ProposePoll, StepPoll}
use Rattle.model_house.specs.declared.Place.TheVariants.{ReadTable, WriteHouse}
use Rattle.model_house.specs.declared.Stance.TheVariants.{Idle, Working, Exhausted, Crashed, Decided}
use Rattle.model_house.specs.House.{worker, seat_of, allowed, opened_house, house_opening}
use Rattle.model_house.specs.Turn.{turn_at}
use Rattle.model_house.specs.Machine.{HouseOperation, proposes, turns, learns, crashes}
use Rattle.model_house.specs.Machine.{view_of, with_view, turn_by, turned, house_after, house_counts, house_answered, house_perform}
use Rattle.model_house.specs.Sound.{sound_ward, sound_numbers, sound_vote, seats_fit, sound_worker, sound_wards, sound_house}
use Rattle.model_house.specs.Public.{house_operate}
use Rattle.model_house_cases.specs.Play.{HouseCase, holds, Shows, Change}
use Rattle.model_house_cases.specs.Play.Change.{set_n, set_c, set_ward, set_worker, set_session, set_poll, set_entry, set_decision}
use Rattle.model_house_cases.specs.Play.Shows.{answers, decides, entry, stands, ward_seat, poll_seat, counts, sound}

-- Worker p takes k turns, with hint yes.
alone : (p k : ℕ) → List HouseOperation
alone p k = repeat k (turns p true)

-- Worker 0 proposes 7 and takes k turns.
solo : (k : ℕ) → List HouseOperation
unfolding alone
solo k = proposes 0 7 ∷ alone 0 k

-- Workers 0 and 1 propose 3 and 8; worker 0 takes k turns, then worker 1 takes j.
both : (k j : ℕ) → List HouseOperation
unfolding alone
both k j = proposes 0 3 ∷ proposes 1 8 ∷ alone 0 k ++ alone 1 j

-- They propose as above; worker 1 takes 28 turns, to its first write in the poll; worker 0 takes 48, to its house write; then worker 1
-- takes j.
late : (j : ℕ) → List HouseOperation
unfolding alone
late j = proposes 0 3 ∷ proposes 1 8 ∷ alone 1 28 ++ alone 0 48 ++ alone 1 j

opens : (c : ℕ) → List ℕ → (code : ℕ) → HouseCase
opens c wards code =
    record { c = c; wards = wards; lent = no_counts; operations = []; changes = []; calls = []; shows = answers code ∷ [] }

-- A call on what a refused opening holds, the house of no worker, is refused as 3.
refused_case : (c : ℕ) → List ℕ → HouseCase
refused_case c wards =
    let call = proposes 0 7 in
    record { c = c; wards = wards; lent = no_counts; operations = []; changes = []; calls = call ∷ []; shows = answers 3 ∷ [] }

case : (c : ℕ) → List ℕ → List HouseOperation → List Shows → HouseCase
case c wards os ss = record { c = c; wards = wards; lent = no_counts; operations = os; changes = []; calls = []; shows = ss }

-- On a full tally.
full_case : List HouseOperation → List Shows → HouseCase
full_case os ss =
    let full : Counts = record { reads = 0; writes = 4294967295; contested = 0 } in
    record { c = 1; wards = 1 ∷ 1 ∷ []; lent = full; operations = os; changes = []; calls = []; shows = ss }

-- In a house with one worker in each of two wards, where worker 0 took k turns, something is changed, and then there is one call.
changed_case : (k : ℕ) → List Change → HouseOperation → List Shows → HouseCase
unfolding both
changed_case k xs o ss =
    record { c = 2; wards = 1 ∷ 2 ∷ []; lent = no_counts; operations = both k 0; changes = xs; calls = o ∷ []; shows = ss }

-- The call is refused as 3, before 4: there is no worker 9; or it is not, and 4 is returned.
unsound_case : (k : ℕ) → Change → HouseCase
unfolding changed_case
unsound_case k x = changed_case k (x ∷ []) (learns 9) (answers 3 ∷ [])

sound_case : (k : ℕ) → Change → HouseCase
unfolding changed_case
sound_case k x = changed_case k (x ∷ []) (learns 9) (answers 4 ∷ sound ∷ [])

-- Boards that no opening has: one seat of a ward's session, or of a poll, with another record.
ward : (s : ℕ) → Phase → (round value : ℕ) → Session
ward s φ r v = with_process (opened 1 64) s (process φ r v)

vote : (s : ℕ) → Phase → (round value : ℕ) → Session
vote s φ r v = with_process (opened 2 3) s (process φ r v)

pub table : List HouseCase
unfolding alone solo both late opens refused_case case full_case changed_case unsound_case sound_case ward vote
table =
    -- opening: 1, then 19
    opens 1 [] 1
    ∷ opens 5 (repeat 65 1) 1
    ∷ opens 1 (repeat 64 1) 19
    ∷ opens 1 (repeat 17 1) 19
    ∷ opens 1 (repeat 16 1) 0
    ∷ opens 0 (1 ∷ []) 19
    ∷ opens 5 (1 ∷ 2 ∷ 3 ∷ 4 ∷ 5 ∷ []) 19
    ∷ opens 2 (1 ∷ 3 ∷ []) 19
    ∷ opens 2 (1 ∷ 1 ∷ []) 19
    ∷ opens 2 (0 ∷ 2 ∷ []) 19
    ∷ opens 4 (4 ∷ 3 ∷ 2 ∷ 1 ∷ []) 0
    ∷ refused_case 2 (1 ∷ 1 ∷ [])
    -- one worker alone, to its house write and its house look
    ∷ case 1 (1 ∷ []) (solo 41)
    (answers 0 ∷ decides 7 ∷ entry 1 1 7 ∷ stands 0 (Working ProposeWard) 2 7 ∷ counts 31 7 0 ∷ sound ∷ [])
    ∷ case 1 (1 ∷ []) (solo 41 ++ (learns 0 ∷ [])) (answers 0 ∷ stands 0 Decided 2 7 ∷ counts 32 7 0 ∷ sound ∷ [])
    ∷ case 2 (1 ∷ 2 ∷ []) (solo 48 ++ (learns 0 ∷ [])) (answers 0 ∷ stands 0 Decided 2 7 ∷ counts 38 8 0 ∷ sound ∷ [])
    ∷ case 1 (1 ∷ 1 ∷ []) (solo 62 ++ (learns 0 ∷ [])) (answers 0 ∷ stands 0 Decided 2 7 ∷ counts 51 9 0 ∷ sound ∷ [])
    ∷ case 2 (1 ∷ 1 ∷ 2 ∷ []) (solo 70 ++ (learns 0 ∷ [])) (answers 0 ∷ stands 0 Decided 2 7 ∷ counts 58 10 0 ∷ sound ∷ [])
    ∷ case 4 (1 ∷ 2 ∷ 3 ∷ 4 ∷ []) (proposes 3 7 ∷ alone 3 56 ++ (learns 3 ∷ []))
    (answers 0 ∷ stands 3 Decided 2 7 ∷ counts 45 9 0 ∷ sound ∷ [])
    ∷ case 1 (repeat 16 1) (proposes 15 7 ∷ alone 15 212 ++ (learns 15 ∷ []))
    (answers 0 ∷ stands 15 Decided 2 7 ∷ counts 191 19 0 ∷ sound ∷ [])
    -- the places of one worker alone in a ward of one
    ∷ case 1 (1 ∷ []) (solo 0) (answers 0 ∷ stands 0 (Working ProposeWard) 1 7 ∷ counts 0 0 0 ∷ sound ∷ [])
    ∷ case 1 (1 ∷ []) (solo 1) (stands 0 (Working StepWard) 1 7 ∷ counts 0 0 0 ∷ sound ∷ [])
    ∷ case 1 (1 ∷ []) (solo 1 ++ (turns 0 false ∷ [])) (answers 0 ∷ stands 0 (Working LearnWard) 1 7 ∷ counts 0 0 0 ∷ [])
    ∷ case 1 (1 ∷ []) (solo 3) (stands 0 (Working StepWard) 1 7 ∷ counts 2 0 0 ∷ sound ∷ [])
    ∷ case 1 (1 ∷ []) (solo 25) (stands 0 (Working WriteTable) 1 7 ∷ decides 0 ∷ sound ∷ [])
    ∷ case 1 (1 ∷ []) (solo 26) (stands 0 (Working ProposePoll) 1 7 ∷ entry 1 1 7 ∷ sound ∷ [])
    ∷ case 1 (1 ∷ []) (solo 27) (stands 0 (Working StepPoll) 1 7 ∷ sound ∷ [])
    ∷ case 1 (1 ∷ []) (solo 39) (stands 0 (Working ReadTable) 1 7 ∷ sound ∷ [])
    ∷ case 1 (1 ∷ []) (solo 40) (stands 0 (Working WriteHouse) 1 7 ∷ decides 0 ∷ sound ∷ [])
    -- a house look that finds nothing leaves the place
    ∷ case 1 (1 ∷ []) (solo 27 ++ (learns 0 ∷ [])) (answers 0 ∷ stands 0 (Working StepPoll) 1 7 ∷ sound ∷ [])
    -- all eight outer rounds: the house write of the last one makes the worker spent, and its outer round stays 8; then a turn is refused,
    -- a house look and a crash are not
    ∷ case 1 (1 ∷ []) (solo 327) (answers 0 ∷ stands 0 (Working WriteHouse) 8 7 ∷ sound ∷ [])
    ∷ case 1 (1 ∷ []) (solo 328) (answers 0 ∷ stands 0 Exhausted 8 7 ∷ decides 7 ∷ entry 8 1 7 ∷ sound ∷ [])
    ∷ case 1 (1 ∷ []) (solo 329) (answers 9 ∷ [])
    ∷ case 1 (1 ∷ []) (solo 328 ++ (learns 0 ∷ turns 0 true ∷ [])) (answers 8 ∷ stands 0 Decided 8 7 ∷ [])
    ∷ case 1 (1 ∷ []) (solo 328 ++ (crashes 0 ∷ [])) (answers 0 ∷ stands 0 Crashed 8 7 ∷ sound ∷ [])
    -- two wards decide differently, and the house holds one number: worker 1 takes it at its table read, and no earlier
    ∷ case 2 (1 ∷ 2 ∷ []) (both 48 0) (decides 3 ∷ entry 1 1 3 ∷ entry 1 2 0 ∷ counts 37 8 0 ∷ sound ∷ [])
    ∷ case 2 (1 ∷ 2 ∷ []) (both 48 26)
    (ward_seat 1 1 0 3 ∷ ward_seat 1 2 0 8 ∷ entry 1 2 8 ∷ stands 1 (Working ProposePoll) 1 8 ∷ sound ∷ [])
    ∷ case 2 (1 ∷ 2 ∷ []) (both 48 41) (stands 1 (Working ReadTable) 1 8 ∷ poll_seat 1 1 1 ∷ sound ∷ [])
    ∷ case 2 (1 ∷ 2 ∷ []) (both 48 42) (stands 1 (Working WriteHouse) 1 3 ∷ sound ∷ [])
    ∷ case 2 (1 ∷ 2 ∷ []) (both 48 43) (decides 3 ∷ stands 1 (Working ProposeWard) 2 3 ∷ counts 72 13 0 ∷ sound ∷ [])
    ∷ case 2 (1 ∷ 2 ∷ []) (both 48 43 ++ (learns 0 ∷ learns 1 ∷ []))
    (stands 0 Decided 2 3 ∷ stands 1 Decided 2 3 ∷ counts 74 13 0 ∷ sound ∷ [])
    -- a house look that finds a number: the worker is decided with that one, not with its own, and its outer round stays
    ∷ case 2 (1 ∷ 2 ∷ []) (both 48 0 ++ (learns 1 ∷ [])) (answers 0 ∷ stands 1 Decided 1 3 ∷ counts 38 8 0 ∷ sound ∷ [])
    -- an adopted answer: worker 1 is about to write in the poll when worker 0 walks; its flag there is counted, and found its round
    -- unmarked; it takes 3, and the next outer round follows
    ∷ case 2 (1 ∷ 2 ∷ []) (late 14) (decides 3 ∷ stands 1 (Working ReadTable) 1 8 ∷ counts 71 14 1 ∷ sound ∷ [])
    ∷ case 2 (1 ∷ 2 ∷ []) (late 15)
    (answers 0 ∷ decides 3 ∷ stands 1 (Working ProposeWard) 2 3 ∷ counts 72 14 1 ∷ sound ∷ [])
    -- two workers of one ward: worker 1's seat is decided with 3, it writes that to the table, and its value stays 8
    ∷ case 1 (1 ∷ 1 ∷ []) (both 62 3) (ward_seat 1 1 1 3 ∷ stands 1 (Working WriteTable) 1 8 ∷ sound ∷ [])
    ∷ case 1 (1 ∷ 1 ∷ []) (both 62 4) (entry 1 1 3 ∷ stands 1 (Working ProposePoll) 1 8 ∷ sound ∷ [])
    -- worker 2 is the second of ward 2: its seat is 1 in the ward's session, and 2 in the poll
    ∷ case 2 (2 ∷ 1 ∷ 2 ∷ []) (proposes 2 7 ∷ alone 2 1)
    (ward_seat 1 2 1 7 ∷ ward_seat 1 2 0 0 ∷ ward_seat 1 1 1 0 ∷ sound ∷ [])
    ∷ case 2 (2 ∷ 1 ∷ 2 ∷ []) (proposes 2 7 ∷ alone 2 41) (stands 2 (Working StepPoll) 1 7 ∷ poll_seat 1 2 2 ∷ poll_seat 1 1 0 ∷ [])
    -- refusals: 4, 5, 6, 7, 8
    ∷ case 1 (1 ∷ []) (proposes 1 0 ∷ []) (answers 4 ∷ [])
    ∷ case 1 (1 ∷ []) (proposes 0 0 ∷ []) (answers 5 ∷ stands 0 Idle 1 0 ∷ sound ∷ [])
    ∷ case 1 (1 ∷ []) (proposes 0 7 ∷ proposes 0 0 ∷ []) (answers 5 ∷ [])
    ∷ case 1 (1 ∷ []) (proposes 0 7 ∷ proposes 0 8 ∷ []) (answers 6 ∷ stands 0 (Working ProposeWard) 1 7 ∷ [])
    ∷ case 1 (1 ∷ []) (turns 0 true ∷ []) (answers 7 ∷ [])
    ∷ case 1 (1 ∷ []) (learns 0 ∷ []) (answers 7 ∷ [])
    ∷ case 1 (1 ∷ []) (crashes 0 ∷ []) (answers 7 ∷ [])
    ∷ case 1 (1 ∷ []) (proposes 0 7 ∷ crashes 0 ∷ turns 0 true ∷ []) (answers 8 ∷ stands 0 Crashed 1 7 ∷ sound ∷ [])
    -- a full tally: 16 last, also for a turn that makes no register operation; a crash is accepted
    ∷ full_case (turns 2 true ∷ []) (answers 4 ∷ [])
    ∷ full_case (turns 0 true ∷ []) (answers 7 ∷ [])
    ∷ full_case (proposes 0 7 ∷ turns 0 true ∷ []) (answers 16 ∷ stands 0 (Working ProposeWard) 1 7 ∷ [])
    ∷ full_case (proposes 0 7 ∷ learns 0 ∷ []) (answers 16 ∷ [])
    ∷ full_case (proposes 0 7 ∷ crashes 0 ∷ []) (answers 0 ∷ stands 0 Crashed 1 7 ∷ counts 0 4294967295 0 ∷ [])
    -- in the turn that makes its ward seat spent the worker is spent, even if the ward's D is filled
    ∷ changed_case 1 (set_session 0 (with_decision (ward 0 phase.Waiting 64 3) 5) ∷ []) (turns 0 true)
    (answers 0 ∷ stands 0 Exhausted 1 3 ∷ counts 0 0 0 ∷ sound ∷ [])
    -- a table read at the answer's ward: a filled entry is taken, a blank one leaves the value
    ∷ changed_case 46 (set_entry 1 1 5 ∷ []) (turns 0 true) (answers 0 ∷ stands 0 (Working WriteHouse) 1 5 ∷ counts 37 7 0 ∷ [])
    ∷ changed_case 46 (set_entry 1 1 0 ∷ []) (turns 0 true) (answers 0 ∷ stands 0 (Working WriteHouse) 1 3 ∷ counts 37 7 0 ∷ [])
    ∷ changed_case 46 (set_entry 1 2 5 ∷ []) (turns 0 true) (answers 0 ∷ stands 0 (Working WriteHouse) 1 3 ∷ [])
    -- a house write where the register is filled
    ∷ changed_case 47 (set_decision 5 ∷ []) (turns 0 true) (answers 0 ∷ decides 3 ∷ counts 37 8 0 ∷ [])
    -- 3, and first: "wards not as opening allows",
    ∷ unsound_case 1 (set_n 0)
    ∷ unsound_case 1 (set_n 17)
    ∷ unsound_case 1 (set_c 0)
    ∷ unsound_case 1 (set_c 5)
    ∷ unsound_case 1 (set_ward 0 0)
    ∷ unsound_case 1 (set_ward 0 3)
    ∷ unsound_case 1 (set_ward 0 2)
    -- "a session or poll unsound, closed or of another size",
    ∷ unsound_case 1 (set_session 15 (with_process (opened 1 64) 1 (process phase.Waiting 0 3)))
    ∷ unsound_case 1 (set_session 15 (with_closed (opened 1 64)))
    ∷ unsound_case 1 (set_session 15 (opened 2 64))
    ∷ unsound_case 1 (set_session 15 (opened 1 63))
    ∷ unsound_case 1 (set_poll 7 (with_decision (opened 2 3) 1))
    ∷ unsound_case 1 (set_poll 7 (with_closed (opened 2 3)))
    ∷ unsound_case 1 (set_poll 7 (opened 1 2))
    -- "a poll number above c",
    ∷ unsound_case 1 (set_poll 7 (with_values (opened 2 3) (set (repeat 256 0) 2 3)))
    ∷ unsound_case 1 (set_poll 7 (vote 1 phase.Crashed 1 3))
    -- "an outer round not 1 to 8, a proposed worker without a value",
    ∷ unsound_case 1 (set_worker 1 (worker Idle 0 0))
    ∷ unsound_case 1 (set_worker 1 (worker Idle 9 0))
    ∷ unsound_case 1 (set_worker 1 (worker Crashed 1 0))
    -- "or a seat not out, working, decided or answered (committed, before a house write) as a working worker's next turn needs"
    ∷ unsound_case 1 (set_worker 0 (worker (Working ProposeWard) 1 3))
    ∷ unsound_case 0 (set_worker 0 (worker (Working StepWard) 1 3))
    ∷ unsound_case 0 (set_worker 0 (worker (Working LearnWard) 1 3))
    ∷ unsound_case 2 (set_session 0 (ward 0 phase.Exhausted 64 3))
    ∷ unsound_case 1 (set_worker 0 (worker (Working WriteTable) 1 3))
    ∷ unsound_case 27 (set_worker 0 (worker (Working ProposePoll) 1 3))
    ∷ unsound_case 26 (set_worker 0 (worker (Working StepPoll) 1 3))
    ∷ unsound_case 27 (set_worker 0 (worker (Working ReadTable) 1 3))
    ∷ unsound_case 27 (set_worker 0 (worker (Working WriteHouse) 1 3))
    ∷ unsound_case 47 (set_poll 0 (vote 0 phase.HasAdopted 3 1))
    -- and nothing else: the table, the decision register, sessions of wards above c, workers from n on, seats that no working worker needs
    -- next, an outer round and seats of a worker that does not work
    ∷ sound_case 1 (set_entry 1 4 9)
    ∷ sound_case 1 (set_decision 9)
    ∷ sound_case 1 (set_session 16 (with_closed (opened 9 9)))
    ∷ sound_case 1 (set_worker 2 (worker (Working WriteHouse) 9 0))
    ∷ sound_case 1 (set_session 1 (ward 0 phase.Crashed 9 9))
    ∷ sound_case 1 (set_poll 0 (vote 0 phase.HasAdopted 3 2))
    ∷ sound_case 1 (set_worker 1 (worker Idle 8 9))
    ∷ sound_case 1 (set_worker 0 (worker Exhausted 4 9))
    ∷ []

-- Every row holds.
pub house_cases : every holds table ≡ true
unfolding
    table holds window root_up root_from opened waiting_rule phase_access access found go_on phase_next next stored turn counted learnt full
    opening_for access_of becomes after counts_after answered perform without_decision poll_access ending poll_next answer_of poll.turn_after
    poll.turn_counts poll.turned poll.poll_perform sound_phase_as sound_process_as poll_registers sound_for_as sound_as
    seat_of allowed opened_house house_opening turn_at view_of with_view turn_by turned house_after house_counts house_answered house_perform
    sound_ward sound_numbers sound_vote seats_fit sound_worker sound_wards sound_house house_operate
house_cases = refl
