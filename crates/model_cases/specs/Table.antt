-- Document 01, "Paper cases": the starred rows, in their order and as document 02 has them now, with the other windows that its wish 8
-- names and the cases of wish 10, and that all of them hold of the machine. The cases that 01 plays at L = 3 with one process and at L = 5 with two are played at
-- those L, and again at the least L of wish 8.
use Rattle.std.specs.Prelude.{ℕ, ◌≡◌, refl, true, false, List, [], ◌∷◌, ◌++◌, map}
use Rattle.model.specs.declared.Phase.TheVariants.{Idle, Waiting, Write, Compare, Commit, Exhausted, Crashed, Decided}
use Rattle.model.specs.declared.Operation.TheVariants.{Propose, Step, Learn, Crash}
use Rattle.model.specs.Window.{window, root_up, root_from}
use Rattle.model.specs.Board.{opened}
use Rattle.model.specs.Step.{waiting_rule, phase_access, access, found, go_on, phase_next, next, learnt, stored, turn, counted}
use Rattle.model.specs.Refusal.{full}
use Rattle.model.specs.Machine.{Command, acts, closes, opening_for, access_of, becomes, after, counts_after, answered, perform, execute}
use Rattle.model.specs.Public.{close_for, close}
use Rattle.model.specs.Sound.{every, sound_for_as}
use Rattle.model_cases.specs.Play.{Case, holds, repeat}
use Rattle.model_cases.specs.Play.Shows.{answers, has_window, register, marked, decision, stands, counts, closed}

-- n = 1: proposal 7, hints yes.
solo : ℕ → List Command
solo turns = map acts (Propose 0 7 ∷ repeat turns (Step 0 true))

-- Proposal 7, and 19 hints of no.
unhinted : List Command
unhinted = map acts (Propose 0 7 ∷ repeat 19 (Step 0 false))

-- From its commit on, with L = 2 at gate in round L: hints no.
unled : ℕ → List Command
unfolding solo
unled turns = solo 12 ++ repeat turns (acts (Step 0 false))

-- n = 2: seat 0 proposes 3, seat 1 proposes 8; hints yes; work 0, 1, 0, 1, 0, 0, 1.
contended : List Command
contended =
    map acts
    (Propose 0 3
    ∷ Propose 1 8
    ∷ Step 0 true
    ∷ Step 1 true
    ∷ Step 0 true
    ∷ Step 1 true
    ∷ Step 0 true
    ∷ Step 0 true
    ∷ Step 1 true
    ∷ [])

-- "From there work 0, 0, 1, 1, 1".
continued : List Command
unfolding contended
continued = contended ++ map acts (Step 0 true ∷ Step 0 true ∷ Step 1 true ∷ Step 1 true ∷ Step 1 true ∷ [])

-- 02, wish 10, n = 2: seat 0 proposes 3, and then the session is closed.
signed : List Command
signed = acts (Propose 0 3) ∷ closes ∷ []

pub table : List Case
unfolding solo unhinted unled contended continued signed
table =
    -- opening
    record { n = 0; limit = 16; operations = []; shows = answers 1 ∷ [] }
    ∷ record { n = 65; limit = 256; operations = []; shows = answers 1 ∷ [] }
    ∷ record { n = 64; limit = 15; operations = []; shows = answers 2 ∷ [] }
    ∷ record { n = 64; limit = 16; operations = []; shows = answers 0 ∷ has_window 16 ∷ [] }
    -- the windows for n = 2, 16 and 17; then those of 02, wish 8, for 1, 4, 5 and 9
    ∷ record { n = 2; limit = 3; operations = []; shows = answers 0 ∷ has_window 3 ∷ [] }
    ∷ record { n = 16; limit = 8; operations = []; shows = answers 0 ∷ has_window 8 ∷ [] }
    ∷ record { n = 17; limit = 9; operations = []; shows = answers 0 ∷ has_window 9 ∷ [] }
    ∷ record { n = 1; limit = 2; operations = []; shows = answers 0 ∷ has_window 2 ∷ [] }
    ∷ record { n = 4; limit = 4; operations = []; shows = answers 0 ∷ has_window 4 ∷ [] }
    ∷ record { n = 5; limit = 5; operations = []; shows = answers 0 ∷ has_window 5 ∷ [] }
    ∷ record { n = 9; limit = 6; operations = []; shows = answers 0 ∷ has_window 6 ∷ [] }
    -- one process. 01: "n = 1, L = 3, proposal 7, hints yes: after 3 work turns round 1 is over; after 18 the stance is commit and D is
    -- blank; after 19 D is 7, 15 reads, 4 writes." 02, wish 8: "The paper case of one seat becomes 12 work turns to the commit, 9 reads, 3
    -- writes". So the stance is commit and D is blank after 11. Round 3 follows where L = 3; after 19 turns D and the counts are as in 01.
    ∷ record { n = 1; limit = 3; operations = solo 3; shows = answers 0 ∷ stands 0 Waiting 1 7 ∷ [] }
    ∷ record { n = 1; limit = 3; operations = solo 11; shows = stands 0 Commit 2 7 ∷ decision 0 ∷ [] }
    ∷ record { n = 1; limit = 3; operations = solo 12; shows = decision 7 ∷ counts 9 3 0 ∷ [] }
    ∷ record { n = 1; limit = 3; operations = solo 19; shows = decision 7 ∷ counts 15 4 0 ∷ [] }
    -- and with L = 2
    ∷ record { n = 1; limit = 2; operations = solo 3; shows = answers 0 ∷ stands 0 Waiting 1 7 ∷ [] }
    ∷ record { n = 1; limit = 2; operations = solo 11; shows = stands 0 Commit 2 7 ∷ decision 0 ∷ [] }
    ∷ record { n = 1; limit = 2; operations = solo 12; shows = decision 7 ∷ counts 9 3 0 ∷ [] }
    -- "The same with 19 hints of no: still at gate, round 0, tally all 0." With L = 3, and with L = 2.
    ∷ record { n = 1; limit = 3; operations = unhinted; shows = answers 0 ∷ stands 0 Waiting 0 7 ∷ counts 0 0 0 ∷ [] }
    ∷ record { n = 1; limit = 2; operations = unhinted; shows = answers 0 ∷ stands 0 Waiting 0 7 ∷ counts 0 0 0 ∷ [] }
    -- two processes. 01: "n = 2, L = 5, seat 0 proposes 3, seat 1 proposes 8. Hints yes. Work 0, 1, 0, 1, 0, 0, 1: T[1] = 8, C[1] marked,
    -- 4 reads, 3 writes, 1 contested." "From there work 0, 0, 1, 1, 1: T[2] = 3; seat 1 stands at compare 0, round 2, value 3; 8 reads, 4
    -- writes."
    ∷ record { n = 2; limit = 5; operations = contended; shows = register 1 8 ∷ marked 1 ∷ counts 4 3 1 ∷ [] }
    ∷ record { n = 2; limit = 5; operations = continued; shows = register 2 3 ∷ stands 1 (Compare 0) 2 3 ∷ counts 8 4 1 ∷ [] }
    -- and with L = 3, by 02, wish 8 ("The other cases are worked again.")
    ∷ record { n = 2; limit = 3; operations = contended; shows = register 1 8 ∷ marked 1 ∷ counts 4 3 1 ∷ [] }
    ∷ record { n = 2; limit = 3; operations = continued; shows = register 2 3 ∷ stands 1 (Compare 0) 2 3 ∷ counts 8 4 1 ∷ [] }
    -- at gate with round L, where 01 has "hint no, gate; hint yes, spent" and 02, wish 5, spent for both: hint no; hint yes; a further work
    -- turn after either; a look
    ∷ record { n = 1; limit = 2; operations = unled 1; shows = answers 0 ∷ stands 0 Exhausted 2 7 ∷ counts 9 3 0 ∷ [] }
    ∷ record { n = 1; limit = 2; operations = solo 13; shows = answers 0 ∷ stands 0 Exhausted 2 7 ∷ counts 9 3 0 ∷ [] }
    ∷ record { n = 1; limit = 2; operations = unled 2; shows = answers 9 ∷ stands 0 Exhausted 2 7 ∷ counts 9 3 0 ∷ [] }
    ∷ record { n = 1; limit = 2; operations = solo 14; shows = answers 9 ∷ stands 0 Exhausted 2 7 ∷ counts 9 3 0 ∷ [] }
    ∷ record { n = 1; limit = 2; operations = unled 2 ++ (acts (Learn 0) ∷ []); shows = answers 0 ∷ stands 0 Decided 2 7 ∷ counts 10 3 0 ∷ [] }
    -- a second proposal
    ∷ record { n = 1; limit = 2; operations = map acts (Propose 0 5 ∷ Propose 0 5 ∷ []); shows = answers 6 ∷ [] }
    ∷ record { n = 1; limit = 2; operations = map acts (Propose 0 5 ∷ Propose 0 0 ∷ []); shows = answers 5 ∷ [] }
    -- 02, wish 10: "a closed mark, open at first. A close sets it, also where it is set already", and counts nothing
    ∷ record { n = 2; limit = 3; operations = []; shows = answers 0 ∷ closed false ∷ [] }
    ∷ record { n = 2; limit = 3; operations = signed; shows = answers 0 ∷ closed true ∷ stands 0 Waiting 0 3 ∷ counts 0 0 0 ∷ [] }
    ∷ record { n = 2; limit = 3; operations = signed ++ (closes ∷ []); shows = answers 0 ∷ closed true ∷ [] }
    -- "proposals are then refused": 18, "tested last, after 6", and after 5 and 4
    ∷ record { n = 2; limit = 3; operations = signed ++ (acts (Propose 1 8) ∷ []); shows = answers 18 ∷ stands 1 Idle 0 0 ∷ [] }
    ∷ record { n = 2; limit = 3; operations = signed ++ (acts (Propose 0 8) ∷ []); shows = answers 6 ∷ [] }
    ∷ record { n = 2; limit = 3; operations = signed ++ (acts (Propose 1 0) ∷ []); shows = answers 5 ∷ [] }
    ∷ record { n = 2; limit = 3; operations = signed ++ (acts (Propose 2 8) ∷ []); shows = answers 4 ∷ [] }
    -- "and all else goes on": work, a look, a crash; and the whole case of one seat, closed after its proposal
    ∷ record { n = 2; limit = 3; operations = signed ++ (acts (Step 0 true) ∷ []); shows = answers 0 ∷ stands 0 Write 1 3 ∷ closed true ∷ [] }
    ∷ record { n = 2; limit = 3; operations = signed ++ (acts (Learn 0) ∷ []); shows = answers 0 ∷ stands 0 Waiting 0 3 ∷ counts 1 0 0 ∷ [] }
    ∷ record { n = 2; limit = 3; operations = signed ++ (acts (Crash 0) ∷ []); shows = answers 0 ∷ stands 0 Crashed 0 3 ∷ closed true ∷ [] }
    ∷ record {
      n = 1;
      limit = 2;
      operations = acts (Propose 0 7) ∷ closes ∷ map acts (repeat 12 (Step 0 true) ++ (Learn 0 ∷ []));
      shows = stands 0 Decided 2 7 ∷ decision 7 ∷ counts 10 3 0 ∷ closed true ∷ [];
    }
    ∷ []

-- Every row holds of the machine.
pub starred_cases : every holds table ≡ true
unfolding
    table holds window root_up root_from opened waiting_rule phase_access access found go_on phase_next next learnt stored turn counted full
    opening_for
    access_of becomes after counts_after answered perform execute
starred_cases = refl

-- 02, wish 10, "Close: 3": a damaged session, here one of no process, is left as it is.
pub damaged_close : close (opened 0 0) ≡ record { code = 3; session = opened 0 0 }
unfolding close_for sound_for_as opened
damaged_close = refl
