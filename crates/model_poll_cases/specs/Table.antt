-- Document 02, wish 6: the paper cases of polls, and that all of them hold of the machine of polls.
use Rattle.std.specs.Prelude.{ℕ, ◌≡◌, refl, true, List, [], ◌∷◌, ◌++◌}
use Rattle.model.specs.declared.Phase.TheVariants.{Write, CheckMark, CheckValue, Commit, Crashed, HasCommitted, HasAdopted}
use Rattle.model.specs.Window.{window, root_up, root_from}
use Rattle.model.specs.Board.{opened}
use Rattle.model.specs.Step.{waiting_rule, phase_access, access, found, go_on, phase_next, next, stored, turn, counted}
use Rattle.model.specs.Refusal.{full}
use Rattle.model.specs.Machine.{opening_for, access_of, becomes, after, counts_after, answered, perform}
use Rattle.model.specs.Sound.{every}
use Rattle.model_cases.specs.Play.{repeat}
use Rattle.model_cases.specs.Play.Shows.{answers, has_window, has_limit, register, marked, decision, stands, counts}
use Rattle.model_poll.specs.declared.Answer.TheVariants.{Pending, Commits, Adopts}
use Rattle.model_poll.specs.Turn.{without_decision, poll_access, ending, poll_next, answer_of}
use Rattle.model_poll.specs.Machine.{PollOperation, proposes, turns, crashes, poll_opening_for, turn_after, turn_counts, turned, poll_perform}
use Rattle.model_poll_cases.specs.Play.{PollCase, holds}

-- n = 1, proposal 7.
solo : ℕ → List PollOperation
solo k = proposes 0 7 ∷ repeat k (turns 0)

-- n = 2: process 0 proposes 3, process 1 proposes 8. Process 1 reads T[1], blank, and stalls at put; then process 0 takes k turns.
stalled : ℕ → List PollOperation
stalled k = proposes 0 3 ∷ proposes 1 8 ∷ turns 1 ∷ repeat k (turns 0)

-- Process 0 has its answer; then process 1 takes k turns more.
resumed : ℕ → List PollOperation
unfolding stalled
resumed k = stalled 19 ++ repeat k (turns 1)

-- Process 0 has seen that C[1] is unmarked; process 1 writes 8 to T[1], which process 0 then reads.
overwritten : List PollOperation
unfolding stalled
overwritten = stalled 17 ++ (turns 1 ∷ turns 0 ∷ [])

-- Both have their answers, and one operation more is refused: it changes nothing.
over : PollOperation → PollCase
unfolding resumed
over o =
    record {
      n = 2;
      operations = resumed 14 ++ (o ∷ []);
      gives = Pending;
      keeps = Commits 3 ∷ Adopts 3 ∷ [];
      shows = answers 8 ∷ counts 28 5 1 ∷ [];
    }

pub table : List PollCase
unfolding solo stalled resumed over overwritten
table =
    -- opening
    record { n = 0; operations = []; gives = Pending; keeps = []; shows = answers 1 ∷ [] }
    ∷ record { n = 65; operations = []; gives = Pending; keeps = []; shows = answers 1 ∷ [] }
    ∷ record { n = 64; operations = []; gives = Pending; keeps = []; shows = answers 0 ∷ has_window 16 ∷ has_limit 16 ∷ [] }
    -- one process: at commit after 11 turns; the 12th answers committed, touches no register and leaves D blank
    ∷ record {
      n = 1;
      operations = solo 11;
      gives = Pending;
      keeps = Pending ∷ [];
      shows = answers 0 ∷ stands 0 Commit 2 7 ∷ decision 0 ∷ counts 9 2 0 ∷ [];
    }
    ∷ record {
      n = 1;
      operations = solo 12;
      gives = Commits 7;
      keeps = Commits 7 ∷ [];
      shows = answers 0 ∷ stands 0 HasCommitted 2 7 ∷ decision 0 ∷ counts 9 2 0 ∷ [];
    }
    -- answered, it takes no turn, no crash and no second proposal
    ∷ record {
      n = 1;
      operations = solo 13;
      gives = Pending;
      keeps = Commits 7 ∷ [];
      shows = answers 8 ∷ stands 0 HasCommitted 2 7 ∷ counts 9 2 0 ∷ [];
    }
    ∷ record {
      n = 1;
      operations = solo 12 ++ (crashes 0 ∷ []);
      gives = Pending;
      keeps = Commits 7 ∷ [];
      shows = answers 8 ∷ stands 0 HasCommitted 2 7 ∷ [];
    }
    ∷ record { n = 1; operations = solo 12 ++ (proposes 0 7 ∷ []); gives = Pending; keeps = Commits 7 ∷ []; shows = answers 6 ∷ [] }
    -- a turn and a crash before the proposal; of no process; a proposal of 0
    ∷ record { n = 1; operations = turns 0 ∷ []; gives = Pending; keeps = Pending ∷ []; shows = answers 7 ∷ [] }
    ∷ record { n = 1; operations = crashes 0 ∷ []; gives = Pending; keeps = Pending ∷ []; shows = answers 7 ∷ [] }
    ∷ record { n = 1; operations = proposes 0 7 ∷ turns 1 ∷ []; gives = Pending; keeps = Pending ∷ []; shows = answers 4 ∷ [] }
    ∷ record { n = 1; operations = proposes 0 7 ∷ crashes 1 ∷ []; gives = Pending; keeps = Pending ∷ []; shows = answers 4 ∷ [] }
    ∷ record { n = 1; operations = proposes 0 0 ∷ []; gives = Pending; keeps = Pending ∷ []; shows = answers 5 ∷ [] }
    -- two processes: one answers committed, the other adopted, with the same value (examples/two_answers.poll)
    ∷ record {
      n = 2;
      operations = stalled 18;
      gives = Pending;
      keeps = Pending ∷ Pending ∷ [];
      shows = stands 0 Commit 3 3 ∷ stands 1 Write 1 8 ∷ counts 16 3 0 ∷ [];
    }
    ∷ record {
      n = 2;
      operations = stalled 19;
      gives = Commits 3;
      keeps = Commits 3 ∷ Pending ∷ [];
      shows = answers 0 ∷ stands 0 HasCommitted 3 3 ∷ decision 0 ∷ counts 16 3 0 ∷ [];
    }
    ∷ record {
      n = 2;
      operations = resumed 13;
      gives = Pending;
      keeps = Commits 3 ∷ Pending ∷ [];
      shows = stands 1 (CheckMark 2) 3 3 ∷ counts 27 5 1 ∷ [];
    }
    ∷ record {
      n = 2;
      operations = resumed 14;
      gives = Adopts 3;
      keeps = Commits 3 ∷ Adopts 3 ∷ [];
      shows =
          answers 0
          ∷ stands 1 HasAdopted 3 3
          ∷ register 1 8
          ∷ register 2 3
          ∷ register 3 3
          ∷ marked 1
          ∷ decision 0
          ∷ counts 28 5 1
          ∷ [];
    }
    -- neither takes a further turn or crash
    ∷ over (turns 0)
    ∷ over (crashes 0)
    ∷ over (turns 1)
    ∷ over (crashes 1)
    -- a check fails by the value, and no round is marked; the other process crashes (examples/adopted_by_value.poll)
    ∷ record {
      n = 2;
      operations = stalled 17;
      gives = Pending;
      keeps = Pending ∷ Pending ∷ [];
      shows = stands 0 (CheckValue 2) 3 3 ∷ counts 15 3 0 ∷ [];
    }
    ∷ record {
      n = 2;
      operations = overwritten;
      gives = Adopts 3;
      keeps = Adopts 3 ∷ Pending ∷ [];
      shows = answers 0 ∷ stands 0 HasAdopted 3 3 ∷ register 1 8 ∷ decision 0 ∷ counts 16 4 0 ∷ [];
    }
    ∷ record {
      n = 2;
      operations = overwritten ++ (crashes 1 ∷ []);
      gives = Pending;
      keeps = Adopts 3 ∷ Pending ∷ [];
      shows = answers 0 ∷ stands 1 Crashed 1 8 ∷ counts 16 4 0 ∷ [];
    }
    ∷ []

-- Every row holds of the machine.
pub poll_cases : every holds table ≡ true
unfolding
    table holds window root_up root_from opened waiting_rule phase_access access found go_on phase_next next stored turn counted full opening_for
    access_of becomes after counts_after answered perform without_decision poll_access ending poll_next answer_of poll_opening_for turn_after
    turn_counts
    turned poll_perform
poll_cases = refl
