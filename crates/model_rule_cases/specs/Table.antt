-- Three short lists of calls, found by search, in which two turns commit different values: just below the bound W * W ≥ 4n.
use Rattle.std.specs.Prelude.{ℕ, ◌≡◌, refl, true, List, [], ◌∷◌, ◌++◌, map, replicate}
use Rattle.model.specs.declared.Operation.{Operation}
use Rattle.model.specs.declared.Operation.TheVariants.{Propose, Learn}
use Rattle.model.specs.Board.{opened}
use Rattle.model.specs.Step.{waiting_rule, phase_access, access, found, go_on, phase_next, next, learnt, stored, turn, counted}
use Rattle.model.specs.Refusal.{full}
use Rattle.model.specs.Machine.{opening_for, access_of, becomes, after, counts_after, answered, perform, execute}
use Rattle.model.specs.Sound.{every}
use Rattle.model_rule_cases.specs.Play.{works, played}
use Rattle.model_rule_cases.specs.Breaks.{Row, happens, differ, breaks}

-- One step of each process, in that order.
abbrev turns : List ℕ → List Operation
turns ps = map works ps

two : List Operation
two =
    Propose 0 1
    ∷ Propose 1 2
    ∷ turns (0 ∷ 1 ∷ 0 ∷ 0 ∷ 0 ∷ 1 ∷ 1 ∷ 1 ∷ 1 ∷ 1 ∷ 1 ∷ 1 ∷ 1 ∷ 0 ∷ 0 ∷ 0 ∷ 1 ∷ 0 ∷ 0 ∷ 0 ∷ 0 ∷ 0 ∷ 0 ∷ 0 ∷ 0 ∷ 0 ∷ 0 ∷ 0 ∷ 1 ∷ 0 ∷ 1 ∷ [])
    ++ Learn 1
    ∷ works 0
    ∷ Learn 0
    ∷ []

three : List Operation
three =
    Propose 0 1
    ∷ Propose 1 2
    ∷ Propose 2 1
    ∷ turns (0 ∷ 2 ∷ 1 ∷ 0 ∷ 0 ∷ 0 ∷ 1 ∷ 1 ∷ 1 ∷ 1 ∷ 1 ∷ 0 ∷ 0 ∷ 1 ∷ 1 ∷ 2 ∷ 0 ∷ 0 ∷ 0 ∷ 0 ∷ 0 ∷ 0 ∷ 0 ∷ 0 ∷ 1 ∷ 1 ∷ 1 ∷ 0 ∷ 1 ∷ 1 ∷ 0 ∷ 0
    ∷ [])
    ++ replicate 25 (works 1)
    ++ turns (0 ∷ 1 ∷ 0 ∷ [])
    ++ Learn 0
    ∷ works 1
    ∷ Learn 1
    ∷ []

five : List Operation
five =
    Propose 0 1
    ∷ Propose 1 2
    ∷ Propose 2 1
    ∷ Propose 3 2
    ∷ Propose 4 1
    ∷ turns (0 ∷ 2 ∷ 4 ∷ 1 ∷ 3 ∷ 0 ∷ 1 ∷ 1 ∷ 1 ∷ 2 ∷ 0 ∷ 0 ∷ 2 ∷ 2 ∷ 0 ∷ 0 ∷ 1 ∷ 1 ∷ 0 ∷ 0 ∷ 3 ∷ 1 ∷ 1 ∷ 1 ∷ 1 ∷ 0 ∷ 0 ∷ 1 ∷ 2 ∷ 0 ∷ 1 ∷ 1
    ∷ 4 ∷ [])
    ++ replicate 16 (works 0)
    ++ Learn 0
    ∷ replicate 53 (works 1)
    ++ Learn 1
    ∷ []

pub table : List Row
table =
    record {
      n = 2;
      window = 2;
      limit = 3;
      operations = two;
      first = record { process = 1; round = 2; value = 2 };
      second = record { process = 0; round = 3; value = 1 };
    }
    ∷ record {
      n = 3;
      window = 3;
      limit = 5;
      operations = three;
      first = record { process = 0; round = 3; value = 1 };
      second = record { process = 1; round = 5; value = 2 };
    }
    ∷ record {
      n = 5;
      window = 4;
      limit = 7;
      operations = five;
      first = record { process = 0; round = 4; value = 1 };
      second = record { process = 1; round = 7; value = 2 };
    }
    ∷ []

-- Every row breaks the machine at its window.
pub short_lists : every breaks table ≡ true
unfolding
    two three five table played happens differ breaks opened waiting_rule phase_access access found go_on phase_next next learnt stored turn
    counted full opening_for
    access_of becomes after counts_after answered perform execute
short_lists = refl
