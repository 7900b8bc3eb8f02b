-- By computation: the list of calls of each window from 2 to 15 breaks the agreement rule at that window.
use Rattle.std.specs.Prelude.{ℕ, ◌*◌, ◌-◌, ◌≡◌, refl, Bool, true, ◌&&◌, List, [], ◌∷◌, map}
use Rattle.model.specs.declared.Session.{Session}
use Rattle.model.specs.Board.{opened}
use Rattle.model.specs.Step.{waiting_rule, phase_access, access, found, go_on, phase_next, next, learnt, stored, turn, counted}
use Rattle.model.specs.Refusal.{full}
use Rattle.model.specs.Machine.{access_of, becomes, after, counts_after, answered, perform, execute}
use Rattle.model.specs.Sound.{every}
use Rattle.model_rule.specs.Event.{Event, write, commit}
use Rattle.model_rule.specs.Calls.{sessions}
use Rattle.model_rule.specs.Safe.{threshold}
use Rattle.model_rule_cases.specs.Events.{occurs}
use Rattle.model_rule_cases.specs.Breaks.{happens, differ}
use Rattle.theory_window.specs.Construction.{from, with_write, goes_on_to, all_go_on, one_pass, epochs, at_first, at_last, Plan, construction}
use Rattle.theory_window.specs.More.{grown, inside, watched}

-- The thresholds of the windows 2, 3, .., 16.
pub thresholds : map threshold (from 2 15) ≡ 2 ∷ 3 ∷ 5 ∷ 7 ∷ 10 ∷ 14 ∷ 18 ∷ 22 ∷ 27 ∷ 33 ∷ 39 ∷ 45 ∷ 52 ∷ 60 ∷ 68 ∷ []
thresholds = refl

-- In a past: 1 is committed in round W, and the other process writes 2 there.
unfoldable pub written_over : (W : ℕ) → Plan → List Event → Bool
written_over W c h = occurs (commit W 1) h && occurs (write c.other W 2) h

-- 1 is committed in round W and 2 in round 2W - 1, and the two processes decide these.
unfoldable pub two_decisions : (W : ℕ) → Plan → List Event → Bool
two_decisions W c h =
    differ h (record { process = c.one; round = W; value = 1 }) (record { process = c.other; round = 2 * W - 1; value = 2 })

-- The first holds after the first part of the list, and the second, with W - 1 rounds more, after the second part.
unfoldable pub after_first : (W : ℕ) → Plan → Session → List Event → Bool
after_first W c s h = written_over W c h && watched (sessions W) inside (grown 0 (W - 1) s) h c.second (λ t k. two_decisions W c k)

-- The list of window W, in a session of W rounds and as many processes as its threshold.
unfoldable pub broken : (W : ℕ) → Bool
broken W = let c = construction W in watched (sessions W) inside (opened (threshold W) W) [] c.first (after_first W c)

pub all_broken : every broken (from 2 14) ≡ true
unfolding
    broken after_first written_over two_decisions happens differ with_write goes_on_to all_go_on one_pass epochs at_first at_last construction
    watched opened waiting_rule phase_access access found go_on phase_next next learnt stored turn counted full access_of becomes after
    counts_after answered perform execute
all_broken = refl
