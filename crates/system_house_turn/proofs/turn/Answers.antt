-- The answers of `turn`, by its first refusal, and by the view that the turn leaves.
use Rattle.std.proofs.Common.{◌%◌, ◌≡◌, refl, arith, rules, length}
use Rattle.std.proofs.lemmas.Grind.{common_steps}
use Rattle.base.specs.Arrays.{length_mapped}
use Rattle.model_laws.specs.Answers.{number_some}
use Rattle.model_house.specs.Machine.{turns, view_of, with_view, turned}
use Rattle.model_house.specs.Public.{house_turn}
use Rattle.model_house_laws.specs.Accepted.{house_code, house_code_law, house_refused, house_known, house_index, house_left}
use Rattle.model_house_laws.specs.Turns.{Known, known_at, turned_is, turned_house, turned_counts}
use Rattle.system_house_turn.proofs.turn.Goals as goal
use Rattle.system_house_turn.proofs.turn.Goals.{After-seat_of-s}

pub returns-in_err-first_refusal : goal.returns-in_err-first_refusal
unfolding house_turn
returns-in_err-first_refusal c =
    let a = c.args in
    let o = turns a.p a.hint in
    let code = house_code_law a.h a.c o c.sound.ensures c.phase_of.ensures c.step_refusal-own.ensures c.in_err-first_refusal.ensures in
    grind (arith, common_steps, house_refused a.h a.c o code (number_some c.in_err-first_refusal.field-0.0))

-- ---- accepted: the index that the code uses is the worker's number, and its ward and its outer round are in range

none : (c : After-seat_of-s) → let a = c.args in 0 ≡ house_code a.h a.c (turns a.p a.hint)
none c =
    let a = c.args in
    house_code_law a.h a.c (turns a.p a.hint) c.sound.ensures c.phase_of.ensures c.step_refusal-own.ensures c.in_ok-first_refusal.ensures

same : (c : After-seat_of-s) → let a = c.args in a.p % 16 ≡ a.p
same c = let a = c.args in house_index a.h a.c (turns a.p a.hint) (none c) refl

known : (c : After-seat_of-s) → let a = c.args in Known a.h a.c (a.p % 16) a.hint
known c =
    let a = c.args in
    let size : length a.h.wards ≡ 16 = search (rules, length_mapped) in
    known_at a.h a.c a.p a.hint (same c) size (house_known a.h a.c (turns a.p a.hint) (none c) refl)

-- ---- the places of the boards, before the turn and after it

pub overflow_sub-r : goal.overflow_sub-r
overflow_sub-r c = omega (arith, known (goal.at.overflow_sub-r c).After-seat_of-s)

pub overflow_sub-k : goal.overflow_sub-k
overflow_sub-k c = omega (arith, known (goal.at.overflow_sub-k c).After-seat_of-s)

pub overflow_add-k : goal.overflow_add-k
overflow_add-k c = omega (arith, known (goal.at.overflow_add-k c).After-seat_of-s)

pub offset_bounds-h-k : goal.offset_bounds-h-k
offset_bounds-h-k c = omega (arith, known (goal.at.offset_bounds-h-k c).After-seat_of-s)

pub bounds-h-k : goal.bounds-h-k
bounds-h-k c = omega (arith, known (goal.at.bounds-h-k c).After-seat_of-s)

pub offset_bounds-h-r : goal.offset_bounds-h-r
offset_bounds-h-r c = omega (arith, known (goal.at.offset_bounds-h-r c).After-seat_of-s)

pub bounds-h-r : goal.bounds-h-r
bounds-h-r c = omega (arith, known (goal.at.bounds-h-r c).After-seat_of-s)

pub offset_bounds-house-k : goal.offset_bounds-house-k
offset_bounds-house-k c = omega (arith, known (goal.at.offset_bounds-house-k c).After-seat_of-s)

pub bounds-house-k : goal.bounds-house-k
bounds-house-k c = omega (arith, known (goal.at.bounds-house-k c).After-seat_of-s)

pub offset_bounds-house-r : goal.offset_bounds-house-r
offset_bounds-house-r c = omega (arith, known (goal.at.offset_bounds-house-r c).After-seat_of-s)

pub bounds-house-r : goal.bounds-house-r
bounds-house-r c = omega (arith, known (goal.at.bounds-house-r c).After-seat_of-s)

pub returns : goal.returns
unfolding view_of with_view house_turn
returns c =
    let a = c.args in
    let accepted = (goal.at.returns c).After-seat_of-s in
    let left : c.turn_view-left.result ≡ turned a.h a.c (a.p % 16) a.hint =
    turned_is a.h a.c (a.p % 16) a.hint (known accepted) c.seat_of-s.ensures c.turn_view-left.ensures in
    house_left a.h a.c (turns a.p a.hint) (none accepted) refl (turned_house a.h a.c a.p a.hint (same accepted) left)
    (turned_counts a.h a.c a.p a.hint (same accepted) left)
