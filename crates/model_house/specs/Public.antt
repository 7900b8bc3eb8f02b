-- The public operations on any house at all, damaged ones included: the machine with one test more, 3. (Opening takes no house:
-- `House.house_opening`.)
use Rattle.std.specs.Prelude.{ℕ, Bool, not, ◌∷◌}
use Rattle.model.specs.declared.Counts.{Counts}
use Rattle.model.specs.Numbers.{unsound}
use Rattle.model.specs.Board.{no_counts}
use Rattle.model_house.specs.declared.House.{House}
use Rattle.model_house.specs.Answers.{HouseChanged, HouseStepped}
use Rattle.model_house.specs.Machine.{HouseOperation, proposes, turns, learns, crashes, house_tests, house_answered}
use Rattle.model_house.specs.Sound.{sound_house}

-- "3 is tested first in each call on a house."
unfoldable pub house_operate : House → Counts → HouseOperation → HouseStepped
house_operate h c o = house_answered ((not (sound_house h), unsound) ∷ house_tests h c o) h c o

-- An answer with the counts that the caller lent, as they stand at the end; and without them: proposals and crashes count nothing, and are
-- lent none.
abbrev pub with_house_counts : HouseChanged → Counts → HouseStepped
with_house_counts a c = record { code = a.code; house = a.house; counts = c }

abbrev pub without_house_counts : HouseStepped → HouseChanged
without_house_counts a = record { code = a.code; house = a.house }

-- Proposal 3, 4, 5, 6.
unfoldable pub house_propose : House → (p v : ℕ) → HouseChanged
house_propose h p v = without_house_counts (house_operate h no_counts (proposes p v))

-- Turn 3, 4, 7, 8, 9, 16.
unfoldable pub house_turn : House → (p : ℕ) → (hint : Bool) → Counts → HouseStepped
house_turn h p hint c = house_operate h c (turns p hint)

-- House look 3, 4, 7, 8, 16.
unfoldable pub house_learn : House → (p : ℕ) → Counts → HouseStepped
house_learn h p c = house_operate h c (learns p)

-- Crash 3, 4, 7, 8.
unfoldable pub house_crash : House → (p : ℕ) → HouseChanged
house_crash h p = without_house_counts (house_operate h no_counts (crashes p))
