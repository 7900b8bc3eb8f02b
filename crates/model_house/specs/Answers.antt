-- What a call on a house answers (document 02, wish 11), as the definitions have it, and what the code's answers say in these words
-- (`model/specs/Answers`).
use Rattle.std.specs.Prelude.{ℕ, Result, Ok, Err}
use Rattle.model.specs.declared.refusal.Refusal.{Refusal}
use Rattle.model.specs.declared.Counts.{Counts}
use Rattle.model.specs.declared.After.{After}
use Rattle.model.specs.Numbers.{number}
use Rattle.model_house.specs.declared.House.{House}

-- ---- the answers: 0 and the house after, or the refusal's number and the house as it was; and the same with the counts

pub record HouseChanged : Type 0 where
  pub code : ℕ
  pub house : House

pub record HouseStepped : Type 0 where
  pub code : ℕ
  pub house : House
  pub counts : Counts

-- ---- what the code's answers say

-- Of a call on house h, which a refused call leaves as it is.
abbrev pub told_house : (h : House) → Result House Refusal → HouseChanged
told_house h (Ok t) = record { code = 0; house = t }
told_house h (Err e) = record { code = number e; house = h }

-- The same, with counts c.
abbrev pub told_house_counted : (h : House) (c : Counts) → Result (After House) Refusal → HouseStepped
told_house_counted h c (Ok a) = record { code = 0; house = a.state; counts = a.counts }
told_house_counted h c (Err e) = record { code = number e; house = h; counts = c }
