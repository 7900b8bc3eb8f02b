use Rattle.std.proofs.Common.{rules, refl, Bool, ℕ, ◌+◌, ◌∙◌, leb, tests, arith}
use Rattle.std.proofs.lemmas.Iterator.{YieldsList-from_range}
use Rattle.std.proofs.lemmas.Iterator.Search.{all_from_yields_List}
use Rattle.model_house.specs.House.{members}
use Rattle.model_house_laws.specs.Listed.{range_below}
use Rattle.system_house_wards.proofs.filled.Goals as goal

pub returns : goal.returns
returns c =
    let a = c.args in
    let some : ℕ → Bool = λ i. leb 1 (members (i + 1) a.wards.now) in
    all_from_yields_List some _ _ _ c.all.ensures.ran (YieldsList-from_range 0 a.c a.c refl (omega arith)) (λ x b q k. search (rules, tests))
    ∙ range_below some a.c
