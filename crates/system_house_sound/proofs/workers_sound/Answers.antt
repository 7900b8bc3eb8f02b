use Rattle.std.proofs.Common.{rules, tests, refl, ◌∙◌, arith}
use Rattle.std.proofs.lemmas.Iterator.{YieldsList-from_range}
use Rattle.std.proofs.lemmas.Iterator.Search.{all_from_yields_List}
use Rattle.model_house.specs.Sound.{sound_worker}
use Rattle.model_house_laws.specs.Listed.{range_below}
use Rattle.system_house_sound.proofs.workers_sound.Goals as goal

pub returns : goal.returns
returns c =
    let h = c.args.h.now in
    all_from_yields_List (sound_worker h) _ _ _ c.all.ensures.ran (YieldsList-from_range 0 h.n h.n refl (omega arith))
    (λ x b q k. search (rules, tests))
    ∙ range_below (sound_worker h) h.n
