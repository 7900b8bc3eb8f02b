-- The one pass over the values and the marks: its test of two places at once is the two tests of the contract.
use Rattle.std.specs.Prelude.{◌≡◌, ◌-◌, ◌&&◌}
use Rattle.std.proofs.Common.{rules, tests, length-drop}
use Rattle.std.specs.Slice.Iter.{iter_rest}
use Rattle.std.proofs.lemmas.Iterator.{YieldsList-from_slice, YieldsList-from_zip}
use Rattle.std.proofs.lemmas.Iterator.Search.{all_from_yields_List}
use Rattle.base.specs.Prelude.{◌∙◌, sym, ap, take_all, ℕ, Bool, List, arith, not, eqb, drop, length}
use Rattle.model_laws.specs.Alls.{every_zip}
use Rattle.session_sound.proofs.blank_from.Goals as goal

pub returns : goal.returns
returns c =
    let values : List ℕ = drop c.args.from c.args.values.now in
    let marks : List Bool = drop c.args.from c.args.marks.now in
    let long : length values ≡ 256 - c.args.from = simp length-drop (omega arith) in
    let long' : length marks ≡ 256 - c.args.from = simp length-drop (omega arith) in
    all_from_yields_List (λ (p : ℕ × Bool). eqb p.0 0 && not p.1) c.all.new.self _ c.all.result c.all.ensures.ran
    (YieldsList-from_zip
    (YieldsList-from_slice values (ap (λ s. iter_rest s) c.zip.ensures.first ∙ c.iter.ensures.rest ∙ take_all (256 - c.args.from) values (omega arith)))
    (YieldsList-from_slice marks (ap (λ s. iter_rest s) c.zip.ensures.second ∙ c.iter-2.ensures.rest ∙ take_all (256 - c.args.from) marks (omega arith))))
    (λ x b q k. search (rules, tests))
    ∙ every_zip (λ x. eqb x 0) not values marks (long ∙ sym long')
