-- Where the tests accept, there is a first list.
use Rattle.base.specs.Prelude.{false, sym}
use Rattle.sheet_short.specs.Cycle.{rest_begun}
use Rattle.sheet_short.specs.Ends.{first_done}
use Rattle.sheet_short.proofs.first.Goals as goal

pub returns : goal.returns
returns c =
    let a = c.args in
    let start = c.in_ok-search.ensures in
    first_done a.n a.length a.buffer.now (sym start.tests) _ _ _
    (rest_begun a.n a.length c.in_ok-search.search start.begins false c.choose_rest.ensures)
