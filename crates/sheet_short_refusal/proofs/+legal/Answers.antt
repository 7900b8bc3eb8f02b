-- The list is legal if the rest is, behind an entry that is accepted.
use Rattle.base.specs.Prelude.{arith, ◌∙◌}
use Rattle.sheet_short_refusal.specs.Legal.{search_goes_on}
use Rattle.sheet_short_refusal.proofs.+legal.Goals as goal

pub returns-in-Some : goal.returns-in-Some
returns-in-Some t c =
    let s = c.args.search.now in
    c.legal.ensures
    ∙ search_goes_on s c.args.buffer.now (omega arith) c.raw_at-x.result c.raw_at-x.ensures _ c.number_of.ensures.0 (omega arith)
    c.in-Some.rest c.in-Some.ensures
