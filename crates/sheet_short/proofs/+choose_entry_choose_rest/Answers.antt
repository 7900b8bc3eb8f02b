-- Each way out is a law of the lists chosen among (`Cycle`).
use Rattle.std.specs.Prelude.{◌+◌, ◌-◌}
use Rattle.base.specs.Prelude.{refl, arith}
use Rattle.model_short.specs.Calls.{raws_at}
use Rattle.sheet_short.specs.Cycle.{entry_end, entry_refused, entry_found, entry_passed, rest_behind, rest_end, rest_loose, rest_tight}
use Rattle.sheet_short.proofs.+choose_entry_choose_rest.Goals as goal

-- ---- the choice of an entry

-- No entry is left.
pub choose_entry-returns-then-search-e : goal.choose_entry-returns-then-search-e
choose_entry-returns-then-search-e t c =
    let a = c.args in
    let s = a.search.now in
    entry_end s.n (s.left - 1) a.e a.tight (raws_at a.buffer.now (s.at + 6) (s.left - 1)) s.session s.counts a.buffer.now s.at
    c.if-search-e.true

-- The entry is refused.
pub choose_entry-returns-in-None : goal.choose_entry-returns-in-None
choose_entry-returns-in-None t c =
    let a = c.args in
    let s = a.search.now in
    entry_refused s.n (s.left - 1) a.e a.tight (raws_at a.buffer.now (s.at + 6) (s.left - 1)) s.session s.counts a.buffer.now s.at
    (omega arith) _ c.choice-x.ensures _ refl (c.in-None.ensures c.requires) _ _ _ c.choose_entry.ensures

-- There is a rest.
pub choose_entry-returns-then-choose_rest : goal.choose_entry-returns-then-choose_rest
choose_entry-returns-then-choose_rest t c =
    let a = c.args in
    let s = a.search.now in
    entry_found s.n (s.left - 1) a.e a.tight (raws_at a.buffer.now (s.at + 6) (s.left - 1)) s.session s.counts a.buffer.now s.at
    (omega arith) _ c.choice-x.ensures _ c.in-Some.ensures.accepted refl _ _
    (rest_behind s c.in-Some.rest c.choice-x.result c.in-Some.ensures a.tight c.choose_rest.ensures)
    c.if-choose_rest.true _ c.put_raw.ensures

-- There is none.
pub choose_entry-returns-else-choose_rest : goal.choose_entry-returns-else-choose_rest
choose_entry-returns-else-choose_rest t c =
    let a = c.args in
    let s = a.search.now in
    entry_passed s.n (s.left - 1) a.e a.tight (raws_at a.buffer.now (s.at + 6) (s.left - 1)) s.session s.counts a.buffer.now s.at
    (omega arith) _ c.choice-x.ensures _ c.in-Some.ensures.accepted refl _ _
    (rest_behind s c.in-Some.rest c.choice-x.result c.in-Some.ensures a.tight c.choose_rest.ensures)
    c.if-choose_rest.false _ _ _ c.choose_entry-else-choose_rest.ensures

-- ---- the choice of the rest

-- Nothing is left.
pub choose_rest-returns-then-search-eq0 : goal.choose_rest-returns-then-search-eq0
choose_rest-returns-then-search-eq0 t c =
    let a = c.args in
    let s = a.search.now in
    rest_end s.n s.left s.session s.counts a.buffer.now s.at a.tight c.if-search-eq0.true

-- After the given list.
pub choose_rest-returns-then-tight : goal.choose_rest-returns-then-tight
choose_rest-returns-then-tight t c =
    let a = c.args in
    let s = a.search.now in
    rw c.if-tight.true
    (rest_tight s.n s.left s.session s.counts a.buffer.now s.at (omega arith) _ _ _ c.raw_at.ensures _ c.number_of-e.ensures.0
    c.choose_entry.ensures)

-- Of all lists.
pub choose_rest-returns : goal.choose_rest-returns
choose_rest-returns t c =
    let a = c.args in
    let s = a.search.now in
    rw c.if-tight.false
    (rest_loose s.n s.left s.session s.counts a.buffer.now s.at (omega arith) _ _ _ _ c.choose_entry-2.ensures)
