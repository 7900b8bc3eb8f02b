-- Where the tests accept, there is a next list or none. Each return rewrites the result and ends in `refl`, so that a contract that says
-- less is met too (tests/theorem-edits/short_contract_says_less.edit).
use Rattle.std.specs.Prelude.{◌≡◌}
use Rattle.base.specs.Prelude.{refl, sym, true}
use Rattle.model.specs.Refusal.{refusal}
use Rattle.model_short.specs.Calls.{first_tests, given_tests}
use Rattle.model_short_laws.specs.Numbers.{given_accepted}
use Rattle.sheet_short.specs.Cycle.{rest_begun}
use Rattle.sheet_short.specs.Ends.{next_none, next_found}
use Rattle.sheet_short.proofs.next.Goals as goal

pub returns-then-choose_rest : goal.returns-then-choose_rest
returns-then-choose_rest c =
    let a = c.args in
    let accepted : refusal (given_tests a.n a.length a.buffer.now) ≡ 0 = sym c.in_ok-given_refusal.ensures in
    let first_accepted : refusal (first_tests a.n a.length a.buffer.now) ≡ 0 = (given_accepted a.n a.length a.buffer.now accepted).0 in
    rw (← next_found a.n a.length a.buffer.now first_accepted accepted _
    (rest_begun a.n a.length c.in_ok-search.search c.in_ok-search.ensures.begins true c.if-choose_rest.ensures)) refl

pub returns-else-choose_rest : goal.returns-else-choose_rest
returns-else-choose_rest c =
    let a = c.args in
    let accepted : refusal (given_tests a.n a.length a.buffer.now) ≡ 0 = sym c.in_ok-given_refusal.ensures in
    let first_accepted : refusal (first_tests a.n a.length a.buffer.now) ≡ 0 = (given_accepted a.n a.length a.buffer.now accepted).0 in
    rw (← next_none a.n a.length a.buffer.now first_accepted accepted _
    (rest_begun a.n a.length c.in_ok-search.search c.in_ok-search.ensures.begins true c.if-choose_rest.ensures)) refl
