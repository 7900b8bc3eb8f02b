-- Behind an entry that is accepted the search goes on.
use Rattle.base.specs.Prelude.{arith}
use Rattle.model_short_laws.specs.Machine.{ready_after}
use Rattle.sheet_short_refusal.proofs.search.Search.after.Goals as goal

pub invariant_of-result : goal.invariant_of-result
invariant_of-result c =
    record { ready = ready_after _ _ _ _ _ _ _ c.args.x c.args.self.now.ready (omega arith) c.in-Ok.ensures }
