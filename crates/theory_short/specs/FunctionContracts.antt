-- The contracts of the two functions, read off them: what the theorem of short lists takes for the two calls (`first_result`, `next_result`)
-- is what they ensure, and they require nothing.
use Rattle.std.specs.Prelude.{◌≡◌}
use Rattle.base.specs.Prelude.{refl, ℕ, List}
use seplogic.Ra.Ura.{Ura}
use base.Logic.{SProp}
use base.Fml.{Lft}
use prog.Memory.{Memory}
use prog.Routine.{Routine}
use types.Logic.{Logic}
use contract.Monad.{Fun}
use Rattle.std.specs.Borrow.{MutBor}
use Rattle.model.specs.Answers.{code}
use Rattle.model_short.specs.Calls.{listed, first_result, next_result}
use Rattle.sheet_short.specs.contracts.first as first
use Rattle.sheet_short.specs.contracts.next as next
use Rattle.theory_functions.specs.FunctionContracts.{ensures}

-- The buffer is lent: e has it as it stands at exit.
module _ {M : Type 1} {𝓤 : Ura M} (𝓛 : Logic 𝓤) (mem : Memory → SProp 𝓤) (run : Routine → Fun 𝓤) where
  module _ (κ : Lft) (n m : ℕ) (buffer : MutBor (List ℕ)) where
    pub short_first_contract :
        first.clauses 𝓛 mem run (κ, tt) (n, (m, (buffer, tt)))
        ≡ ensures 𝓤 (λ r e. listed (code r) e.1.1.0.now ≡ first_result n m buffer.now)
    short_first_contract = refl

    pub short_next_contract :
        next.clauses 𝓛 mem run (κ, tt) (n, (m, (buffer, tt)))
        ≡ ensures 𝓤 (λ r e. listed (code r) e.1.1.0.now ≡ next_result n m buffer.now)
    short_next_contract = refl
