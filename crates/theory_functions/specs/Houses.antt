-- The same of houses: what the rule of houses takes for granted of an accepted opening and of its calls (`house_promised`) is what the
-- functions' contracts ensure, and they require nothing.
use Rattle.std.specs.Prelude.{◌≡◌}
use Rattle.base.specs.Prelude.{refl, ap, ℕ, Bool, List}
use seplogic.Ra.Ura.{Ura}
use base.Logic.{SProp}
use base.Fml.{Lft}
use prog.Memory.{Memory}
use prog.Routine.{Routine}
use types.Logic.{Logic}
use contract.Monad.{Fun}
use Rattle.std.specs.Borrow.{Bor, MutBor}
use Rattle.model.specs.declared.Counts.{Counts}
use Rattle.model_house.specs.declared.House.{House}
use Rattle.model_house.specs.Answers.{HouseChanged, told_house, told_house_counted}
use Rattle.model_house.specs.House.{told_house_opened, house_opening}
use Rattle.model_house.specs.Machine.{proposes, turns, learns, crashes}
use Rattle.model_house.specs.Public.{with_house_counts, house_propose, house_crash}
use Rattle.model_house.specs.Rule.{house_promised}
use Rattle.system_house_open.specs.contracts.open as opens
use Rattle.system_house_change.specs.contracts.propose as propose
use Rattle.system_house_change.specs.contracts.crash as crash
use Rattle.system_house_lent.specs.contracts.turn as turn
use Rattle.system_house_lent.specs.contracts.learn as learn
use Rattle.system_house_turn.specs.contracts.turn as turn-by-value
use Rattle.system_house_change.specs.contracts.learn as learn-by-value
use Rattle.theory_functions.specs.FunctionContracts.{ensures}

module _ {M : Type 1} {𝓤 : Ura M} (𝓛 : Logic 𝓤) (mem : Memory → SProp 𝓤) (run : Routine → Fun 𝓤) where
  pub house_open_contract : (κ : Lft) (c : ℕ) (wards : Bor (List ℕ)) →
      opens.clauses 𝓛 mem run (κ, tt) (c, (wards, tt)) ≡ ensures 𝓤 (λ r e. told_house_opened r ≡ house_opening c wards.now)
  house_open_contract κ c wards = refl

  module _ (h : House) (p : ℕ) where
    -- A proposal and a crash are lent no counts.
    pub house_propose_contract : (v : ℕ) →
        propose.clauses 𝓛 mem run tt (h, (p, (v, tt))) ≡ ensures 𝓤 (λ r e. told_house h r ≡ house_propose h p v)
    house_propose_contract v = refl

    pub house_crash_contract : crash.clauses 𝓛 mem run tt (h, (p, tt)) ≡ ensures 𝓤 (λ r e. told_house h r ≡ house_crash h p)
    house_crash_contract = refl

    -- A turn and a house look are: e has the counts as they stand at exit.
    pub house_turn_contract : (κ : Lft) (hint : Bool) (counts : MutBor Counts) →
        turn.clauses 𝓛 mem run (κ, tt) (h, (p, (hint, (counts, tt))))
        ≡ ensures 𝓤 (λ r e. with_house_counts (told_house h r) e.1.1.1.0.now ≡ house_promised h counts.now (turns p hint))
    house_turn_contract κ hint counts = refl

    pub house_learn_contract : (κ : Lft) (counts : MutBor Counts) →
        learn.clauses 𝓛 mem run (κ, tt) (h, (p, (counts, tt)))
        ≡ ensures 𝓤 (λ r e. with_house_counts (told_house h r) e.1.1.0.now ≡ house_promised h counts.now (learns p))
    house_learn_contract κ counts = refl

    -- With the counts by value.
    pub house_turn_value_contract : (hint : Bool) (c : Counts) →
        turn-by-value.clauses 𝓛 mem run tt (h, (p, (hint, (c, tt))))
        ≡ ensures 𝓤 (λ r e. told_house_counted h c r ≡ house_promised h c (turns p hint))
    house_turn_value_contract hint c = refl

    pub house_learn_value_contract : (c : Counts) →
        learn-by-value.clauses 𝓛 mem run tt (h, (p, (c, tt)))
        ≡ ensures 𝓤 (λ r e. told_house_counted h c r ≡ house_promised h c (learns p))
    house_learn_value_contract c = refl

-- Where no counts are lent, they stand as they stood: what the contract says of the answer r, as told.
pub house_propose_promised : (h : House) (c : Counts) (p v : ℕ) (r : HouseChanged) → r ≡ house_propose h p v →
    with_house_counts r c ≡ house_promised h c (proposes p v)
house_propose_promised h c p v r e = ap (λ x. with_house_counts x c) e

pub house_crash_promised : (h : House) (c : Counts) (p : ℕ) (r : HouseChanged) → r ≡ house_crash h p →
    with_house_counts r c ≡ house_promised h c (crashes p)
house_crash_promised h c p r e = ap (λ x. with_house_counts x c) e
