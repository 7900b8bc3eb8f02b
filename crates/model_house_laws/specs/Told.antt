-- What a `Result` says of an opening of a house, by the number of the first refusal. Assumes nothing.
use Rattle.std.specs.Prelude.{◌≡◌, Ok, Err, []}
use Rattle.base.specs.Prelude.{ℕ, refl}
use Rattle.model.specs.declared.refusal.Refusal.{Refusal}
use Rattle.model.specs.Numbers.{number}
use Rattle.model_laws.specs.Answers.{number_some, refused_alike}
use Rattle.model_house.specs.Answers.{HouseChanged}
use Rattle.model_house.specs.declared.House.{House}
use Rattle.model_house.specs.House.{opened_house, house_changed, told_house_opened}

-- Refused, no house is made; accepted, it is the one after.
pub house_opened_err : (e : Refusal) {k : ℕ} (t : House) → number e ≡ k → told_house_opened (Err e) ≡ house_changed k (opened_house 0 []) t
house_opened_err e t ek =
    let h = opened_house 0 [] in
    refused_alike {A = HouseChanged} (λ k. record { code = k; house = h }) (λ k. house_changed k h t) (λ m. refl) ek (number_some e)

pub house_opened_ok : {k : ℕ} (t : House) → 0 ≡ k → told_house_opened (Ok t) ≡ house_changed k (opened_house 0 []) t
house_opened_ok t ek = rw (← ek)
