-- For each part of the rule of houses: what a house and its past may show, by computation, and that the rule is then false of them (as
-- `model_rule_cases` has it of sessions). Theorem edits use it (tests/theorem_edits.py): their lists of calls show such things of changed
-- machines.
use Rattle.std.specs.Prelude.{◌≡◌}
use Rattle.base.specs.Prelude.{ℕ, sym, ◌∙◌, true, false, true≢false, List, [], eqb}
use Rattle.model_rule.specs.Event.{Event, proposal, decision, there}
use Rattle.model_rule.specs.System.{inputs, past}
use Rattle.model_rule_cases.specs.Play.{played, played_holds, at_the_end}
use Rattle.model_rule_cases.specs.Events.{occurs, occurs_happened, past_occurs}
use Rattle.model_rule_cases.specs.Refuted.{unlike, older}
use Rattle.model_house.specs.declared.Stance.TheVariants.{Decided}
use Rattle.model_house.specs.declared.House.{House}
use Rattle.model_house.specs.House.{worker_at, house_opening}
use Rattle.model_house.specs.Machine.{HouseOperation}
use Rattle.model_house.specs.Rule.{houses, HouseRule, HouseClaim}

-- What the rule says of a list of operations from an accepted opening: of the house and the past after it.
pub played_house_rule : (c : ℕ) (wards : List ℕ) (os : List HouseOperation) →
    let start = house_opening c wards in
    let end = played houses start.house [] os in
    start.code ≡ 0 → HouseClaim → HouseRule end.0 end.1
played_house_rule c wards os ok claim =
    let start = (house_opening c wards).house in
    played_holds houses HouseRule os
    (λ cs h run.
    let all = claim c wards ok cs h run in
    (at_the_end houses (λ g ds. HouseRule g (past houses start (inputs ds))) run all.2, all.1))

-- What is shown, and why no rule allows it.
pub record HouseRefutation : Type 1 where
  pub Shown : House → List Event → Type 0
  pub refuted : {h : House} {x : List Event} → Shown h x → HouseRule h x → ⊥

-- `holds`: worker p decided v, and its record holds another number.
abbrev pub no_longer_held : (p v : ℕ) → HouseRefutation
no_longer_held p v =
    record {
      Shown = λ h x. (occurs (decision p v) x ≡ true) × (eqb (worker_at h p).value v ≡ false);
      refuted = λ {h} {x} shown rule. unlike shown.1 (rule.holds p v (occurs_happened (decision p v) x shown.0)).1;
    }

-- `looked`: the record of worker p says that it is decided and holds v, and it did not decide v.
abbrev pub never_looked : (p v : ℕ) → HouseRefutation
never_looked p v =
    record {
      Shown = λ h x. ((worker_at h p).stance ≡ Decided) × ((worker_at h p).value ≡ v) × (occurs (decision p v) x ≡ false);
      refuted = λ {h} {x} shown rule. true≢false (sym (past_occurs (decision p v) (rule.looked p v (shown.0, shown.1)).past)
          ∙ shown.2);
    }

-- `agreement`: worker p decided u, and worker q decided v, another number.
abbrev pub two_numbers : (p u q v : ℕ) → HouseRefutation
two_numbers p u q v =
    record {
      Shown = λ h x. (occurs (decision p u) x ≡ true) × (occurs (decision q v) x ≡ true) × (eqb u v ≡ false);
      refuted =
          λ {h} {x} shown rule.
          unlike shown.2
          (rule.agreement p q u v (occurs_happened (decision p u) x shown.0) (occurs_happened (decision q v) x shown.1));
    }

-- `validity`: worker p decided v, which was never proposed to the house.
abbrev pub not_proposed : (p v : ℕ) → HouseRefutation
not_proposed p v =
    record {
      Shown = λ h x. (occurs (decision p v) x ≡ true) × (occurs (proposal v) x ≡ false);
      refuted =
          λ {h} {x} shown rule.
          let d = occurs_happened (decision p v) x shown.0 in
          let f = rule.validity p v d.before d.past in
          true≢false (sym (past_occurs (proposal v) (older (there f.past) d.past)) ∙ shown.1);
    }
