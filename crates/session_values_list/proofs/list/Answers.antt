-- A round whose value stands in an earlier one adds nothing; a new value goes to the list's end, and the places behind stay blank.
use Rattle.std.specs.Prelude.{◌+◌, ◌<◌, ◌≡◌}
use Rattle.std.proofs.lemmas.List.{get_or-take, take-take}
use Rattle.base.specs.Prelude.{sym, ◌∙◌, ap, arith, false, get_or, length-take, length-set, take, drop, drop-drop, drop-set-lt}
use Rattle.model.specs.ReadOut.{holds}
use Rattle.model_laws.specs.ListedRounds.{round_earlier, round_new}
use Rattle.session_values_list.proofs.list.Goals as goal

pub rounds-preserved-then-earlier-value : goal.rounds-preserved-then-earlier-value
rounds-preserved-then-earlier-value c =
    let T = c.args.registers in
    let r = c.rounds.r in
    let e = c.loop-earlier.earlier-index in
    let h = c.rounds.invariant in
    let below : r < c.min-last.result = omega (arith, length-take c.min-last.result T) in
    let before : e < r = omega (arith, length-take r T) in
    let here = get_or-take c.min-last.result T r 0 below in
    let there = get_or-take r T e 0 before in
    let same : get_or T e 0 ≡ get_or T r 0 = sym there ∙ c.if-earlier-value.true ∙ here in
    record {
      few = omega arith;
      places = h.places;
      listed = round_earlier T _ r e before (omega (arith, length-take r T)) same h.listed;
      blank = h.blank;
    }

pub rounds-preserved : goal.rounds-preserved
rounds-preserved c =
    let T = c.args.registers in
    let r = c.rounds.r in
    let n = c.rounds.count in
    let h = c.rounds.invariant in
    let below : r < c.min-last.result = omega (arith, length-take c.min-last.result T) in
    let here = get_or-take c.min-last.result T r 0 below in
    let all : c.loop-earlier.earlier-index ≡ r = omega (arith, length-take r T, length-take c.min-last.result T) in
    let none : holds (get_or T r 0) (take r T) ≡ false =
    rw (← here, ← take-take r r T (omega arith)) (rw all at c.loop-earlier.invariant) in
    record {
      few = omega arith;
      places = simp length-set h.places;
      listed = rw here (round_new T c.rounds.values r n (omega arith) (λ z. c.if-value-eq0.false (here ∙ z)) none h.listed);
      blank = drop-set-lt (n + 1) c.rounds.values n _ (omega arith) ∙ sym (drop-drop 1 n c.rounds.values) ∙ ap (drop 1) h.blank
          ∙ drop-drop 1 n _;
    }
