-- The loops of `list`. The outer one: the first `count` values are those of the first r rounds, and the places behind them are blank. The
-- inner one: none of the first e rounds, where e is its index, holds the value of round r.
use Rattle.std.specs.Prelude.{◌≤◌, ◌≡◌}
use Rattle.base.specs.Prelude.{false, length, take, drop, replicate}
use Rattle.model.specs.ReadOut.{holds, values_to}
use Rattle.session_values_list.proofs.list.Given as goal

abbrev pub invariant-rounds : goal.invariant-rounds
invariant-rounds l = record {
  few : l.count ≤ l.r;
  places : length l.values ≡ 256;
  listed : take l.count l.values ≡ values_to l.fn.registers l.r;
  blank : drop l.count l.values ≡ drop l.count (replicate 256 0);
}

abbrev pub invariant-loop-earlier : goal.invariant-loop-earlier
invariant-loop-earlier l = holds l.value (take l.earlier-index l.earlier-items) ≡ false
