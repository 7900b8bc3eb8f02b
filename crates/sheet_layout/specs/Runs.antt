-- Document 01, "Turn sheets": the runs of a sheet, one by one.
use Rattle.std.specs.Prelude.{◌+◌, ◌-◌, ◌≤◌, ◌<◌, ◌≡◌}
use Rattle.base.specs.Prelude.{ℕ, suc, arith, List, []}
use Rattle.model.specs.Sheet.{run_at, runs_from}

-- What reading the numbers of run i gives: they are its offset and its length, of 16 bits each.
pub record IsRun (s : List ℕ) (i offset size : ℕ) : Type 0 where
  pub offset_is : offset ≡ (run_at s i).offset
  pub size_is : size ≡ (run_at s i).size
  pub offset_small : offset < 65536
  pub size_small : size < 65536

-- Of n runs none is left at n or past it; before that run i is the first, and the others follow it.
module _ (i n : ℕ) where
  pub left_none : n ≤ i → n - i ≡ 0
  left_none h = omega arith

  pub left_next : i < n → n - i ≡ suc (n - (i + 1))
  left_next h = omega arith

pub runs_none : (s : List ℕ) (i n : ℕ) → n ≤ i → runs_from s i (n - i) ≡ []
runs_none s i n h = rw (left_none i n h)
