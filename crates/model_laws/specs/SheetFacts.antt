-- What is known where the reader accepts a sheet, within whatever limits.
use Rattle.std.specs.Prelude.{◌≤◌, ◌≡◌}
use Rattle.base.specs.Prelude.{ℕ, arith, true, List, length, leb-true, not-false}
use Rattle.base.specs.Bools.{and_left, and_right}
use Rattle.model_laws.specs.Types.{Limits}
use Rattle.model.specs.Refusal.{open_tests}
use Rattle.model.specs.Sheet.{process_count, run_count, round_limit, runs, header_end, is_in_order, whole_entries, sheet_tests, sheet_refusal}
use Rattle.model.specs.Sound.{every}
use Rattle.model_laws.specs.Accepted.{NoneHolds, none_holds}

-- It has the four bytes of its header and those of its pairs, 16 pairs and 65,535 bytes at most; a session opens; its runs are in order,
-- and of whole entries.
pub record SheetFacts (most : Limits) (s : List ℕ) : Type 0 where
  pub some : 4 ≤ length s
  pub few : length s ≤ 65535
  pub count : run_count s ≤ 16
  pub header : header_end s ≤ length s
  pub opens : NoneHolds (open_tests most (process_count s) (round_limit s))
  pub ordered : is_in_order (header_end s) (length s) (runs s) ≡ true
  pub whole : every whole_entries (runs s) ≡ true

pub sheet_facts : (most : Limits) (s : List ℕ) → sheet_refusal most s ≡ 0 → SheetFacts most s
unfolding sheet_refusal
sheet_facts most s ok =
    let a = none_holds (sheet_tests most s) (omega arith) ok in
    search (and_left, and_right, leb-true, not-false)
