-- Document 01, "Numbers returned", Order: "Sheet 10, 1, 2, 11 over all pairs, 12 over all runs", part by part.
use Rattle.std.specs.Prelude.{◌≡◌}
use Rattle.base.specs.Prelude.{ℕ, arith, ap, cond, not, List, eqb}
use Rattle.model.specs.declared.Limits.{Limits}
use Rattle.model.specs.Refusal.{refusal, open_tests}
use Rattle.model_laws.specs.Accepted.{refusal_append}
use Rattle.model.specs.Sheet.{process_count, round_limit, has_header, sheet_refusal}
use Rattle.sheet_refusal.specs.RunTests.{run_tests}

-- The refusal of opening what the header asks for: 1, 2 or none.
abbrev pub opening_of : Limits → List ℕ → ℕ
opening_of most s = refusal (open_tests most (process_count s) (round_limit s))

-- The refusal of a sheet by its parts.
pub by_parts : (most : Limits) (s : List ℕ)
    → sheet_refusal most s
    ≡ cond (not (has_header s)) 10 (cond (eqb (opening_of most s) 0) (refusal (run_tests s)) (opening_of most s))
unfolding sheet_refusal
by_parts most s =
    ap (cond (not (has_header s)) 10) (refusal_append (open_tests most (process_count s) (round_limit s)) (run_tests s) (omega arith))
