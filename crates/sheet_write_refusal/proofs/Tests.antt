-- The tests of a call behind those of the opening and of the entry buffer.
use Rattle.std.specs.Prelude.{◌+◌, ◌*◌, ◌/◌, ◌%◌, ◌≡◌, ◌&&◌}
use Rattle.base.specs.Prelude.{ℕ, arith, cond, not, List, length, leb, ltb, eqb, eq-eqb}
use Rattle.model.specs.declared.Limits.{Limits}
use Rattle.model.specs.Refusal.{refusal, open_tests}
use Rattle.model_laws.specs.Accepted.{refusal_append}
use Rattle.model_write.specs.Write.{total, well_formed, buffer_entries, write_refusal}
use Rattle.model_write_laws.specs.Sizes.{length_sheet_of}

pub own_tests : (most : Limits) (n L : ℕ) (es ms : List ℕ) (room : ℕ)
    → 0 ≡ refusal (open_tests most n L) → length es % 6 ≡ 0
    → write_refusal most n L es ms room
    ≡ cond (not (leb (length ms) 16 && leb (4 + 4 * length ms + length es) 65535 && eqb (total ms) (length es / 6))) 17
    (cond (not (well_formed (buffer_entries es))) 13 (cond (ltb room (4 + 4 * length ms + length es)) 15 0))
unfolding write_refusal
own_tests most n L es ms room opens whole =
    rw (refusal_append (open_tests most n L) _ (omega arith), ← opens, eq-eqb (_ % 6) 0 whole, length_sheet_of)
