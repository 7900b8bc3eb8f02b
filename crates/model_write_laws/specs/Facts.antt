-- What is known where the writer accepts a call.
use Rattle.std.specs.Prelude.{◌*◌, ◌/◌, ◌%◌, ◌≤◌, ◌≡◌}
use Rattle.base.specs.Prelude.{ℕ, arith, true, List, length}
use Rattle.base.specs.Prelude.{le-leb, leb-true, le-ltb, ltb-false, eqb-true, eq-eqb, not-false}
use Rattle.base.specs.Bools.{and_left, and_right, and_both}
use Rattle.model_laws.specs.Types.{Limits}
use Rattle.model.specs.Refusal.{open_tests}
use Rattle.model_laws.specs.Accepted.{NoneHolds, none_holds}
use Rattle.model_write.specs.Write.{sheet_of, total, whole_buffer, writable, well_formed, buffer_entries, write_tests, write_refusal}

-- A session opens, the lengths add up to the entries, runs and bytes are few enough, the entries are well-formed, and there is room.
pub record WriteFacts (most : Limits) (n L : ℕ) (es ms : List ℕ) (room : ℕ) : Type 0 where
  pub opens : NoneHolds (open_tests most n L)
  pub whole : 6 * total ms ≡ length es
  pub count : length ms ≤ 16
  pub few : length (sheet_of n L es ms) ≤ 65535
  pub formed : well_formed (buffer_entries es) ≡ true
  pub fits : length (sheet_of n L es ms) ≤ room

module _ (most : Limits) (n L : ℕ) (es ms : List ℕ) (room : ℕ) where
  -- Where a call is accepted this holds of it, and the other way round.
  pub write_facts : write_refusal most n L es ms room ≡ 0 → WriteFacts most n L es ms room
  unfolding write_refusal
  write_facts ok =
      let a = none_holds (write_tests most n L es ms room) (omega arith) ok in
      let six : length es % 6 ≡ 0 = search (not-false, eqb-true) in
      let sum : total ms ≡ length es / 6 = search (not-false, and_right, eqb-true) in
      let whole : 6 * total ms ≡ length es = omega arith in
      search (and_left, and_right, leb-true, not-false, ltb-false)

  pub facts_write : WriteFacts most n L es ms room → write_refusal most n L es ms room ≡ 0
  unfolding write_refusal
  facts_write a =
      let six : whole_buffer es ≡ true = eq-eqb (length es % 6) 0 (omega arith) in
      let sum : total ms ≡ length es / 6 = omega arith in
      let fair : writable n L es ms ≡ true = search (and_both, le-leb, eq-eqb) in
      rw (a.opens.0, a.opens.1.0, six, fair, a.formed, le-ltb room _ a.fits)
