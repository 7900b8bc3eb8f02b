-- The sheet's size, which is 65,535 at most, fits in, and what is stored before the entries leaves the output as long as it was.
use Rattle.std.specs.Prelude.{◌+◌, ◌*◌, ◌≤◌, ◌≡◌}
use Rattle.base.specs.Prelude.{ℕ, arith, sym, List, length, length-set}
use Rattle.std.proofs.Math.Seq.{length-sets}
use Rattle.model_laws.specs.Types.{Limits}
use Rattle.model.specs.Board.{limits_of}
use Rattle.model_write.specs.Write.{sheet_of, write_refusal}
use Rattle.model_write_laws.specs.Sizes.{length_sheet_of}
use Rattle.model_write_laws.specs.Facts.{write_facts}
use Rattle.model_write_laws.specs.Stored.{sheet_stored, written_accepted}
use Rattle.sheet_write.proofs.write.Goals as goal

fits : (most : Limits) (n L : ℕ) (es ms : List ℕ) (room : ℕ) → 0 ≡ write_refusal most n L es ms room → 4 + 4 * length ms + length es ≤ room
fits most n L es ms room told =
    let f = write_facts most n L es ms room (sym told) in omega (arith, f.fits, length_sheet_of n L es ms)

pub bounds-sheet-1 : goal.bounds-sheet-1
bounds-sheet-1 c =
    let a = c.args in
    let room : 4 + 4 * length a.lengths.now + length a.entries.now ≤ length a.sheet.now =
    fits (limits_of a.caller) a.n a.limit a.entries.now a.lengths.now _ c.in_ok-write_refusal.ensures in
    rw length-set (omega arith)

pub put_entries-requires : goal.put_entries-requires
put_entries-requires c =
    let a = c.args in
    let as_long : length c.put_pairs.new.sheet ≡ length a.sheet.now =
    rw (c.put_pairs.ensures, length-sets, c.put16.ensures, length-sets, length-set, length-set) in
    rw as_long (fits (limits_of a.caller) a.n a.limit a.entries.now a.lengths.now _ c.in_ok-write_refusal.ensures)

pub returns : goal.returns
returns c =
    let a = c.args in
    let es = a.entries.now in
    let ms = a.lengths.now in
    let room = fits (limits_of a.caller) a.n a.limit es ms _ c.in_ok-write_refusal.ensures in
    let long : length (sheet_of a.n a.limit es ms) ≤ length a.sheet.now = omega (arith, length_sheet_of a.n a.limit es ms) in
    written_accepted (limits_of a.caller) a.n a.limit es ms a.sheet.now (sym c.in_ok-write_refusal.ensures)
    (sym (length_sheet_of a.n a.limit es ms))
    (rw (c.put_entries.ensures, c.put_pairs.ensures, c.put16.ensures) (sheet_stored a.n a.limit es ms a.sheet.now long))
