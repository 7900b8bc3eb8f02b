-- The tests that led to an answer say which it is. Past the first test the session is sound: the list goes over all L rounds, its length is
-- the count, and it stands in the first places.
use Rattle.std.specs.Prelude.{◌≡◌}
use Rattle.std.proofs.Common.{take_at}
use Rattle.base.specs.Prelude.{false, min, sym, ◌∙◌, ap, arith, take}
use Rattle.model.specs.ReadOut.{standing_values}
use Rattle.model_laws.specs.Sounds.{sound_low}
use Rattle.session_values.proofs.Standing.{unsound, short, list_written}
use Rattle.session_values.proofs.standing_values.Goals as goal

pub returns-then-not-sound : goal.returns-then-not-sound
returns-then-not-sound c =
    let m = unsound c.args.s c.args.buffer.now (sym c.sound.ensures ∙ c.if-not-sound.true) in record { answers = m.0; writes = m.1 }

pub returns-then-buffer-count : goal.returns-then-buffer-count
returns-then-buffer-count c =
    let sure = sym c.sound.ensures ∙ c.if-not-sound.false in
    let rounds : min c.args.s.limit 256 ≡ c.args.s.limit = omega (arith, sound_low false _ sure) in
    let size = sym (rw rounds at c.list-listed.ensures.counts) in
    let m = short c.args.s c.args.buffer.now c.list-listed.result.count sure size c.if-buffer-count.true in
    record { answers = m.0; writes = m.1 }

pub returns : goal.returns
returns c =
    let sure = sym c.sound.ensures ∙ c.if-not-sound.false in
    let rounds : min c.args.s.limit 256 ≡ c.args.s.limit = omega (arith, sound_low false _ sure) in
    let list = c.list-listed.result in
    let size = sym (rw rounds at c.list-listed.ensures.counts) in
    let first : take list.count list.values ≡ standing_values c.args.s =
    ap (take list.count) (rw rounds at c.list-listed.ensures.lists) ∙ take_at (standing_values c.args.s) _ list.count size in
    let put = (rw (first, size) at c.copy.ensures) in
    let m = list_written c.args.s c.args.buffer.now list.count sure size c.if-buffer-count.false _ put in
    record { answers = m.0; writes = m.1 }
