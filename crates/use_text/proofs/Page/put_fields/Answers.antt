use Rattle.std.proofs.lemmas.List.{take_more}
use Rattle.use_text.specs.Page.{after}
use Rattle.use_text.specs.Numbers.{last_field}
use Rattle.use_text.proofs.Page.put_fields.Goals as goal

pub loop-v-preserved : goal.loop-v-preserved
loop-v-preserved c =
    rw (take_more c.args.fields.now c.loop-v.v-index 0 c.loop-v-test.true, last_field)
    (after c.loop-v.invariant (after c.put_byte.ensures c.put_number.ensures))
