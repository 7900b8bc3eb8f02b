use Rattle.use_text.specs.Page.{one_more}
use Rattle.use_text.proofs.Page.put_words.Goals as goal

pub loop-b-preserved : goal.loop-b-preserved
loop-b-preserved c = one_more c.args.words.now c.loop-b.b-index c.loop-b-test.true c.loop-b.invariant c.put_byte.ensures
