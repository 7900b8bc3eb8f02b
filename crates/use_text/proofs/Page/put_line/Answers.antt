use Rattle.use_text.specs.Page.{after}
use Rattle.use_text.proofs.Page.put_line.Goals as goal

pub returns : goal.returns
returns c = after c.put_fields.ensures c.put_byte.ensures
