use Rattle.use_text.specs.Page.{after}
use Rattle.use_report_lines.proofs.put_more.Goals as goal

-- The three kinds of lines.
pub returns : goal.returns
returns c = after (after c.put_tally.ensures c.put_board.ensures) c.put_seats.ensures
