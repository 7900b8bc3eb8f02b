use Rattle.model_report.specs.Report.{newline, closed_word}
use Rattle.use_text.specs.Page.{after_parts}
use Rattle.use_report_lines.proofs.put_board.Goals as goal

-- The numbers, then the closed mark.
pub returns : goal.returns
returns c =
    rw (← c.highest-top.ensures)
    (after_parts (closed_word c.args.s.now.closed) newline c.put_fields.ensures c.put_closed.ensures)
