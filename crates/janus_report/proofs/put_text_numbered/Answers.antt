-- The lines are put on a blank page, and fit.
use Rattle.model_report.specs.Report.{report_of}
use Rattle.use_text.specs.Page.{blank_page, Put}
use Rattle.use_report_laws.specs.Whole.{whole_text}
use Rattle.use_report_lines.specs.Numbered.{told_numbered}
use Rattle.janus_report.proofs.put_text_numbered.Goals as goal

pub returns-clause-len_value : goal.returns-clause-len_value
returns-clause-len_value c =
    let text = report_of (told_numbered c.args.ran.now) in
    let put : Put blank_page text c.put_numbered.new.page = rw (← c.requires) c.put_numbered.ensures.lines in
    (whole_text text c.put_numbered.ensures.fits put).0

pub returns-clause-bytes_value : goal.returns-clause-bytes_value
returns-clause-bytes_value c =
    let text = report_of (told_numbered c.args.ran.now) in
    let put : Put blank_page text c.put_numbered.new.page = rw (← c.requires) c.put_numbered.ensures.lines in
    (whole_text text c.put_numbered.ensures.fits put).1
