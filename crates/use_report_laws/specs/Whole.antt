-- The whole report, put on a blank page.
use Rattle.std.specs.Prelude.{◌-◌, ◌≤◌, ◌≡◌, ◌++◌}
use Rattle.base.specs.Prelude.{ℕ, arith, ap, List, length, replicate}
use Rattle.model.specs.Answers.{Ran}
use Rattle.model.specs.Board.{max_processes}
use Rattle.model.specs.declared.Caller.TheVariants.{Server}
use Rattle.model.specs.Runner.{run}
use Rattle.model_report.specs.Report.{report_budget, report_of, report}
use Rattle.use_text.specs.declared.Page.{Page}
use Rattle.use_text.specs.Page.{page_size, blank_page, Put, on_blank}
use Rattle.use_report_laws.specs.Room.{report_low}

-- A text that fits stands on the page from its start, with zeros behind it.
pub whole_text : {x : Page} (t : List ℕ)
    → length t ≤ page_size
    → Put blank_page t x
    → ((x.len ≡ length t) × (x.len ≤ page_size)) × (x.bytes ≡ t ++ replicate (page_size - x.len) 0)
whole_text t low p = let q = on_blank t low p in ((q.0, omega (arith, q.0)), q.1)

-- So does the report of a run.
pub whole : {x : Page} (r : Ran)
    → length r.session.processes ≡ max_processes
    → Put blank_page (report_of r) x
    → ((x.len ≡ length (report_of r)) × (x.len ≤ page_size)) × (x.bytes ≡ report_of r ++ replicate (page_size - x.len) 0)
whole r size p = whole_text (report_of r) (omega (arith, report_low r size)) p

-- The report of a sheet is that of its run under the report's budget.
pub report_of_run : (s : List ℕ) {r : Ran} → r ≡ run Server s report_budget → report_of r ≡ report s
unfolding report
report_of_run s e = ap report_of e
