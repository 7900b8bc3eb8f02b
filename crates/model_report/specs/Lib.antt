-- The definition of the board report.
pub mod Report
pub mod ReportExport
