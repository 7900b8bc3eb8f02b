-- What the report for callers in C leans on.
pub mod Size
pub mod Written
