-- The refusal of a sheet, part by part, and of its runs, run by run.
pub mod RunTests
pub mod Parts
