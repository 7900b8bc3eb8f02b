-- The runs of sheets: they are the public operations', they are the machine's, and what the C entry writes agrees. Contested is the number
-- of marked rounds: one register operation, lists of calls, sheets.
pub mod Runs
pub mod Entries
pub mod Export
pub mod Contested
