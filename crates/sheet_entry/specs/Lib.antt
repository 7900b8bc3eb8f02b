-- Entries past the end of a sheet.
pub mod Beyond
