-- What the lines of a report lean on.
pub mod Numbered
