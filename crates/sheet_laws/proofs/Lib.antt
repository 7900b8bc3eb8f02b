-- What a reader owns.
pub mod Rows
