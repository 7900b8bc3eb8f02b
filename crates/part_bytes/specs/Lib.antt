-- What is read and written past the end.
pub mod Beyond
