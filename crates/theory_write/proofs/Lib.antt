-- The round trips of the sheet writer and the reader, of the functions.
pub mod Functions
