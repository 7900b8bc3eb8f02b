-- The tests by which a call is refused, and the entries in chunks of six bytes.
pub mod Tests
pub mod Chunks
