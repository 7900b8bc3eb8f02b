-- The bytes of the decided values.
pub mod Bytes
