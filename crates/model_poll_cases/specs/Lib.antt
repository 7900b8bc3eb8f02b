-- The paper cases of polls (document 02, wish 6).
pub mod Play
pub mod Table
