-- The paper cases of the two callers (document 02, wish 9).
pub mod Table
