-- The starred paper cases of document 01.
pub mod Play
pub mod Table
