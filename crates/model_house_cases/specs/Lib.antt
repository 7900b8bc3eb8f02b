pub mod Play
pub mod Table
pub mod Refuted
