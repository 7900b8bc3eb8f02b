pub mod Stored
pub mod Cycle
pub mod Ends
