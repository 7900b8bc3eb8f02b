pub mod Short
pub mod Calls
pub mod Claim
