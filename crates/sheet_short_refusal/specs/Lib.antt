pub mod Searches
pub mod Legal
