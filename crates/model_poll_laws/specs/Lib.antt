pub mod Opening
pub mod Sounds
pub mod Answers
pub mod Performs
pub mod Pass
pub mod Ends
pub mod Works
