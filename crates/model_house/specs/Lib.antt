pub mod Answers
pub mod House
pub mod Turn
pub mod Machine
pub mod Sound
pub mod Public
pub mod Rule
