pub mod Turn
pub mod Answers
pub mod Machine
pub mod Public
