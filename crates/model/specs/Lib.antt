-- The definitions that everything else cites, in the order of document 01.
pub mod Window
pub mod Board
pub mod Step
pub mod Numbers
pub mod Answers
pub mod Refusal
pub mod Machine
pub mod Sound
pub mod Public
pub mod ReadOut
pub mod Bytes
pub mod Sheet
pub mod Runner
pub mod Export
