-- The rule of polls, on the facts of the board that sessions and polls share.
pub mod Turn
pub mod Machine
pub mod Unanimous
pub mod Calls
pub mod Passes
pub mod Theorem
pub mod Open
