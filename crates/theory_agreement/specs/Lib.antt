-- The agreement rule: of the machine at any window, and of lists of calls.
pub mod Conclusions
pub mod Closed
pub mod Theorem
