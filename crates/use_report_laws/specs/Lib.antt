-- The board report: the cases that the code goes by, the seats' lines, the longest report.
pub mod Cases
pub mod Seats
pub mod Room
pub mod Whole
