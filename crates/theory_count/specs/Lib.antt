-- Two values cannot both be written to the register of a round in which one of them was committed.
pub mod Pigeon
pub mod TwoValues
pub mod Apart
pub mod Ends
pub mod Rivals
pub mod Carriers
pub mod Sharp
pub mod Grid
pub mod Agreed
