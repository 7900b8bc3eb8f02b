-- The round trips of the sheet writer and the reader: of the definitions, and of the functions by their contracts (these in proofs/).
pub mod Follow
pub mod Pairs
pub mod SheetOf
pub mod Written
pub mod Read
pub mod FunctionContracts
pub mod Functions
