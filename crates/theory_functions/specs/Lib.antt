-- The contracts of the functions that the agreement rule and the rules of polls and of houses speak of.
pub mod FunctionContracts
pub mod Houses
