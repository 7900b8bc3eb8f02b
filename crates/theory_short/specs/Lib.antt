pub mod FunctionContracts
pub mod Theorem
