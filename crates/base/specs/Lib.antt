-- General lemmas that name nothing of this project.
pub mod Bools
pub mod Arrays
pub mod Prelude
pub mod Squares
pub mod Walks
