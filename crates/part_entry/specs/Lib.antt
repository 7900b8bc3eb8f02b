-- Which values an entry of a kind may have.
pub mod Largest
