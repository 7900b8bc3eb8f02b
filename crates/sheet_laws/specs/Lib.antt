-- Places in a sheet, and laws about them; what is said of a reader; one entry as the runner's code takes it, and what the runner's loop
-- keeps.
pub mod Places
pub mod PlaceLaws
pub mod Ordered
pub mod Most
pub mod Steps
pub mod Reading
pub mod Entries
pub mod Carried
