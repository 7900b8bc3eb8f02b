-- What reading a run gives, and which runs are left.
pub mod Runs
