-- The past of the machine, by epochs, and what is true of it; what a process' place in its walk tells of the past; what a session and the
-- past of the machine that came to it have in common; that each operation keeps it, and each list of them; contested and the marked rounds.
pub mod Epoch
pub mod Past
pub mod Registers
pub mod Lawful
pub mod Place
pub mod Stays
pub mod Climb
pub mod Rounds
pub mod Checks
pub mod Step
pub mod Start
pub mod Matches
pub mod Invariant
pub mod Highest
pub mod Operations
pub mod Opening
pub mod Lists
pub mod Reached
pub mod Marks
