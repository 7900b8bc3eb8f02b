-- The rule of houses, on the facts of sessions and polls.
pub mod Types
pub mod Core
pub mod Invariant
pub mod Opening
pub mod Store
pub mod Workers
pub mod Small
pub mod Turning
pub mod Turns
pub mod Places
pub mod Sound
pub mod Ranks
pub mod Theorem
pub mod Laws
pub mod Contested
