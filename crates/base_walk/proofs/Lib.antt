-- What a walk of a function's code by hand, around one call, asks and shows.
pub mod Promise
pub mod Walk
