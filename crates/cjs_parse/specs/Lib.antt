pub mod State
pub mod Bound
pub mod Moving
pub mod Visited
pub mod Outcome
