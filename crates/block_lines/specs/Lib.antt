pub mod Analyses
pub mod Lines
pub mod Rooms
