pub mod Chain
pub mod Renamed
