pub mod Blocks
pub mod Trials
