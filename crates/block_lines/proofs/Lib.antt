mod Parts
pub mod Rooms
mod Shown
mod Told
