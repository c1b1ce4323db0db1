pub mod Places
pub mod Rising
pub mod Entered
mod Removes
mod Zeros
mod Standing
mod Members
