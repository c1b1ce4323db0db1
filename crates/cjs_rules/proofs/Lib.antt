pub mod Ahead
pub mod FirstTwo
pub mod Listed
mod Required
