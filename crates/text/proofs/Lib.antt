mod Coding
mod Wellformed
mod Bytewise
pub mod Orders
mod OnePoint
pub mod ByPoints
