pub mod Kinds
pub mod Number
pub mod Shape
pub mod Table
