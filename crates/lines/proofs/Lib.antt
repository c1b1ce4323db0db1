pub mod Underway
pub mod Rows
pub mod Digits
