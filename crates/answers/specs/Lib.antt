pub mod Answers
pub mod Memory
pub mod Report
pub mod Stream
