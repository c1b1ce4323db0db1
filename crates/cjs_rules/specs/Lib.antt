pub mod Chain
pub mod Nodes
pub mod Words
pub mod Names
pub mod Rules
