pub mod Paths
pub mod Lawful
pub mod Means
pub mod Inside
pub mod Subject
pub mod Lowest
