pub mod Links
pub mod Lawful
pub mod Means
pub mod Inside
pub mod Subject
pub mod FirstLink
