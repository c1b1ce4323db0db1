pub mod Segments
pub mod Behind
pub mod Join
pub mod Backwards
pub mod Joined
pub mod JoinedPath
