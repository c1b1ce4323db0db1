pub mod Split
pub mod Walk
pub mod Together
pub mod Endings
pub mod NamesWhole
pub mod JoinedPaths
