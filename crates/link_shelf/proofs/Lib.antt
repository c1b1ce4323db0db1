pub mod Targets
pub mod FirstLinks
