pub mod Sections
mod Cover
pub mod Grown
mod Deepest
mod Fits
mod Found
mod Verdicts
mod Passes
pub mod Direct
mod Positions
pub mod Split
mod KnownKinds
