pub mod BoundNames
pub mod ExportedNames
pub mod Beyond
pub mod Listing
pub mod Append
pub mod Beneath
