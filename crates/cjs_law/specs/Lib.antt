pub mod Events
pub mod Walk
pub mod Lists
pub mod Findings
pub mod Laws
pub mod Rows
