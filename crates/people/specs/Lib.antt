pub mod Listed
pub mod Quoted
