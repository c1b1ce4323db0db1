pub mod Telling
mod Asking
pub mod Leaving
