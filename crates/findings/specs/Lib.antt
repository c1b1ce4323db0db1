pub mod Program
pub mod Script
pub mod Tables
