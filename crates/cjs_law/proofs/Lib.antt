pub mod Order
mod Members
pub mod Ascending
pub mod Splits
pub mod Listed
pub mod Puts
pub mod Stands
mod Said
mod Firsts
pub mod Decided
pub mod Walked
pub mod Acts
mod Bound
pub mod Onward
mod WalkedRows
pub mod RowActs
