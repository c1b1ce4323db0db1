pub mod Order
pub mod Table
pub mod Laws
pub mod Kind
pub mod Kinds
pub mod Totals
pub mod Alike
