-- What the contracts cite: numbers, places, code points, readings, and the laws of readings.
pub mod Number
pub mod Place
pub mod Points
pub mod Reading
pub mod Laws
