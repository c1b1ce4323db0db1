-- What the contracts cite: the texts of lists, of places and bindings, and of loose readings.
pub mod Listed
pub mod Places
pub mod Texts
