pub mod LowestModule
