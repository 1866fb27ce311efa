-- Laws of exact comparison.
pub mod Ranks
pub mod Rests
