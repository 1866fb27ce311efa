-- Declets, decimal32 patterns, and what the calls of this crate answer.
pub mod Declets
pub mod Patterns
pub mod Placed
