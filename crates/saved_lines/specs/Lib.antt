-- Offsets of saved lines as exact values, and what the calls of this crate answer.
pub mod Positions
pub mod Offsets
pub mod Searches
pub mod Lines
pub mod Walks
pub mod Rows
pub mod Outcomes
