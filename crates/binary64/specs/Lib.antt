-- binary64 patterns, and what the calls of this crate answer.
pub mod Patterns
