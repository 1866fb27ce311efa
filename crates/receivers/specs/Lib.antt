-- What the calls of this crate answer, and what its inner functions promise.
pub mod Stretches
pub mod Answers
pub mod Spreads
pub mod Outcomes
