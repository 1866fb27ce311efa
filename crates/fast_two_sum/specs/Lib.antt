-- Demand 3, the operands in the wrong order, and what the three-step sum and its check answer.
pub mod Triples
pub mod Reversed
pub mod Calls
pub mod Checks
pub mod Outcomes
