-- Demand 3, and laws of the three-step sum and its check.
pub mod Bounds
pub mod Order
pub mod Chain
pub mod Faithfulness
pub mod Demand
pub mod Reversed
