-- What the four operations and the fraction answer.
pub mod Operands
pub mod Operations
pub mod Marked
pub mod Quotients
pub mod Outcomes
