-- Numbers and their values, and what the calls of this crate answer.
pub mod Exponents
pub mod Numbers
pub mod Checks
pub mod Order
pub mod Signs
pub mod Patterns
