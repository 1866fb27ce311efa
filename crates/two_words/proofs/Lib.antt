-- The laws that the functions' proofs go by.
pub mod Words
pub mod Columns
pub mod Digits
pub mod Shifts
