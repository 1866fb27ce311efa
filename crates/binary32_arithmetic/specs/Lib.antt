-- What the calls on patterns answer, and what a sum of slices writes.
pub mod Calls
pub mod Slices
