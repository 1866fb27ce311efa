-- What the calls of this crate answer.
pub mod Places
pub mod Neighbours
