-- Formats, directions and refusals, as document 01 has them.
pub mod Refusals
pub mod Given
pub mod Directions
pub mod Limits
pub mod Formats
pub mod Published
