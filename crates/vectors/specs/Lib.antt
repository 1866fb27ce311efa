-- Rows of the vectors: their columns, their calls, and whether and how many agree.
pub mod Columns
pub mod Calls
pub mod Rows
