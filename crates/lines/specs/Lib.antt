-- What the program for places prints for an input.
pub mod Digits
pub mod Reading
pub mod Printing
pub mod Blocks
