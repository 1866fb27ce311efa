-- Laws of digits and of lines.
pub mod DigitLaws
pub mod Stores
pub mod LineLaws
pub mod BlockLaws
