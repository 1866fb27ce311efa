-- Laws of numbers, of their values, and of the checks that every call begins with.
pub mod Membership
pub mod Values
pub mod CheckLaws
pub mod Prelude
pub mod Comparison
pub mod Compared
pub mod Negation
pub mod PatternLaws
