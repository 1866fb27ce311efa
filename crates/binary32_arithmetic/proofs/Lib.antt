-- Laws of the calls on patterns.
pub mod Halves
pub mod Passes
pub mod CallLaws
pub mod SliceLaws
pub mod Agreement
