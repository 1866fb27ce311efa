-- Laws of a step, of the passes and of a call, and the bound of the sum.
pub mod Distances
pub mod StepLaws
pub mod Passes
pub mod Checks
pub mod Bounds
pub mod Growth
pub mod Ends
