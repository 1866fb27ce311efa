-- Laws of places and neighbours.
pub mod Forms
pub mod Written
pub mod Sides
pub mod OneStep
pub mod NeighbourLaws
pub mod OneStepLaws
pub mod OneStepExamples
pub mod PlaceLaws
