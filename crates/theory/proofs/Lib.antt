-- The laws of the definitions in specs/, lowest first. A crate above cites a file as Rattle.theory.proofs.NAME.
-- numbers, places and the wide format
pub mod Prelude
pub mod Words
pub mod Tests
pub mod Directions
pub mod Results
pub mod Lists
pub mod Powers
pub mod Multiples
pub mod Place
pub mod Wide
pub mod Canonical
pub mod Neighbours
pub mod Units
pub mod LeastPlace
pub mod QuotientDigits
-- the rounding of a magnitude
pub mod Round
pub mod Ties
pub mod Monotone
pub mod Division
-- values with a sign
pub mod Integers
pub mod Order
pub mod Signed
pub mod Marks
pub mod Faithful
-- the three-step sum
pub mod Error
pub mod Binades
pub mod Nearest
pub mod Steps
pub mod FastTwoSum
pub mod ReversedSteps
pub mod Reversed
pub mod ReversedTight
-- Rump's routes
pub mod Rump
pub mod Operations
pub mod FirstPlace
pub mod LastPlace
