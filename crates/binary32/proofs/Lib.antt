-- Laws of patterns.
pub mod Fields
pub mod RoundTrips
pub mod PatternOrder
pub mod PatternValues
pub mod PatternPlaces
pub mod PatternNeighbours
-- agreement with lib.Ieee, the kit's own account of IEEE 754: reading, rounding, the operations
pub mod Standard
pub mod StandardRound
pub mod StandardSum
pub mod StandardProduct
pub mod StandardPatterns
