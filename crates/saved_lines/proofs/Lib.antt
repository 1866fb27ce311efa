-- Laws of saved lines.
-- on exact values
pub mod DistanceLaws
pub mod NearestLaws
-- on lists of patterns
pub mod Offsets
pub mod Checking
pub mod Searches
pub mod Positions
pub mod PositionLists
pub mod Reaches
pub mod Walks
pub mod RowLaws
pub mod RowPatterns
pub mod RowChecks
-- the answers in the requests' words
pub mod Refusals
pub mod NearestAnswers
pub mod ReachAnswers
pub mod OrderLaws
pub mod RowAnswers
pub mod Examples
