-- The laws that the operations' proofs go by, and the laws that a user expects.
pub mod Prepared
pub mod Pairs
pub mod QuotientPlaces
pub mod Conversions
-- what an answer says of the exact result
pub mod Outcome
pub mod Fractions
pub mod Results
-- what a call's answer says of the exact result
pub mod Calls
pub mod Algebra
pub mod Enclosure
-- the signs of results, zeros among them
pub mod ZeroLaws
pub mod FractionLaws
-- what the marks say
pub mod MarkLaws
-- numbers of any form, taken into a format
pub mod ConversionLaws
pub mod ConversionExamples
-- how many digits of a quotient are worked out
pub mod DigitLaws
pub mod Prelude

-- the checks of a public call
