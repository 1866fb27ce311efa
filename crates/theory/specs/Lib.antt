-- A number format without its exponents' limits: base β, p digits, values in units of β ^ Emin. Definitions only; their laws are in proofs/.
pub mod Tests
pub mod Directions
pub mod Lists
pub mod Place
pub mod Wide
pub mod Neighbours
pub mod Units
pub mod QuotientDigits
pub mod Round
pub mod Signed
pub mod Marks
pub mod Faithful
pub mod Nearest
