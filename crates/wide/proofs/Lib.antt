-- The laws that the operations' proofs go by, and that the crates above cite.
pub mod Signs
pub mod Sizes
pub mod Finishes
pub mod Sums
pub mod FarSums
pub mod Products
pub mod Quotients
pub mod Results
-- the long division of fractions
pub mod Digits
pub mod Cuts
-- numbers of any form
pub mod Conversions
