-- What a number of two words is, and the two words of a product.
pub mod Amount
pub mod Columns
