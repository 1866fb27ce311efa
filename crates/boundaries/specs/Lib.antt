-- What boundary_sum answers and writes, the bound of its sum, and what its inner functions are promised by.
pub mod Sums
pub mod Totals
pub mod Steps
pub mod Outcomes
