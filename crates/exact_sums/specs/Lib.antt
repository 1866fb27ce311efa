-- What the inner functions of this crate promise: `sums_upto` promises the order of the exact values.
pub mod Numbers
