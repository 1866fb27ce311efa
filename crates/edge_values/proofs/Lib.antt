-- The starred values, proved.
pub mod Table
