-- Laws of patterns, over the widths of their fields.
pub mod Fields
pub mod RoundTrips
pub mod PatternOrder
pub mod Reading
-- agreement with lib.Ieee, the kit's own account of IEEE 754
pub mod Standard
