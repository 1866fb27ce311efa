-- Laws of binary64 patterns.
pub mod Laws
-- agreement with lib.Ieee, the kit's own account of IEEE 754
pub mod Standard
