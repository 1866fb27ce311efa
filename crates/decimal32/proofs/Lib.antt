-- Laws of declets and of decimal32 patterns.
pub mod DecletLaws
pub mod Fields
pub mod RoundTrips
pub mod CanonicalPatterns
pub mod Examples
