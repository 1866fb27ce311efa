-- Laws of formats, and of the signed numbers of the code.
pub mod Signed
pub mod Squaring
pub mod Limits
pub mod Formats
pub mod PublishedFormats
pub mod GivenLaws
