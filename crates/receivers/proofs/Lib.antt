-- Laws of spreads and of the calmer stretch.
pub mod ExtremeLaws
pub mod Spreads
pub mod Refusals
pub mod AnswerLaws
pub mod Examples
