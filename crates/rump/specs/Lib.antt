-- The premises of Rump's routes, the figures, and what the routes answer.
pub mod Premises
pub mod Figures
pub mod Routes
