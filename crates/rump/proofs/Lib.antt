-- Laws of the premises of Rump's routes, of the lines of the figures, and of what the routes answer.
pub mod Reach
pub mod Lines
pub mod Steps
pub mod FirstFigure
pub mod LastFigures
pub mod SuccessorFigures
pub mod RouteLaws
pub mod RouteValues
