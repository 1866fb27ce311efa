-- The five directions by their numbers, as the theory has them.
unfoldable pub use Rattle.theory.specs.Directions.{is_direction, direction}
