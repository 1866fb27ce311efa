-- The theory's own words, under one module.
unfoldable pub use Rattle.theory.specs.Tests.{◌and◌, ◌or◌, unless}
unfoldable pub use Rattle.theory.specs.Lists.{all}
pub use Rattle.theory.specs.Place.{Positional}
unfoldable pub use Rattle.theory.specs.Place.{place, step}
pub use Rattle.theory.specs.Wide.{Wide, Canonical}
unfoldable pub use Rattle.theory.specs.Neighbours.{lower, upper, lower_q, upper_q}
unfoldable pub use Rattle.theory.specs.Units.{ufp, ulp, uls, zeros}
pub use Rattle.theory.specs.Signed.{signed, is_negative, WideZ}
unfoldable pub use Rattle.theory.specs.Signed.{round_z, predecessor, successor}
pub use Rattle.theory.specs.Faithful.{Faithful}
