-- What `with_all_digits` hands back: the same value, with seven digits or at the least exponent.
use Rattle.std.specs.Prelude.{ℕ, ◌*◌, ◌^◌, ◌≤◌, ◌≡◌}
use Rattle.theory.specs.Wide.{Canonical}
use Rattle.decimal32.specs.declared.Placed.{Placed}

pub record AllDigits (coefficient place : ℕ) (d : Placed) : Type 0 where
  pub canonical : Canonical 10 7 d.significand d.place
  pub same : d.significand * 10 ^ d.place ≡ coefficient * 10 ^ place
  pub lower : d.place ≤ place
