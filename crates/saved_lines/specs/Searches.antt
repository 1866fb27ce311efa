-- Tests of an offset that fail up to some position of a list that ascends, and pass from there on.
use Rattle.std.specs.Prelude.{ℕ, Bool, not, ◌+ℤ◌}
use Rattle.std.specs.Int.Signed.{le_z, lt_z}
use Rattle.binary32.specs.Patterns.{pattern_value}

-- is n at least the number?
unfoldable pub at_least : (number n : ℕ) → Bool
at_least number n = not (lt_z (pattern_value n) (pattern_value number))

-- are n and the distance together at least the query?
unfoldable pub reaching : (query distance n : ℕ) → Bool
reaching query distance n = le_z (pattern_value query) (pattern_value n +ℤ pattern_value distance)

-- is n above the query and the distance together?
unfoldable pub beyond : (query distance n : ℕ) → Bool
beyond query distance n = not (le_z (pattern_value n) (pattern_value query +ℤ pattern_value distance))
