-- What the inner functions ask and promise.
use Rattle.std.specs.Prelude.{ℕ, ◌+◌, ◌≤◌, ◌≡◌, true, List, length}
use Rattle.theory.specs.Lists.{none}
use Rattle.binary32.specs.Patterns.{finite, not_finite, pattern_value, pattern_values}
use Rattle.receivers.specs.declared.Extremes.{Extremes}
use Rattle.receivers.specs.Stretches.{greatest_of, least_of}

-- the stretch lies within the log
abbrev pub Contains : (log : List ℕ) (start n : ℕ) → Type 0
Contains log start n = start + n ≤ length log

-- a list with an entry, of finite patterns
pub record Logged (l : List ℕ) : Type 0 where
  pub some : 1 ≤ length l
  pub finite : none not_finite l ≡ true

-- finite patterns of the least and the greatest value of a list
pub record ExtremesOf (l : List ℕ) (r : Extremes) : Type 0 where
  pub least_is : pattern_value r.least ≡ least_of (pattern_values l)
  pub greatest_is : pattern_value r.greatest ≡ greatest_of (pattern_values l)
  pub least_finite : finite r.least ≡ true
  pub greatest_finite : finite r.greatest ≡ true
