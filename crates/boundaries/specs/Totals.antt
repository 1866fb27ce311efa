-- The bound of a boundary's sum, over exact values in units of 2 ^ -149.
use Rattle.std.specs.Prelude.{ℕ, ◌+◌, ◌*◌, ◌^◌, ◌≤◌, ◌≡◌, Bool, true, List, [], ◌∷◌, ℤ, pos, nat_abs, ◌+ℤ◌, ◌-ℤ◌}
use Rattle.theory.specs.Tests.{◌and◌}
use Rattle.theory.specs.Lists.{all}
use Rattle.format.specs.Directions.{direction}
use Rattle.binary32.specs.Patterns.{finite, pattern_value}
use Rattle.boundaries.specs.declared.Step.{Step}
use Rattle.boundaries.specs.Sums.{boundary_steps}

-- the exact total of patterns
unfoldable pub total_of : List ℕ → ℤ
total_of [] = pos 0
total_of (n ∷ ns) = pattern_value n +ℤ total_of ns

-- the sum of |x| after each step
unfoldable pub sizes_of : List Step → ℕ
sizes_of [] = 0
sizes_of (t ∷ ts) = nat_abs (pattern_value t.x) + sizes_of ts

-- x and y of a step are finite, so that they have values
abbrev pub finite_step : Step → Bool
finite_step t = finite t.x and finite t.y

-- the total of the last x and all y against the total of the strips
pub record TotalBound (d : ℕ) (strips : List ℕ) (sum : ℕ) (rests : List ℕ) : Type 0 where
  pub finite : all finite_step (boundary_steps (direction d) strips) ≡ true
  -- no farther apart than the sum of all |x| divided by 2 ^ 47
  pub within : 2 ^ 47 * nat_abs (pattern_value sum +ℤ total_of rests -ℤ total_of strips) ≤ sizes_of (boundary_steps (direction d) strips)
  -- in directions 0 and 1 the same
  pub exact : d ≤ 1 → pattern_value sum +ℤ total_of rests ≡ total_of strips
