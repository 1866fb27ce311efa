-- The sum of two numbers.
use Rattle.std.specs.Prelude.{ℕ, ◌^◌, ◌+◌, ◌*◌, ◌-◌, ◌≤◌, ◌<◌, ◌≡◌, Bool, true, false, not, ℤ, nat_abs}
use Rattle.theory.specs.declared.Direction.{Direction}
use Rattle.theory.specs.declared.Location.{Location}
use Rattle.theory.specs.Signed.{signed}
use Rattle.format.specs.declared.Scale.{Scale}
use Rattle.rounding.specs.declared.Cut.{Cut}
use Rattle.rounding.specs.declared.Rounding.{Rounding}
use Rattle.wide.specs.declared.sum.SignedCut.{SignedCut}
use Rattle.wide.specs.declared.sum.UnitSum.{UnitSum}
use Rattle.rounding.specs.Cut.{cut_of, Rounds}
use Rattle.rounding.specs.Location.{located}

-- r is the whole number z, rounded; where z is 0 it has either sign
pub record RoundsZ (β p : ℕ) (d : Direction) (z : ℤ) (r : Rounding) : Type 0 where
  pub sign : z ≡ signed r.wide.negative (nat_abs z)
  pub rounds : Rounds β p d r.wide.negative (nat_abs z) 1 r

-- ---- for inner functions
-- m units and v more, or less where the signs differ, are given - taken units and a rest
pub record InUnits (m v unit : ℕ) (differ : Bool) (given taken rest : ℕ) : Type 0 where
  pub more : differ ≡ false → (given * unit + rest ≡ m * unit + v) × (taken ≡ 0)
  pub less : differ ≡ true → (taken * unit ≡ v + rest) × (given ≡ m)
  pub small : rest < unit
  pub taken_most : taken ≤ v

-- this sum has fewer digits than the format in units of the higher place, and, where the gap is more than 1, all in units of the place below
pub record Short (s : Scale) (u : UnitSum) (unit gap : ℕ) : Type 0 where
  pub few : u.given < s.least + u.taken
  pub within : u.taken * unit < s.bound + u.rest
  pub small : u.rest < unit
  pub enough : 2 ≤ gap → (u.taken ≤ u.given) × (s.least * unit ≤ s.base * ((u.given - u.taken) * unit + u.rest))

-- given - taken units and a rest are n with the sign c, where a is that of the units given
pub data Sized (a : Bool) (given taken rest unit : ℕ) (c : Bool) (n : ℕ) : Type 0 where
  above : taken ≤ given → c ≡ a → n ≡ (given - taken) * unit + rest → Sized a given taken rest unit c n
  below : given < taken → c ≡ not a → n ≡ (taken - given) * unit - rest → Sized a given taken rest unit c n

-- r is the cut of so many units of base ^ place
pub record UnitsCut (s : Scale) (a : Bool) (u : UnitSum) (unit place : ℕ) (r : SignedCut) : Type 0 where
  pub size : ℕ
  pub sized : Sized a u.given u.taken u.rest unit r.negative size
  pub is : r.cut ≡ cut_of s.base s.digits (size * s.base ^ place) (s.base ^ 0)

-- z has this sign (either, where z is 0), and r is the cut of its magnitude
pub record SumCut (s : Scale) (z : ℤ) (negative : Bool) (r : Cut) : Type 0 where
  pub sign : z ≡ signed negative (nat_abs z)
  pub size : r ≡ cut_of s.base s.digits (nat_abs z) 1

-- where β ^ (gap - 1) - m lies in β ^ (gap - 1)
unfoldable pub below_power : (β m gap : ℕ) → Location
below_power β m gap = located (β ^ (gap - 1) - m) (β ^ (gap - 1))
