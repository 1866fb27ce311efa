-- The three-step sum with its operands in the wrong order, a smaller than b: theorems 2 and 3 of the note on FastTwoSum with directed
-- roundings, for every p from 1 on, underflow included. Values are exact, in units of 2 ^ Emin, and the format is admitted or not.
use Rattle.std.specs.Prelude.{◌^◌, ◌*◌, ◌≤◌, ◌<◌, ◌≡◌, true, ◌+ℤ◌, ◌-ℤ◌}
use Rattle.theory.specs.Nearest.{NearestNumber}
use Rattle.format.specs.declared.Format.{Format}
use Rattle.number.specs.declared.Number.{Number}
use Rattle.number.specs.Numbers.{member, magnitude, value}
use Rattle.fast_two_sum.specs.Triples.{distance}

-- a and b are numbers of one binary format with p digits, a smaller in magnitude
pub record ReversedSummands (f : Format) (a b : Number) : Type 0 where
  pub base : f.base ≡ 2
  pub digits : 1 ≤ f.digits
  pub a_number : member f a ≡ true
  pub b_number : member f b ≡ true
  pub order : magnitude f a < magnitude f b

-- x, z, y are in the format, each nearest to its step, ties as they like: a + b, x - a, b - z
pub record NearestTriple (f : Format) (a b x z y : Number) : Type 0 where
  pub x_number : member f x ≡ true
  pub z_number : member f z ≡ true
  pub y_number : member f y ≡ true
  pub x_step : NearestNumber f.base f.digits (value f a +ℤ value f b) (value f x)
  pub z_step : NearestNumber f.base f.digits (value f x -ℤ value f a) (value f z)
  pub y_step : NearestNumber f.base f.digits (value f b -ℤ value f z) (value f y)

-- of every triple
pub record ReversedBound (f : Format) (a b x z y : Number) : Type 0 where
  -- theorem 2: 2 ^ p times the distance is below 3 |x|
  pub by_x : 2 ^ f.digits * distance f a b x y < 3 * magnitude f x
  -- the third step is exact
  pub third_exact : value f y ≡ value f b -ℤ value f z

-- of every triple of nearest numbers
pub record NearestBound (f : Format) (a b x y : Number) : Type 0 where
  -- theorem 3: 2 ^ p times the distance is at most |x|
  pub by_x : 2 ^ f.digits * distance f a b x y ≤ magnitude f x
