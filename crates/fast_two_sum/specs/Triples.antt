-- Demand 3 in its own words: two numbers of a binary format, a triple made of them by any faithful roundings, and the bound.
-- Values are exact, in units of 2 ^ Emin. The format is any with base 2 and at least 2 digits, admitted or not.
use Rattle.std.specs.Prelude.{ℕ, ◌^◌, ◌*◌, ◌-◌, ◌≤◌, ◌≡◌, true, ◌⊎◌, nat_abs, ◌+ℤ◌, ◌-ℤ◌}
use Rattle.theory.specs.Units.{ufp, ulp}
use Rattle.theory.specs.Faithful.{Faithful}
use Rattle.format.specs.declared.Format.{Format}
use Rattle.number.specs.declared.Number.{Number}
use Rattle.number.specs.Numbers.{member, magnitude, value}

-- a and b are numbers of one binary format with p digits, p at least 2, a not smaller in magnitude
pub record Summands (f : Format) (a b : Number) : Type 0 where
  pub base : f.base ≡ 2
  pub digits : 2 ≤ f.digits
  pub a_number : member f a ≡ true
  pub b_number : member f b ≡ true
  pub order : magnitude f b ≤ magnitude f a

-- x, z, y are in the format, each faithful to its step: a + b, x - a, b - z
pub record Triple (f : Format) (a b x z y : Number) : Type 0 where
  pub x_number : member f x ≡ true
  pub z_number : member f z ≡ true
  pub y_number : member f y ≡ true
  pub x_step : Faithful f.base f.digits (value f a +ℤ value f b) (value f x)
  pub z_step : Faithful f.base f.digits (value f x -ℤ value f a) (value f z)
  pub y_step : Faithful f.base f.digits (value f b -ℤ value f z) (value f y)

-- the distance from x + y to a + b
abbrev pub distance : Format → (a b x y : Number) → ℕ
distance f a b x y = nat_abs (value f x +ℤ value f y -ℤ (value f a +ℤ value f b))

pub record Bound (f : Format) (a b x y : Number) : Type 0 where
  -- 2 ^ (2 p - 1) times the distance exceeds neither |a + b| nor |x|
  pub by_sum : 2 ^ (2 * f.digits - 1) * distance f a b x y ≤ nat_abs (value f a +ℤ value f b)
  pub by_x : 2 ^ (2 * f.digits - 1) * distance f a b x y ≤ magnitude f x
  -- |y| is at most the last place of x
  pub last_place_law : magnitude f y ≤ ulp f.base f.digits (magnitude f x)
  -- no distance where a or b is zero or the first place of a is at most 2 ^ p times that of b
  pub exact : (magnitude f a ≡ 0) ⊎ (magnitude f b ≡ 0) ⊎ (ufp f.base (magnitude f a) ≤ 2 ^ f.digits * ufp f.base (magnitude f b)) → distance f a b x y ≡ 0
