-- Numbers of the wide format with 24 binary digits that stand for exact values, their order, and a sum as two of them: the sum rounded to
-- nearest, and the rest.
use Rattle.std.specs.Prelude.{ℕ, ◌+◌, ◌*◌, ◌-◌, ◌^◌, ◌≤◌, ◌≡◌, not, cond, ℤ, ◌+ℤ◌}
use Rattle.theory.specs.Wide.{Canonical}
use Rattle.theory.specs.declared.Direction.TheVariants.{NearestEven}
use Rattle.theory.specs.declared.Mark.TheVariants.{Exact}
use Rattle.theory.specs.Signed.{round_z}
use Rattle.rounding.specs.declared.Rounding.{Rounding}
use Rattle.rounding.specs.declared.Wide.{Wide}
use Rattle.wide.specs.Operand.{value_of}

-- x is in canonical form, at a place of at most k
pub record Placed (k : ℕ) (x : Wide) : Type 0 where
  pub canonical : Canonical 2 24 x.significand x.place
  pub place_most : x.place ≤ k

-- and its value is v
pub record Holds (k : ℕ) (v : ℤ) (x : Wide) : Type 0 where
  pub placed : Placed k x
  pub value : value_of 2 x ≡ v

-- x is the sum N, rounded to nearest
pub record Nearest (k : ℕ) (N : ℤ) (x : Wide) : Type 0 where
  pub placed : Placed k x
  pub value : value_of 2 x ≡ round_z 2 24 NearestEven N 1

-- with a mark: where it says exact, x is N
pub record Marked (k : ℕ) (N : ℤ) (x : Rounding) : Type 0 where
  pub nearest : Nearest k N x.wide
  pub exact : x.mark ≡ Exact → value_of 2 x.wide ≡ N

-- r is x + y, rounded to nearest: at most one place above the higher of the two
abbrev pub SumOf : (x y : Wide) (r : Rounding) → Type 0
SumOf x y r = (k : ℕ) → Placed k x → Placed k y → Marked (k + 1) (value_of 2 x +ℤ value_of 2 y) r

-- r is what x leaves of N
pub record RestOf (N : ℤ) (x r : Wide) : Type 0 where
  pub placed : Placed 300 r
  pub exact : value_of 2 x +ℤ value_of 2 r ≡ N

-- -x
abbrev pub turned : Wide → Wide
turned x = record { negative = not x.negative; significand = x.significand; place = x.place }

-- a whole number that orders numbers by their values: 2 ^ 33 plus or minus the place and the significand side by side
abbrev pub size_rank : Wide → ℕ
size_rank x = x.place * 2 ^ 24 + x.significand

abbrev pub rank_of : Wide → ℕ
rank_of x = cond x.negative (2 ^ 33 - size_rank x) (2 ^ 33 + size_rank x)
