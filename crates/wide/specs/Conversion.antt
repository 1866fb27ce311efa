-- Digits dropped from a whole number, until none stands below place 0 and the others are a significand.
use Rattle.std.specs.Prelude.{ℕ, ◌^◌, ◌*◌, ◌/◌, ◌%◌, ◌≤◌, ◌≡◌, ◌⊎◌}
use Rattle.theory.specs.declared.Location.{Location}
use Rattle.rounding.specs.Location.{located}

-- `count` digits of n are dropped: n / β ^ count steps are left, and the location is that of the rest. All of them stood below place 0, or
-- the steps before the last were B or more, which are too many.
pub record Dropping (β B n down steps : ℕ) (at : Location) (count : ℕ) : Type 0 where
  pub left : steps ≡ n / β ^ count
  pub rest : at ≡ located (n % β ^ count) (β ^ count)
  pub needed : (count ≤ down) ⊎ (B * β ^ count ≤ β * n)
  pub few : count ≤ 64
