-- The five directions by their numbers.
use Rattle.std.specs.Prelude.{ℕ, zero, suc, Bool, leb, Result, Ok, Err}
use Rattle.theory.specs.Tests.{unless}
use Rattle.theory.specs.declared.NoDirection.{NoDirection}
use Rattle.theory.specs.declared.Direction.{Direction}
use Rattle.theory.specs.declared.Direction.TheVariants.{NearestEven, NearestAway, TowardZero, Upward, Downward}

-- d is the number of a direction
unfoldable pub is_direction : ℕ → Bool
is_direction d = leb d 4

-- the direction with the number d, for d from 0 to 4
unfoldable pub direction : ℕ → Direction
direction zero = NearestEven
direction (suc zero) = NearestAway
direction (suc (suc zero)) = TowardZero
direction (suc (suc (suc zero))) = Upward
direction (suc (suc (suc (suc d)))) = Downward

-- what a number is read as: the direction that has it, or none
unfoldable pub direction_read : ℕ → Result Direction NoDirection
direction_read d = unless (is_direction d) (Err (record {})) (Ok (direction d))
