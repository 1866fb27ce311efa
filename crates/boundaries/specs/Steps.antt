-- What the inner functions of boundary_sum are promised by, and what the passes over the strips are given.
use Rattle.std.specs.Prelude.{ℕ, ◌*◌, ◌%◌, ◌^◌, ◌≤◌, ◌≡◌, Bool, true, List, ltb, length}
use Rattle.theory.specs.Lists.{none}
use Rattle.theory.specs.declared.Direction.{Direction}
use Rattle.format.specs.Given.{Given}
use Rattle.format.specs.Published.{binary32}
use Rattle.arithmetic.specs.Operations.{rounded_sum}
use Rattle.binary32.specs.Patterns.{not_finite, number_read, answer_written}

-- the first of the three steps, written as a pattern
unfoldable pub first_step : Direction → (x s : ℕ) → Given ℕ
first_step d x s = answer_written (rounded_sum binary32 d (number_read x) (number_read s))

-- the exponent field is below 242, so that the magnitude is below 2 ^ 264
abbrev pub small_strip : ℕ → Bool
small_strip n = ltb (n % 2 ^ 31) (242 * 2 ^ 23)

-- there are 1 to 4,096 strips, and all are finite
pub record Summable (strips : List ℕ) : Type 0 where
  pub some : 1 ≤ length strips
  pub few : length strips ≤ 4096
  pub finite : none not_finite strips ≡ true
