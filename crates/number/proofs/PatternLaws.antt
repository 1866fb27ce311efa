-- The weight of a pattern's sign bit.
use Rattle.theory.proofs.Prelude.{ℕ, ◌≤◌, ◌^◌, true, false, Bool, arith}
use Rattle.number.specs.Patterns.{weight_above}

pub sign_most : (bits : ℕ) (negative : Bool) → weight_above bits negative ≤ 2 ^ bits
sign_most bits true = omega arith
sign_most bits false = omega arith
