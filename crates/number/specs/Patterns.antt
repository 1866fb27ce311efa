-- What the patterns of every format share: the sign bit, the highest, above so many other bits.
use Rattle.std.specs.Prelude.{ℕ, ◌^◌, Bool, cond, leb}

abbrev pub sign_above : (bits pattern : ℕ) → Bool
sign_above bits n = leb (2 ^ bits) n

abbrev pub weight_above : (bits : ℕ) (negative : Bool) → ℕ
weight_above bits negative = cond negative (2 ^ bits) 0
