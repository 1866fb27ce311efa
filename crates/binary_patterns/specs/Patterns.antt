-- Patterns of a binary format with w bits for the exponent field and t for the fraction: what a pattern stands for, as an exact value in
-- units of the least positive number, and how a number is written. From the highest bit down: the sign, the exponent field, the fraction.
use Rattle.std.specs.Prelude.{ℕ, suc, ◌+◌, ◌*◌, ◌-◌, ◌/◌, ◌%◌, ◌^◌, Bool, not, cond, [], ◌∷◌, eqb, ℤ, pos, neg_ℤ, ◌-ℤ◌}
use Rattle.theory.specs.Tests.{unless}
use Rattle.theory.specs.Signed.{signed}
use Rattle.format.specs.declared.Format.{Format}
use Rattle.format.specs.Given.{Given, gives, refused}
use Rattle.number.specs.declared.Number.{Number}
use Rattle.number.specs.Numbers.{place_of, number}
use Rattle.number.specs.Checks.{checked}
use Rattle.number.specs.Patterns.{sign_above, weight_above}

module _ (w t : ℕ) where
  -- the format: base 2, t + 1 digits, Emin = -(2 ^ (w - 1) - 2 + t), Emax = 2 ^ (w - 1) - 1 - t
  abbrev pub format_of : Format
  format_of = record { base = 2; digits = suc t; emin = neg_ℤ (pos (2 ^ (w - 1) - 2 + t)); emax = pos (2 ^ (w - 1) - 1) -ℤ pos t }

  -- ---- the parts of a pattern
  abbrev pub sign_of : ℕ → Bool
  sign_of n = sign_above (w + t) n

  -- what is left without the sign bit
  abbrev pub unsigned_of : ℕ → ℕ
  unsigned_of n = n % 2 ^ (w + t)

  abbrev pub field_of : ℕ → ℕ
  field_of n = n / 2 ^ t % 2 ^ w

  abbrev pub fraction_of : ℕ → ℕ
  fraction_of n = n % 2 ^ t

  -- ---- reading
  -- neither an infinity nor NaN: the field is not all ones
  unfoldable pub finite : ℕ → Bool
  finite n = not (eqb (field_of n) (2 ^ w - 1))

  -- the magnitude in units of the least positive number
  unfoldable pub magnitude_read : ℕ → ℕ
  magnitude_read n = cond (eqb (field_of n) 0) (fraction_of n) ((2 ^ t + fraction_of n) * 2 ^ (field_of n - 1))

  -- the value of a finite pattern in these units
  unfoldable pub pattern_value : ℕ → ℤ
  pattern_value n = signed (sign_of n) (magnitude_read n)

  -- the number that a finite pattern stands for; the sign bit alone is minus zero
  unfoldable pub number_read : ℕ → Number
  number_read n = number format_of (sign_of n) (magnitude_read n)

  -- the answer of reading
  unfoldable pub pattern_read : ℕ → Given Number
  pattern_read n = unless (finite n) (refused 9) (gives (number_read n))

  -- ---- writing
  -- sign, place and significand; the leading digit of a normal number adds one to the field
  unfoldable pub pattern_of : Number → ℕ
  pattern_of x = weight_above (w + t) x.negative + place_of format_of x * 2 ^ t + x.significand

  -- the answer of writing
  unfoldable pub pattern_written : Number → Given ℕ
  pattern_written x = checked format_of [] (x ∷ []) (gives (pattern_of x))

  -- ---- order
  -- a pattern as a sign and a number of w + t bits
  abbrev pub signed_pattern : ℕ → ℤ
  signed_pattern n = signed (sign_of n) (unsigned_of n)
