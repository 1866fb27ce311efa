-- binary32 patterns: those of 8 exponent bits and 23 fraction bits, with values in units of 2 ^ -149.
use Rattle.std.specs.Prelude.{ℕ, ◌+◌, ◌-◌, ◌%◌, ◌^◌, Bool, not, cond, List, map, leb, ℤ}
use Rattle.format.specs.Given.{Given, gives, ◌then◌}
use Rattle.number.specs.declared.Number.{Number}
use Rattle.binary_patterns.specs.Patterns as binary

-- ---- the parts of a pattern of 32 bits
abbrev pub sign_of : ℕ → Bool
sign_of n = binary.sign_of 8 23 n

abbrev pub field_of : ℕ → ℕ
field_of n = binary.field_of 8 23 n

abbrev pub fraction_of : ℕ → ℕ
fraction_of n = binary.fraction_of 8 23 n

-- ---- reading
-- neither an infinity nor NaN
unfoldable pub finite : ℕ → Bool
unfolding binary.finite
finite n = binary.finite 8 23 n

unfoldable pub not_finite : ℕ → Bool
not_finite n = not (finite n)

-- the magnitude in units of 2 ^ -149
unfoldable pub magnitude_read : ℕ → ℕ
unfolding binary.magnitude_read
magnitude_read n = binary.magnitude_read 8 23 n

-- the value of a finite pattern in units of 2 ^ -149
unfoldable pub pattern_value : ℕ → ℤ
unfolding binary.pattern_value
pattern_value n = binary.pattern_value 8 23 n

abbrev pub pattern_values : List ℕ → List ℤ
pattern_values patterns = map pattern_value patterns

-- the number that a finite pattern stands for; 80000000 (hexadecimal) is minus zero
unfoldable pub number_read : ℕ → Number
unfolding binary.number_read
number_read n = binary.number_read 8 23 n

-- the answer of read_pattern
unfoldable pub pattern_read : ℕ → Given Number
unfolding binary.pattern_read
pattern_read n = binary.pattern_read 8 23 n

-- ---- writing
-- sign, place and significand; the leading digit of a normal number adds one to the field
unfoldable pub pattern_of : Number → ℕ
unfolding binary.pattern_of
pattern_of x = binary.pattern_of 8 23 x

-- the answer of write_pattern
unfoldable pub pattern_written : Number → Given ℕ
unfolding binary.pattern_written
pattern_written x = binary.pattern_written 8 23 x

-- what is given, with its number written
abbrev pub answer_written : Given Number → Given ℕ
answer_written g = g then λ x. gives (pattern_of x)

-- ---- order
-- a whole number that orders the patterns by their values: 2 ^ 31 more than the pattern as a sign and a number of 31 bits
abbrev pub key_of : ℕ → ℕ
key_of n = cond (sign_of n) (2 ^ 31 - n % 2 ^ 31) (2 ^ 31 + n % 2 ^ 31)

-- the pattern with a key that is not 0; that of 2 ^ 31 is plus zero
abbrev pub pattern_of_key : ℕ → ℕ
pattern_of_key k = cond (leb (2 ^ 31) k) (k - 2 ^ 31) (2 ^ 32 - k)
