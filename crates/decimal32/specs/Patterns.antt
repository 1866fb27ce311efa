-- decimal32 patterns in the decimal encoding, IEEE 754 clause 3.5.2: what a pattern stands for, as an exact value in units of
-- 10 ^ -101, and how a number is written. The bits: a sign, the combination field of 5 + 6 bits, two declets.
use Rattle.std.specs.Prelude.{ℕ, ◌+◌, ◌*◌, ◌-◌, ◌/◌, ◌%◌, ◌^◌, Bool, cond, [], ◌∷◌, leb, ltb}
use Rattle.theory.specs.Tests.{unless}
use Rattle.format.specs.Given.{Given, gives, refused}
use Rattle.format.specs.Published.{decimal32}
use Rattle.number.specs.declared.Number.{Number}
use Rattle.number.specs.Numbers.{place_of, number}
use Rattle.number.specs.Checks.{checked}
use Rattle.number.specs.Patterns.{sign_above, weight_above}
use Rattle.decimal32.specs.Declets.{declet_value, declet_for}

-- ---- the parts of a pattern of 32 bits
abbrev pub sign_of : ℕ → Bool
sign_of n = sign_above 31 n

abbrev pub sign_weight : (negative : Bool) → ℕ
sign_weight negative = weight_above 31 negative

-- the first five bits of the combination field, 30 to 26, and its other six, 25 to 20
abbrev pub five_of : ℕ → ℕ
five_of n = n / 2 ^ 26 % 2 ^ 5

abbrev pub six_of : ℕ → ℕ
six_of n = n / 2 ^ 20 % 2 ^ 6

-- the declets of the trailing significand, bits 19 to 10 and 9 to 0
abbrev pub first_declet : ℕ → ℕ
first_declet n = n / 2 ^ 10 % 2 ^ 10

abbrev pub second_declet : ℕ → ℕ
second_declet n = n % 2 ^ 10

-- ---- the five bits: 11110 is an infinity and 11111 NaN; 11ttd is the leading digit 8 + d, and any other ttddd the digit ddd;
-- tt are the two highest bits of the exponent
abbrev pub leading_digit : (five : ℕ) → ℕ
leading_digit five = cond (leb 24 five) (8 + five % 2) (five % 8)

abbrev pub high_bits : (five : ℕ) → ℕ
high_bits five = cond (leb 24 five) (five / 2 % 4) (five / 8)

-- ---- reading
-- neither an infinity nor NaN
unfoldable pub finite : ℕ → Bool
finite n = ltb (five_of n) 30

-- the biased exponent, which is the exponent + 101
unfoldable pub biased_of : ℕ → ℕ
biased_of n = high_bits (five_of n) * 2 ^ 6 + six_of n

-- seven digits
unfoldable pub coefficient_of : ℕ → ℕ
coefficient_of n = leading_digit (five_of n) * 10 ^ 6 + declet_value (first_declet n) * 10 ^ 3 + declet_value (second_declet n)

-- the magnitude in units of 10 ^ -101
unfoldable pub magnitude_read : ℕ → ℕ
magnitude_read n = coefficient_of n * 10 ^ biased_of n

-- the number that a finite pattern stands for
unfoldable pub number_read : ℕ → Number
number_read n = number decimal32 (sign_of n) (magnitude_read n)

-- the answer of read_decimal32
unfoldable pub decimal32_read : ℕ → Given Number
decimal32_read n = unless (finite n) (refused 9) (gives (number_read n))

-- ---- writing
-- the five bits of the exponent's two highest and a leading digit
abbrev pub five_for : (high digit : ℕ) → ℕ
five_for high digit = cond (ltb digit 8) (high * 8 + digit) (24 + high * 2 + (digit - 8))

-- the pattern with this sign, this coefficient and this biased exponent
abbrev pub pattern_at : (negative : Bool) (m k : ℕ) → ℕ
pattern_at negative m k =
    sign_weight negative + five_for (k / 2 ^ 6) (m / 10 ^ 6) * 2 ^ 26 + k % 2 ^ 6 * 2 ^ 20 + declet_for (m / 10 ^ 3 % 10 ^ 3) * 2 ^ 10
    + declet_for (m % 10 ^ 3)

-- the record's own significand and exponent; those of zero are 0 and Emin
unfoldable pub pattern_of : Number → ℕ
pattern_of x = pattern_at x.negative x.significand (place_of decimal32 x)

-- the answer of write_decimal32
unfoldable pub decimal32_written : Number → Given ℕ
decimal32_written x = checked decimal32 [] (x ∷ []) (gives (pattern_of x))
