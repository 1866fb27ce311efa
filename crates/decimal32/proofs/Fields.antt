-- The parts of a pattern: how large each can be.
use Rattle.theory.proofs.Prelude.{ℕ, ◌≤◌, ◌<◌, ◌+◌, ◌^◌, ◌*◌, ◌-◌, ◌/◌, ◌%◌, true, false, Bool, cond, ◌≡◌, refl, arith, leb, ltb, leb-true, leb-false, ltb-true, ltb-false}
use Rattle.format.specs.Formats.{admitted}
use Rattle.format.specs.Published.{decimal32, published_format}
use Rattle.format.proofs.Formats.{Admitted, admits}
use Rattle.format.proofs.PublishedFormats.{published_admitted}
use Rattle.decimal32.specs.Patterns.{five_of, first_declet, second_declet, leading_digit, high_bits, finite, biased_of, coefficient_of, five_for}
use Rattle.decimal32.proofs.DecletLaws.{value_small}

-- ---- format 3
pub decimal32_admitted : admitted decimal32 ≡ true
unfolding published_format
decimal32_admitted = published_admitted 3 refl

pub decimal32_limits : Admitted decimal32
decimal32_limits = admits decimal32 decimal32_admitted

-- ---- the five bits
pub leading_small : (five : ℕ) → leading_digit five < 10
leading_small five = by (leb 24 five)
  where
    by : (t : Bool) → cond t (8 + five % 2) (five % 8) < 10
    by true = omega arith
    by false = omega arith

pub high_small : (n : ℕ) → high_bits (five_of n) < 4
high_small n = by (leb 24 (five_of n)) refl
  where
    by : (t : Bool) → leb 24 (five_of n) ≡ t → cond t (five_of n / 2 % 4) (five_of n / 8) < 4
    by true e = omega arith
    by false e = omega arith

pub finite_five : (n : ℕ) → finite n ≡ true → five_of n < 30
unfolding finite
finite_five n h = ltb-true (five_of n) 30 h

high_finite : (five : ℕ) → five < 30 → high_bits five < 3
high_finite five h = by (leb 24 five) refl
  where
    by : (t : Bool) → leb 24 five ≡ t → cond t (five / 2 % 4) (five / 8) < 3
    by true e = omega (arith, leb-true 24 five e)
    by false e = omega (arith, leb-false 24 five e)

-- ---- the exponent is at most the format's highest
pub biased_most : (n : ℕ) → finite n ≡ true → biased_of n ≤ 191
unfolding biased_of
biased_most n h = omega (arith, high_finite (five_of n) (finite_five n h))

-- ---- the coefficient has seven digits
pub seven_digits : {d a b : ℕ} → d < 10 → a < 1000 → b < 1000 → d * 10 ^ 6 + a * 10 ^ 3 + b < 10 ^ 7
seven_digits h k l = omega arith

pub coefficient_small : (n : ℕ) → coefficient_of n < 10 ^ 7
unfolding coefficient_of
coefficient_small n =
    seven_digits {d = leading_digit (five_of n)} (leading_small (five_of n)) (value_small {n = first_declet n} (omega arith)) (value_small {n = second_declet n} (omega arith))

-- ---- the five bits of a digit and two bits
pub five_fits : {high digit : ℕ} → high < 3 → digit < 10 → five_for high digit < 30
five_fits {high} {digit} h k = by (ltb digit 8) refl
  where
    by : (t : Bool) → ltb digit 8 ≡ t → cond t (high * 8 + digit) (24 + high * 2 + (digit - 8)) < 30
    by true e = omega (arith, ltb-true digit 8 e)
    by false e = omega (arith, ltb-false digit 8 e)
