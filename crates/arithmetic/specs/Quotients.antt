-- The answer of the quotient: the rounded number, its mark, and how many quotient digits were worked out.
use Rattle.std.specs.Prelude.{ℕ, cond, [], ◌∷◌, eqb, ℤ, pos, nat_abs, ◌-ℤ◌}
use Rattle.std.specs.Int.Signed.{lt_z}
use Rattle.theory.specs.declared.Direction.{Direction}
use Rattle.theory.specs.Tests.{◌or◌}
use Rattle.theory.specs.QuotientDigits.{digits_taken, lacking, brought}
use Rattle.format.specs.declared.Format.{Format}
use Rattle.format.specs.Directions.{direction}
use Rattle.format.specs.Given.{Given, gives, ◌then◌}
use Rattle.number.specs.declared.Number.{Number}
use Rattle.number.specs.Checks.{checked}
use Rattle.arithmetic.specs.declared.Rounded.{Rounded}
use Rattle.arithmetic.specs.declared.CountedQuotient.{CountedQuotient}
use Rattle.arithmetic.specs.Marked.{marked_quotient}

-- the number and its mark
abbrev pub without_digits : Given CountedQuotient → Given Rounded
without_digits g = g then (λ (q : CountedQuotient). gives (record { number = q.number; mark = q.mark }))

-- what is given, with a number of digits
abbrev pub with_digits : ℕ → Given Rounded → Given CountedQuotient
with_digits n g = g then (λ (r : Rounded). gives (record { number = r.number; mark = r.mark; digits = n }))

-- ---- the quotient digits of two numbers of the format
-- the significand, brought to p digits
abbrev pub full_significand : Format → Number → ℕ
full_significand f x = brought f.base f.digits x.significand

-- the exponent that goes with it
abbrev pub full_exponent : Format → Number → ℤ
full_exponent f x = x.exponent -ℤ pos (lacking f.base f.digits x.significand)

-- the place of the first digit: the whole-number part of the quotient of the full significands
abbrev pub first_digit_place : Format → (a b : Number) → ℤ
first_digit_place f a b = full_exponent f a -ℤ full_exponent f b

-- the digits from there to Emin; none where the dividend is zero or the place of the first digit lies below Emin
unfoldable pub quotient_digits : Format → (a b : Number) → ℕ
quotient_digits f a b =
    cond (eqb a.significand 0 or lt_z (first_digit_place f a b) f.emin) 0
    (digits_taken f.base f.digits (full_significand f b) (full_significand f a) 0 (nat_abs (first_digit_place f a b -ℤ f.emin)))

abbrev pub counted_quotient : Format → Direction → (a b : Number) → Given CountedQuotient
counted_quotient f d a b = with_digits (quotient_digits f a b) (marked_quotient f d a b)

-- ---- the public call: refusals 1, 2 and 3 come first
unfoldable pub quotient_answer : Format → (d : ℕ) (a b : Number) → Given CountedQuotient
quotient_answer f d a b = checked f (d ∷ []) (a ∷ b ∷ []) (counted_quotient f (direction d) a b)
