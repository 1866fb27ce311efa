-- The four operations, the fraction and the conversion on what has passed the checks: the exact result in units of β ^ Emin, rounded once.
-- The answers of the calls are these with their marks (`Marked`, `Quotients`).
use Rattle.std.specs.Prelude.{ℕ, ◌*◌, ◌^◌, Bool, true, false, not, cond, eqb, ℤ, nat_abs, ◌+ℤ◌, ◌-ℤ◌}
use Rattle.std.specs.Bool.{xor, beq}
use Rattle.theory.specs.Round.{round}
use Rattle.theory.specs.declared.Direction.{Direction}
use Rattle.theory.specs.declared.Direction.TheVariants.{NearestEven, NearestAway, TowardZero, Upward, Downward}
use Rattle.theory.specs.Signed.{is_negative, sign_or}
use Rattle.format.specs.declared.Format.{Format}
use Rattle.format.specs.Given.{Given, refused}
use Rattle.number.specs.declared.Number.{Number}
use Rattle.number.specs.Exponents.{above_zero, below_zero}
use Rattle.number.specs.Numbers.{magnitude, value, delivered}

-- ---- an exact result, rounded among the numbers of the wide format; refusal 5 above the greatest number of the format
-- ± N / D units
unfoldable pub rounded : Format → Direction → (negative : Bool) (N D : ℕ) → Given Number
rounded f d negative N D = delivered f negative (round f.base f.digits d negative N D)

-- z units; where they are none, zero has the sign that is handed over
unfoldable pub rounded_z : Format → Direction → (none : Bool) → ℤ → Given Number
rounded_z f d none z = rounded f d (sign_or none z) (nat_abs z) 1

-- ---- of two numbers of the format
-- the sign of an exact zero sum (IEEE 754, clause 6.3): that of both operands, if they have one sign; else plus, in direction 4 minus
abbrev pub is_downward : Direction → Bool
is_downward NearestEven = false
is_downward NearestAway = false
is_downward TowardZero = false
is_downward Upward = false
is_downward Downward = true

abbrev pub zero_sign : Direction → (s t : Bool) → Bool
zero_sign d s t = cond (beq s t) s (is_downward d)

abbrev pub rounded_sum : Format → Direction → (a b : Number) → Given Number
rounded_sum f d a b = rounded_z f d (zero_sign d a.negative b.negative) (value f a +ℤ value f b)

-- the sum with the second number negated
abbrev pub rounded_difference : Format → Direction → (a b : Number) → Given Number
rounded_difference f d a b = rounded_z f d (zero_sign d a.negative (not b.negative)) (value f a -ℤ value f b)

-- the product of v and w units is v × w × β ^ Emin units
unfoldable pub rounded_product : Format → Direction → (a b : Number) → Given Number
rounded_product f d a b =
    rounded f d (xor a.negative b.negative) (magnitude f a * magnitude f b * f.base ^ above_zero f.emin) (f.base ^ below_zero f.emin)

-- the quotient of v and w units is v / (w × β ^ Emin) units; refusal 4 where the divisor is zero
unfoldable pub rounded_quotient : Format → Direction → (a b : Number) → Given Number
rounded_quotient f d a b =
    cond (eqb (magnitude f b) 0) (refused 4)
    (rounded f d (xor a.negative b.negative) (magnitude f a * f.base ^ below_zero f.emin) (magnitude f b * f.base ^ above_zero f.emin))

-- ---- of two whole numbers
-- n / m is n / (m × β ^ Emin) units; refusal 4 where the denominator m is zero
unfoldable pub rounded_fraction : Format → Direction → (n : ℤ) (m : ℕ) → Given Number
rounded_fraction f d n m =
    cond (eqb m 0) (refused 4)
    (rounded f d (is_negative n) (nat_abs n * f.base ^ below_zero f.emin) (m * f.base ^ above_zero f.emin))

-- ---- of any record, in the format or not
-- ± m × β ^ e is ± m × β ^ (e - Emin) units
unfoldable pub rounded_record : Format → Direction → Number → Given Number
rounded_record f d x =
    rounded f d x.negative (x.significand * f.base ^ above_zero (x.exponent -ℤ f.emin)) (f.base ^ below_zero (x.exponent -ℤ f.emin))
