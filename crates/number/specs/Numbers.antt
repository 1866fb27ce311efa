-- The numbers of a format, their exact values as whole multiples of β ^ Emin, and the number that has a given value.
use Rattle.std.specs.Prelude.{ℕ, ◌*◌, ◌-◌, ◌/◌, ◌^◌, Bool, leb, ltb, eqb, ℤ, pos, nat_abs, ◌+ℤ◌, ◌-ℤ◌}
use Rattle.std.specs.Int.Signed.{le_z}
use Rattle.theory.specs.Tests.{◌and◌, ◌or◌, unless}
use Rattle.theory.specs.Place as theory
use Rattle.theory.specs.Signed.{signed}
use Rattle.format.specs.declared.Format.{Format}
use Rattle.format.specs.Given.{Given, gives, refused}
use Rattle.format.specs.Formats.{highest_place}
use Rattle.number.specs.declared.Number.{Number}

-- ---- in the format
unfoldable pub equal_z : ℤ → ℤ → Bool
equal_z a b = le_z a b and le_z b a

-- β ^ (p - 1) ≤ m ≤ β ^ p - 1 and Emin ≤ e ≤ Emax
unfoldable pub normal : Format → Number → Bool
normal f x =
    leb (f.base ^ (f.digits - 1)) x.significand and leb x.significand (f.base ^ f.digits - 1)
    and le_z f.emin x.exponent and le_z x.exponent f.emax

-- 1 ≤ m < β ^ (p - 1) and e = Emin
unfoldable pub small : Format → Number → Bool
small f x = leb 1 x.significand and ltb x.significand (f.base ^ (f.digits - 1)) and equal_z x.exponent f.emin

-- m = 0 and e = Emin, with either sign
unfoldable pub is_zero : Format → Number → Bool
is_zero f x = eqb x.significand 0 and equal_z x.exponent f.emin

unfoldable pub member : Format → Number → Bool
member f x = normal f x or small f x or is_zero f x

-- ---- exact values, in units of β ^ Emin
-- e - Emin
abbrev pub place_of : Format → Number → ℕ
place_of f x = nat_abs (x.exponent -ℤ f.emin)

-- m × β ^ (e - Emin)
unfoldable pub magnitude : Format → Number → ℕ
magnitude f x = x.significand * f.base ^ place_of f x

unfoldable pub value : Format → Number → ℤ
value f x = signed x.negative (magnitude f x)

-- (β ^ p - 1) × β ^ Emax
unfoldable pub greatest : Format → ℕ
greatest f = (f.base ^ f.digits - 1) * f.base ^ highest_place f

-- ---- the number with this sign and this magnitude, a magnitude of the wide format; zero keeps its sign too
unfoldable pub number : Format → (negative : Bool) (n : ℕ) → Number
number f negative n =
    record {
      negative = negative;
      significand = n / theory.step f.base f.digits n;
      exponent = f.emin +ℤ pos (theory.place f.base f.digits n);
    }

-- a result of the wide format: a number of the format, or refusal 5 above the greatest
unfoldable pub delivered : Format → (negative : Bool) (n : ℕ) → Given Number
delivered f negative n = unless (leb n (greatest f)) (refused 5) (gives (number f negative n))
