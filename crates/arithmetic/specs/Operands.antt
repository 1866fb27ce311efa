-- Numbers of a format as the wide format's arithmetic takes them.
use Rattle.std.specs.Prelude.{◌+◌, Bool, cond, eqb, ℤ, ◌-ℤ◌}
use Rattle.format.specs.declared.Format.{Format}
use Rattle.number.specs.declared.Number.{Number}
use Rattle.number.specs.Numbers.{place_of}
use Rattle.number.specs.Exponents.{above_zero, below_zero}
use Rattle.rounding.specs.declared.Wide.{Wide}
use Rattle.rounding.specs.declared.Rounding.{Rounding}
use Rattle.arithmetic.specs.declared.operands.Powers.{Powers}

-- the same sign and significand, with the place in units of β ^ Emin
abbrev pub wide_of : Format → Number → Wide
wide_of f x = record { negative = x.negative; significand = x.significand; place = place_of f x }

-- the powers of β beside the product of the significands and beside their quotient, in units of β ^ Emin
abbrev pub product_powers : Format → (a b : Number) → Powers
product_powers f a b = record { up = place_of f a + place_of f b + above_zero f.emin; down = below_zero f.emin }

abbrev pub quotient_powers : Format → (a b : Number) → Powers
quotient_powers f a b = record { up = place_of f a + below_zero f.emin; down = place_of f b + above_zero f.emin }

-- and beside the significand of a record with the exponent e
abbrev pub record_powers : Format → (e : ℤ) → Powers
record_powers f e = record { up = above_zero (e -ℤ f.emin); down = below_zero (e -ℤ f.emin) }

-- a result whose zero has this sign
abbrev pub zero_signed : Bool → Rounding → Rounding
zero_signed none r =
    record {
      wide = record { negative = cond (eqb r.wide.significand 0) none r.wide.negative; significand = r.wide.significand; place = r.wide.place };
      mark = r.mark;
    }
