-- The admitted formats, and what is prepared from one.
use Rattle.std.specs.Prelude.{ℕ, ◌^◌, ◌-◌, ◌≤◌, ◌≡◌, Bool, leb, ℤ, pos, negsuc, nat_abs, ◌-ℤ◌, Result, Ok, Err}
use Rattle.std.specs.Int.Signed.{le_z}
use Rattle.theory.specs.Tests.{◌and◌, unless}
use Rattle.format.specs.declared.Format.{Format}
use Rattle.format.specs.declared.Scale.{Scale}
use Rattle.format.specs.declared.Prepared.{Prepared}
use Rattle.format.specs.declared.Refusal.{Refusal}
use Rattle.format.specs.declared.Refusal.TheVariants.{FormatNotAdmitted}
use Rattle.format.specs.Given.{Given, gives, refused}

-- what no power of an admitted format exceeds
abbrev pub greatest_power : ℕ
greatest_power = 2 ^ 63

-- -1200 ≤ Emin ≤ Emax ≤ 1200
unfoldable pub exponents_admitted : (emin emax : ℤ) → Bool
exponents_admitted emin emax = le_z (negsuc 1199) emin and le_z emin emax and le_z emax (pos 1200)

-- 2 ≤ β ≤ 256, 1 ≤ p ≤ 63, β ^ p ≤ 2 ^ 63, and the exponents
unfoldable pub admitted : Format → Bool
admitted f =
    leb 2 f.base and leb f.base 256
    and leb 1 f.digits and leb f.digits 63
    and leb (f.base ^ f.digits) greatest_power
    and exponents_admitted f.emin f.emax

-- the answer of check_format
unfoldable pub format_checked : Format → Given Unit
format_checked f = unless (admitted f) (refused 1) (gives tt)

-- ---- what the calls work out of a format before all else
abbrev pub scale_of : Format → Scale
scale_of f = record { base = f.base; digits = f.digits; least = f.base ^ (f.digits - 1); bound = f.base ^ f.digits }

-- the highest place: Emax - Emin
abbrev pub highest_place : Format → ℕ
highest_place f = nat_abs (f.emax -ℤ f.emin)

abbrev pub prepared_of : Format → Prepared
prepared_of f = record { format = f; scale = scale_of f; highest = highest_place f }

unfoldable pub preparation : Format → Result Prepared Refusal
preparation f = unless (admitted f) (Err FormatNotAdmitted) (Ok (prepared_of f))

-- a scale of a format whose powers are within a limit
pub record ScaledWithin (limit : ℕ) (s : Scale) : Type 0 where
  pub base_least : 2 ≤ s.base
  pub base_most : s.base ≤ 256
  pub digits_least : 1 ≤ s.digits
  pub least_power : s.least ≡ s.base ^ (s.digits - 1)
  pub bound_power : s.bound ≡ s.base ^ s.digits
  pub bound_most : s.bound ≤ limit

-- a scale that an admitted format can have
abbrev pub Scaled : Scale → Type 0
Scaled = ScaledWithin greatest_power
