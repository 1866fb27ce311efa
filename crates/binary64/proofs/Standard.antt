-- Reading and writing are those of lib.Ieee, the kit's own account of IEEE 754: the laws of binary_patterns at lib.Ieee's binary64. An infinity
-- there is refusal 5 here.
use Rattle.theory.proofs.Prelude.{ℕ, ◌^◌, true, ◌≡◌, refl, T}
use lib.Ieee as ieee
use lib.Ieee.{Float, fits, of_bits}
use lib.Ieee.Exact.{HasValue}
use lib.Ieee.Scale as scale
use Rattle.format.specs.Given.{Given, gives, ◌then◌}
use Rattle.number.specs.declared.Number.{Number}
use Rattle.binary_patterns.specs.Patterns.{sign_of, finite, magnitude_read, pattern_of}
use Rattle.binary_patterns.proofs.Standard as general
use Rattle.binary64.specs.Patterns.{binary64_read}
use Rattle.binary64.proofs.Laws.{widths}

pub standard : general.Standard ieee.binary64 11 52
standard = record { unit = refl; leading = refl; sign = refl; endless = refl }

-- a finite pattern's float has the value that we read
pub value_standard : (n : ℕ) → finite 11 52 n ≡ true → HasValue (of_bits ieee.binary64 n) (sign_of 11 52 n) (magnitude_read 11 52 n) (2 ^ 1074)
value_standard n h = general.value_standard standard n h

-- every other pattern is an infinity or NaN there too
pub finite_standard : (n : ℕ) → scale.finite (of_bits ieee.binary64 n) ≡ finite 11 52 n
finite_standard n = general.finite_standard standard n

-- a float's number and its pattern
abbrev pub answered : Float → Given Number
answered x = general.answered ieee.binary64 11 52 x

abbrev pub patterned : Float → Given ℕ
patterned x = general.patterned ieee.binary64 x

-- a finite pattern's float stands for what we read
pub answered_read : (n : ℕ) → finite 11 52 n ≡ true → answered (of_bits ieee.binary64 n) ≡ binary64_read n
answered_read n h = general.answered_read standard n h

-- a float that binary64 holds is written as the number that it stands for
pub patterned_written : (x : Float) → T (fits ieee.binary64 x) → patterned x ≡ (answered x then λ y. gives (pattern_of 11 52 y))
patterned_written x h = general.patterned_written standard widths x h
