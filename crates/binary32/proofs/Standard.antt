-- Reading is that of lib.Ieee, the kit's own account of IEEE 754: the laws of binary_patterns at lib.Ieee's binary32.
use Rattle.theory.proofs.Prelude.{ℕ, ◌^◌, true, ◌≡◌, refl}
use lib.Ieee as ieee
use lib.Ieee.{of_bits}
use lib.Ieee.Exact.{HasValue}
use lib.Ieee.Scale as scale
use Rattle.binary_patterns.proofs.Standard as general
use Rattle.binary32.specs.Patterns.{sign_of, finite, magnitude_read}

pub standard : general.Standard ieee.binary32 8 23
standard = record { unit = refl; leading = refl; sign = refl; endless = refl }

-- a finite pattern's float has the value that we read
pub value_standard : (n : ℕ) → finite n ≡ true → HasValue (of_bits ieee.binary32 n) (sign_of n) (magnitude_read n) (2 ^ 149)
unfolding finite magnitude_read
value_standard n h = general.value_standard standard n h

-- every other pattern is an infinity or NaN there too
pub finite_standard : (n : ℕ) → scale.finite (of_bits ieee.binary32 n) ≡ finite n
unfolding finite
finite_standard n = general.finite_standard standard n
