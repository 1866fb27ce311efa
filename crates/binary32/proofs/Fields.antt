-- Published format 2 is that of 8 exponent bits and 23 fraction bits, and what the parts of a pattern say.
use Rattle.theory.proofs.Prelude.{ℕ, ◌<◌, ◌^◌, ◌*◌, ◌-◌, true, false, ◌≡◌, refl, arith}
use Rattle.theory.specs.Place.{Positional}
use Rattle.theory.specs.Wide.{Canonical}
use Rattle.format.specs.Formats.{admitted}
use Rattle.format.specs.Published.{binary32, published_format}
use Rattle.format.proofs.Formats.{Admitted, admits, positional}
use Rattle.format.proofs.PublishedFormats.{published_admitted}
use Rattle.binary_patterns.specs.Patterns.{format_of}
use Rattle.binary_patterns.proofs.Fields as fields
use Rattle.binary32.specs.Patterns.{field_of, fraction_of, finite, magnitude_read}

-- ---- format 2
pub binary32_format : format_of 8 23 ≡ binary32
binary32_format = refl

pub binary32_admitted : admitted binary32 ≡ true
unfolding published_format
binary32_admitted = published_admitted 2 refl

pub binary32_limits : Admitted binary32
binary32_limits = admits binary32 binary32_admitted

pub binary_24 : Positional 2 24
binary_24 = positional binary32_limits

pub widths : fields.Widths 8 23
widths = record { exponent_bits = omega arith; format = binary32_admitted }

-- ---- a significand and a place for each pattern
abbrev pub significand_of : (field fraction : ℕ) → ℕ
significand_of field fraction = fields.significand_of 23 field fraction

pub significand_canonical : (field : ℕ) {fraction : ℕ} → fraction < 2 ^ 23 → Canonical 2 24 (significand_of field fraction) (field - 1)
significand_canonical field h = fields.significand_canonical 23 field h

pub magnitude_is : (n : ℕ) → magnitude_read n ≡ significand_of (field_of n) (fraction_of n) * 2 ^ (field_of n - 1)
unfolding magnitude_read
magnitude_is n = fields.magnitude_is 8 23 n

pub finite_field : (n : ℕ) → finite n ≡ true → field_of n < 255
unfolding finite
finite_field n h = omega (arith, fields.finite_field 8 23 n h)

pub endless_field : (n : ℕ) → finite n ≡ false → field_of n ≡ 255
unfolding finite
endless_field n h = fields.endless_field 8 23 n h
