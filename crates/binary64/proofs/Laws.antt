-- Published format 4 is that of 11 exponent bits and 52 fraction bits: the laws of binary_patterns at these widths. What is read is in format
-- 4 and has the pattern's sign and value, patterns and numbers come back, each refusal has its cause, and patterns are in the order of values.
use Rattle.theory.proofs.Prelude.{ℕ, ◌<◌, ◌^◌, ◌*◌, ◌-◌, true, false, ◌≡◌, refl, arith, pos, negsuc, lt_z}
use Rattle.theory.specs.Place.{search_place, place, step}
use Rattle.theory.specs.Signed.{signed}
use Rattle.theory.specs.Tests.{unless}
use Rattle.format.specs.Formats.{admitted}
use Rattle.format.specs.Given.{gives, refused}
use Rattle.format.specs.Published.{binary64, published_format}
use Rattle.format.proofs.Formats.{Admitted, admits}
use Rattle.format.proofs.PublishedFormats.{published_admitted}
use Rattle.number.specs.declared.Number.{Number}
use Rattle.number.specs.Numbers.{member, magnitude, value, number}
use Rattle.number.proofs.Membership.{members}
use Rattle.binary_patterns.specs.Patterns.{format_of, sign_of, field_of, finite, magnitude_read, number_read, pattern_read, pattern_of, signed_pattern}
use Rattle.binary_patterns.proofs.Fields.{Widths}
use Rattle.binary_patterns.proofs.RoundTrips as trips
use Rattle.binary_patterns.proofs.PatternOrder as order
use Rattle.binary64.specs.Patterns.{binary64_read, binary64_written}

-- ---- format 4
pub binary64_format : format_of 11 52 ≡ binary64
binary64_format = refl

pub binary64_admitted : admitted binary64 ≡ true
unfolding published_format
binary64_admitted = published_admitted 4 refl

pub binary64_limits : Admitted binary64
binary64_limits = admits binary64 binary64_admitted

pub widths : Widths 11 52
widths = record { exponent_bits = omega arith; format = binary64_admitted }

-- ---- reading
module _ (n : ℕ) {x : Number} (r : binary64_read n ≡ gives x) where
  pub read_member : member binary64 x ≡ true
  read_member = trips.read_member widths n r

  pub read_value : value binary64 x ≡ signed (sign_of 11 52 n) (magnitude_read 11 52 n)
  read_value = trips.read_value widths n r

  pub read_magnitude : magnitude binary64 x ≡ magnitude_read 11 52 n
  read_magnitude = trips.read_magnitude widths n r

  pub read_sign : x.negative ≡ sign_of 11 52 n
  read_sign = trips.read_sign widths n r

-- it refuses exactly the patterns whose field is all ones, by 9
pub read_refused : (n : ℕ) → field_of 11 52 n ≡ 2047 → binary64_read n ≡ refused 9
read_refused n e = trips.read_refused 11 52 n e

pub refused_endless : (n : ℕ) {k : ℕ} → binary64_read n ≡ refused k → (k ≡ 9) × (field_of 11 52 n ≡ 2047)
refused_endless n h = trips.refused_endless 11 52 n h

-- ---- writing refuses exactly the numbers that are not in the format, by 3
pub written_refused : (x : Number) → member binary64 x ≡ false → binary64_written x ≡ refused 3
written_refused x h = trips.written_refused widths x h

pub refused_outside : (x : Number) {k : ℕ} → binary64_written x ≡ refused k → (k ≡ 3) × (member binary64 x ≡ false)
refused_outside x h = trips.refused_outside widths x h

-- ---- round trips
pub read_written : (n : ℕ) → n < 2 ^ 64 → {x : Number} → binary64_read n ≡ gives x → binary64_written x ≡ gives n
read_written n h r = trips.read_written widths n h r

pub written_made : (x : Number) → member binary64 x ≡ true → binary64_written x ≡ gives (pattern_of 11 52 x)
written_made x h = trips.written_made widths x h

-- what is written has 64 bits
pub pattern_less : (x : Number) → member binary64 x ≡ true → pattern_of 11 52 x < 2 ^ 64
pattern_less x h = trips.pattern_less widths x (members x binary64_limits h)

pub written_read : (x : Number) → member binary64 x ≡ true → binary64_read (pattern_of 11 52 x) ≡ gives x
written_read x h = trips.written_read widths x h

-- ---- order: patterns, taken as a sign and a number of 63 bits, are in the order of their values
module _ (a b : ℕ) {x y : Number} (r : binary64_read a ≡ gives x) (q : binary64_read b ≡ gives y) where
  pub read_order : lt_z (value binary64 x) (value binary64 y) ≡ lt_z (signed_pattern 11 52 a) (signed_pattern 11 52 b)
  read_order = order.read_order widths a b r q

  -- patterns with one value are one, but for those of plus and minus zero
  pub read_unique : a < 2 ^ 64 → b < 2 ^ 64 → value binary64 x ≡ value binary64 y → (magnitude binary64 x ≡ 0 → x.negative ≡ y.negative) → a ≡ b
  read_unique = order.read_unique widths a b r q

-- ---- patterns that IEEE 754 names: minus zero, one, the least and the greatest number, an infinity
pub minus_zero_read : binary64_read (2 ^ 63) ≡ gives (number binary64 true 0)
unfolding pattern_read finite number_read number magnitude_read unless
minus_zero_read = refl

pub minus_zero_written : binary64_written (number binary64 true 0) ≡ gives (2 ^ 63)
minus_zero_written = read_written (2 ^ 63) (omega arith) minus_zero_read

pub one_read : binary64_read (1023 * 2 ^ 52) ≡ gives (record { negative = false; significand = 2 ^ 52; exponent = negsuc 51 })
unfolding pattern_read finite number_read number magnitude_read unless place search_place step
one_read = refl

pub least_read : binary64_read 1 ≡ gives (record { negative = false; significand = 1; exponent = negsuc 1073 })
unfolding pattern_read finite number_read number magnitude_read unless place search_place step
least_read = refl

pub greatest_read : binary64_read (2047 * 2 ^ 52 - 1) ≡ gives (record { negative = false; significand = 2 ^ 53 - 1; exponent = pos 971 })
unfolding pattern_read finite number_read number magnitude_read unless place search_place step
greatest_read = refl

pub infinity_refused : binary64_read (2047 * 2 ^ 52) ≡ refused 9
unfolding pattern_read finite unless
infinity_refused = refl
