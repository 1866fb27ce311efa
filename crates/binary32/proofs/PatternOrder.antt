-- The order law of binary_patterns at 8 and 23 bits: the values of patterns are in the order of the patterns, taken as a sign and a number
-- of 31 bits.
use Rattle.theory.proofs.Prelude.{ℕ, ◌≤◌, ◌<◌, ◌^◌, ◌%◌, ◌≡◌, ℤ, lt_z}
use Rattle.format.specs.Given.{gives}
use Rattle.format.specs.Published.{binary32}
use Rattle.number.specs.declared.Number.{Number}
use Rattle.number.specs.Numbers.{value, magnitude}
use Rattle.binary_patterns.specs.Patterns as binary
use Rattle.binary_patterns.proofs.PatternOrder as order
use Rattle.binary32.specs.Patterns.{magnitude_read, pattern_value, pattern_read}
use Rattle.binary32.proofs.Fields.{widths}

-- a pattern as a sign and a number of 31 bits
abbrev pub signed_pattern : ℕ → ℤ
signed_pattern n = binary.signed_pattern 8 23 n

module _ (a b : ℕ) where
  -- the greater of two numbers of 31 bits has the greater magnitude
  pub magnitude_less : a % 2 ^ 31 < b % 2 ^ 31 → magnitude_read a < magnitude_read b
  unfolding magnitude_read
  magnitude_less h = order.magnitude_less 8 23 a b h

  pub magnitude_most : a % 2 ^ 31 ≤ b % 2 ^ 31 → magnitude_read a ≤ magnitude_read b
  unfolding magnitude_read
  magnitude_most h = order.magnitude_most 8 23 a b h

  -- the order of the values is that of the patterns
  pub values_order : lt_z (pattern_value a) (pattern_value b) ≡ lt_z (signed_pattern a) (signed_pattern b)
  unfolding pattern_value
  values_order = order.values_order 8 23 a b

module _ (a b : ℕ) {x y : Number} (r : pattern_read a ≡ gives x) (q : pattern_read b ≡ gives y) where
  pub read_order : lt_z (value binary32 x) (value binary32 y) ≡ lt_z (signed_pattern a) (signed_pattern b)
  unfolding pattern_read
  read_order = order.read_order widths a b r q

  -- patterns with one value are one, but for those of plus and minus zero
  pub read_unique : a < 2 ^ 32 → b < 2 ^ 32 → value binary32 x ≡ value binary32 y → (magnitude binary32 x ≡ 0 → x.negative ≡ y.negative) → a ≡ b
  unfolding pattern_read
  read_unique = order.read_unique widths a b r q
