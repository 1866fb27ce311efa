-- The values of patterns are in the order of the patterns, taken as a sign and a number of w + t bits: different patterns have
-- different values, but for those of plus and minus zero.
use Rattle.theory.proofs.Prelude.{ℕ, ◌≤◌, ◌<◌, ◌+◌, ◌^◌, ◌*◌, ◌-◌, suc, zero, ◌%◌, cond, ⊎_elim, ◌∙◌, ap, ◌≡◌, sym, ap₂, dec_le, mul-le-mul_right, mul-le-mul_left, mul-lt-mul_of_pos_right, eq-or-lt_of_le, arith, eqb, lt_z, ne_eqb}
use native.Mathlib.Nat.{suc-mul, mod-eq_of_lt, div-eq_of_lt}
use Rattle.theory.proofs.Powers.{pow_pos, pow_half}
use Rattle.theory.proofs.Order.{Ordered, signed_order}
use Rattle.format.specs.Given.{gives}
use Rattle.format.proofs.GivenLaws.{gives_same}
use Rattle.number.specs.declared.Number.{Number}
use Rattle.number.specs.Numbers.{value, magnitude}
use Rattle.number.proofs.Values.{member_unique}
use Rattle.binary_patterns.specs.Patterns.{format_of, sign_of, unsigned_of, field_of, fraction_of, magnitude_read, pattern_value, pattern_read, pattern_written, signed_pattern}
use Rattle.binary_patterns.proofs.Fields.{Widths, limits, fraction_less, unsigned_parts}
use Rattle.binary_patterns.proofs.RoundTrips.{reads, read_inside, read_value, read_written}

-- ---- magnitudes
module _ (t : ℕ) where
  abbrev size_of : (E F : ℕ) → ℕ
  size_of E F = cond (eqb E 0) F ((2 ^ t + F) * 2 ^ (E - 1))

  size_normal : (E F : ℕ) → size_of (suc E) F ≡ (2 ^ t + F) * 2 ^ E
  size_normal E F = rw (ne_eqb (suc E) 0 (λ e. omega arith)) (ap (λ (i : ℕ). (2 ^ t + F) * 2 ^ i) (omega arith))

  -- a greater fraction, or a greater field
  greater_fraction : (E : ℕ) {F F' : ℕ} → F < F' → size_of E F < size_of E F'
  greater_fraction zero h = h
  greater_fraction (suc E) {F} {F'} h =
      rw (size_normal E F, size_normal E F') (mul-lt-mul_of_pos_right (omega arith) (pow_pos (omega arith) E))

  greater_field : (E E' : ℕ) {F : ℕ} (F' : ℕ) → F < 2 ^ t → E < E' → size_of E F < size_of E' F'
  greater_field E zero F' f h = absurd (omega arith)
  greater_field zero (suc E') F' f h = rw (size_normal E' F') (omega (arith, mul-le-mul_left (2 ^ t + F') (pow_pos {β = 2} (omega arith) E')))
  greater_field (suc E) (suc E') {F} F' f h =
      let below : (2 ^ t + F) * 2 ^ E < 2 * 2 ^ t * 2 ^ E = mul-lt-mul_of_pos_right (omega arith) (pow_pos {β = 2} (omega arith) E) in
      let between : 2 ^ t * (2 * 2 ^ E) ≤ 2 ^ t * 2 ^ E' = mul-le-mul_left (2 ^ t) (pow_half {β = 2} (omega arith) (omega arith)) in
      let beyond : 2 ^ t * 2 ^ E' ≤ (2 ^ t + F') * 2 ^ E' = mul-le-mul_right (2 ^ E') (omega arith) in
      rw (size_normal E F, size_normal E' F') (omega arith)

-- the field and the fraction of the greater of two numbers, E * T + F < E' * T + F'
module _ {T E F E' F' : ℕ} (f : F < T) (f' : F' < T) where
  fields_order : E * T + F < E' * T + F' → E ≤ E'
  fields_order h = by (dec_le E E')
    where
      by : Dec (E ≤ E') → E ≤ E'
      by (yes l) = l
      by (no l) = absurd (let more : suc E' * T ≤ E * T = mul-le-mul_right T (omega arith) in omega (arith, suc-mul E' T))

  fields_same : E * T + F ≡ E' * T + F' → E ≡ E'
  fields_same h = by (dec_le E E') (dec_le E' E)
    where
      by : Dec (E ≤ E') → Dec (E' ≤ E) → E ≡ E'
      by (yes l) (yes m) = omega arith
      by (no l) m = absurd (let more : suc E' * T ≤ E * T = mul-le-mul_right T (omega arith) in omega (arith, suc-mul E' T))
      by (yes l) (no m) = absurd (let more : suc E * T ≤ E' * T = mul-le-mul_right T (omega arith) in omega (arith, suc-mul E T))

module _ (w t a b : ℕ) where
  -- the pattern that is greater without its sign has the greater magnitude
  pub magnitude_less : unsigned_of w t a < unsigned_of w t b → magnitude_read w t a < magnitude_read w t b
  unfolding magnitude_read
  magnitude_less h = ⊎_elim same less (eq-or-lt_of_le (fields_order (fraction_less w t a) (fraction_less w t b) parts))
    where
      parts : field_of w t a * 2 ^ t + fraction_of w t a < field_of w t b * 2 ^ t + fraction_of w t b
      parts = omega (arith, unsigned_parts w t a, unsigned_parts w t b)

      same : field_of w t a ≡ field_of w t b → magnitude_read w t a < magnitude_read w t b
      same e = rw e (greater_fraction t (field_of w t b) (omega (arith, parts, ap (λ (E : ℕ). E * 2 ^ t) e)))

      less : field_of w t a < field_of w t b → magnitude_read w t a < magnitude_read w t b
      less l = greater_field t (field_of w t a) (field_of w t b) (fraction_of w t b) (fraction_less w t a) l

  pub magnitude_same : unsigned_of w t a ≡ unsigned_of w t b → magnitude_read w t a ≡ magnitude_read w t b
  unfolding magnitude_read
  magnitude_same h =
      let parts : field_of w t a * 2 ^ t + fraction_of w t a ≡ field_of w t b * 2 ^ t + fraction_of w t b = omega (arith, unsigned_parts w t a, unsigned_parts w t b) in
      let field : field_of w t a ≡ field_of w t b = fields_same (fraction_less w t a) (fraction_less w t b) parts in
      let fraction : fraction_of w t a ≡ fraction_of w t b = omega (arith, ap (λ (E : ℕ). E * 2 ^ t) field) in
      rw (field, fraction)

  pub magnitude_most : unsigned_of w t a ≤ unsigned_of w t b → magnitude_read w t a ≤ magnitude_read w t b
  magnitude_most h = ⊎_elim (λ e. omega (arith, magnitude_same e)) (λ l. omega (arith, magnitude_less l)) (eq-or-lt_of_le h)

-- ---- values
module _ (w t : ℕ) where
  -- the least pattern is that of zero
  nothing : unsigned_of w t 0 ≡ 0
  nothing = mod-eq_of_lt (pow_pos {β = 2} (omega arith) (w + t))

  no_magnitude : magnitude_read w t 0 ≡ 0
  unfolding magnitude_read
  no_magnitude =
      let fraction : fraction_of w t 0 ≡ 0 = mod-eq_of_lt (pow_pos {β = 2} (omega arith) t) in
      let field : field_of w t 0 ≡ 0 =
      ap (λ (m : ℕ). m % 2 ^ w) (div-eq_of_lt (pow_pos {β = 2} (omega arith) t)) ∙ mod-eq_of_lt (pow_pos {β = 2} (omega arith) w) in
      rw (field, fraction)

  pub magnitudes_ordered : (a b : ℕ) → Ordered (unsigned_of w t a) (unsigned_of w t b) (magnitude_read w t a) (magnitude_read w t b)
  magnitudes_ordered a b =
      record {
        less = magnitude_less w t a b;
        most = magnitude_most w t a b;
        more = magnitude_less w t b a;
        least = magnitude_most w t b a;
        none = λ h. omega (arith, magnitude_most w t a 0 (omega (arith, nothing)), magnitude_most w t b 0 (omega (arith, nothing)), no_magnitude);
        some = λ h. positive h (dec_le 1 (unsigned_of w t a));
      }
    where
      positive : 0 < unsigned_of w t a + unsigned_of w t b → Dec (1 ≤ unsigned_of w t a) → 0 < magnitude_read w t a + magnitude_read w t b
      positive h (yes l) = omega (arith, magnitude_less w t 0 a (omega (arith, nothing)))
      positive h (no l) = omega (arith, magnitude_less w t 0 b (omega (arith, nothing)))

  pub values_order : (a b : ℕ) → lt_z (pattern_value w t a) (pattern_value w t b) ≡ lt_z (signed_pattern w t a) (signed_pattern w t b)
  unfolding pattern_value
  values_order a b = signed_order (magnitudes_ordered a b) (sign_of w t a) (sign_of w t b)

module _ {w t : ℕ} (l : Widths w t) (a b : ℕ) {x y : Number} (r : pattern_read w t a ≡ gives x) (q : pattern_read w t b ≡ gives y) where
  -- the order of the values is that of the patterns
  pub read_order : lt_z (value (format_of w t) x) (value (format_of w t) y) ≡ lt_z (signed_pattern w t a) (signed_pattern w t b)
  read_order = ap₂ lt_z (read_value l a r) (read_value l b q) ∙ signed_order (magnitudes_ordered w t a b) (sign_of w t a) (sign_of w t b)

  -- patterns with one value are one, but for those of plus and minus zero
  pub read_unique : a < 2 ^ suc (w + t) → b < 2 ^ suc (w + t) → value (format_of w t) x ≡ value (format_of w t) y
      → (magnitude (format_of w t) x ≡ 0 → x.negative ≡ y.negative) → a ≡ b
  read_unique ha hb e z =
      let same : x ≡ y = member_unique (limits l) (read_inside l a (reads w t a r)) (read_inside l b (reads w t b q)) e z in
      gives_same (sym (read_written l a ha r) ∙ ap (pattern_written w t) same ∙ read_written l b hb q)
