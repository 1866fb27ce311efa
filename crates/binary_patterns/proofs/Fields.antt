-- The parts of a pattern: how they make it up, and the significand and the place that they stand for.
use Rattle.theory.proofs.Prelude.{ℕ, ◌≤◌, ◌<◌, ◌+◌, ◌^◌, ◌*◌, ◌-◌, suc, zero, ◌%◌, ◌/◌, true, false, Bool, cond, not, inl, inr, ◌∙◌, ap, ◌≡◌, sym, refl, mul-le-mul_right, mod-lt, pow-suc, arith, eqb, pos, neg_ℤ, ◌-ℤ◌, le-leb, lt-leb, leb-true, leb-false, ne_eqb, eqb-true, eqb-false}
use lib.Arith.{digits_div, digits_mod, mod-mul}
use native.Mathlib.Nat.{mod-eq_of_lt, suc-mul}
use Rattle.theory.specs.Place.{Positional}
use Rattle.theory.specs.Wide.{Canonical}
use Rattle.theory.proofs.Integers.{diff_parts, size_parts, neg_above, neg_below}
use Rattle.theory.proofs.Powers.{pow-add, pow_pos, pow_pred, pow_mono}
use Rattle.theory.proofs.Tests.{never, not-true}
use Rattle.format.specs.Formats.{admitted, highest_place}
use Rattle.format.proofs.Formats.{Admitted, admits, positional}
use Rattle.format.proofs.Signed.{apart}
use Rattle.number.specs.Numbers.{number}
use Rattle.number.specs.Patterns.{weight_above}
use Rattle.number.proofs.Values.{written, number_canonical}
use Rattle.binary_patterns.specs.Patterns.{format_of, sign_of, unsigned_of, field_of, fraction_of, finite, magnitude_read, number_read}

-- ---- powers
unit : (k : ℕ) → 1 ≤ 2 ^ k
unit k = pow_pos (omega arith) k

-- the weights of the sign and of the leading digit
pub sign_weight_law : (w t : ℕ) → 2 ^ (w + t) ≡ 2 ^ w * 2 ^ t
sign_weight_law w t = pow-add 2 w t

pub digit_weight : (t : ℕ) → 2 ^ suc t ≡ 2 * 2 ^ t
digit_weight t = omega (arith, pow-suc 2 t)

-- ---- widths whose format is admitted
pub record Widths (w t : ℕ) : Type 0 where
  pub exponent_bits : 2 ≤ w
  pub format : admitted (format_of w t) ≡ true

module _ {w t : ℕ} (l : Widths w t) where
  pub limits : Admitted (format_of w t)
  limits = admits (format_of w t) l.format

  pub digits : Positional 2 (suc t)
  digits = positional limits

  -- the fields 1 to 2 ^ w - 2 are the places 0 to 2 ^ w - 3
  pub highest : highest_place (format_of w t) + 3 ≡ 2 ^ w
  highest =
      let half : ℕ = 2 ^ (w - 1) in
      let low : ℕ = half - 2 + t in
      let emin = neg_ℤ (pos low) in
      let emax = pos (half - 1) -ℤ pos t in
      let halves : 2 ^ w ≡ 2 * half = pow_pred 2 (omega (arith, l.exponent_bits)) in
      let more : 2 ^ 1 ≤ half = pow_mono {β = 2} (omega arith) {i = 1} {j = w - 1} (omega (arith, l.exponent_bits)) in
      omega (arith, size_parts (emax -ℤ emin), diff_parts emax emin, diff_parts (pos (half - 1)) (pos t), neg_above (pos low), neg_below (pos low), apart emax, apart (emax -ℤ emin))

-- ---- taken apart
-- the parts of a pattern n
pub record Parts (w t : ℕ) (s : Bool) (E F n : ℕ) : Type 0 where
  pub sign : sign_of w t n ≡ s
  pub field : field_of w t n ≡ E
  pub fraction : fraction_of w t n ≡ F

module _ (w t : ℕ) where
  pub fraction_less : (n : ℕ) → fraction_of w t n < 2 ^ t
  fraction_less n = mod-lt n (unit t)

  pub field_less : (n : ℕ) → field_of w t n < 2 ^ w
  field_less n = mod-lt (n / 2 ^ t) (unit w)

  -- the field and the fraction are all but the sign
  pub unsigned_parts : (n : ℕ) → unsigned_of w t n ≡ field_of w t n * 2 ^ t + fraction_of w t n
  unsigned_parts n = ap (λ (m : ℕ). n % m) (sign_weight_law w t) ∙ mod-mul n (unit w) (unit t)

  -- and with the sign they are the pattern
  pub parts_joined : (n : ℕ) → n < 2 ^ suc (w + t) → weight_above (w + t) (sign_of w t n) + (field_of w t n * 2 ^ t + fraction_of w t n) ≡ n
  parts_joined n h = by (sign_of w t n) refl
    where
      by : (s : Bool) → sign_of w t n ≡ s → weight_above (w + t) s + (field_of w t n * 2 ^ t + fraction_of w t n) ≡ n
      by true e =
          let least : 2 ^ (w + t) ≤ n = leb-true (2 ^ (w + t)) n e in
          let split : 1 * 2 ^ (w + t) + (n - 2 ^ (w + t)) ≡ n = omega arith in
          let rest : n % 2 ^ (w + t) ≡ n - 2 ^ (w + t) =
          ap (λ (m : ℕ). m % 2 ^ (w + t)) (sym split) ∙ digits_mod 1 (omega (arith, digit_weight (w + t))) in
          omega (arith, unsigned_parts n)
      by false e = omega (arith, unsigned_parts n, mod-eq_of_lt (leb-false (2 ^ (w + t)) n e))

  -- parts put together come back
  pub parts : (s : Bool) {E F : ℕ} → E < 2 ^ w → F < 2 ^ t → Parts w t s E F (weight_above (w + t) s + (E * 2 ^ t + F))
  parts true {E} {F} e f =
      let whole : 2 ^ (w + t) + (E * 2 ^ t + F) ≡ (1 * 2 ^ w + E) * 2 ^ t + F = omega (arith, sign_weight_law w t) in
      record {
        sign = le-leb (2 ^ (w + t)) (2 ^ (w + t) + (E * 2 ^ t + F)) (omega arith);
        field = ap (λ (m : ℕ). m / 2 ^ t % 2 ^ w) whole ∙ ap (λ (m : ℕ). m % 2 ^ w) (digits_div (1 * 2 ^ w + E) f) ∙ digits_mod 1 e;
        fraction = ap (λ (m : ℕ). m % 2 ^ t) whole ∙ digits_mod (1 * 2 ^ w + E) f;
      }
  parts false {E} {F} e f =
      let whole : 0 + (E * 2 ^ t + F) ≡ E * 2 ^ t + F = omega arith in
      record {
        sign = lt-leb (2 ^ (w + t)) (0 + (E * 2 ^ t + F)) (omega (arith, sign_weight_law w t, mul-le-mul_right (2 ^ t) e));
        field = ap (λ (m : ℕ). m / 2 ^ t % 2 ^ w) whole ∙ ap (λ (m : ℕ). m % 2 ^ w) (digits_div E f) ∙ mod-eq_of_lt e;
        fraction = ap (λ (m : ℕ). m % 2 ^ t) whole ∙ digits_mod E f;
      }

-- ---- a significand and a place for each pattern
abbrev pub significand_of : (t field fraction : ℕ) → ℕ
significand_of t field fraction = cond (eqb field 0) fraction (2 ^ t + fraction)

pub significand_canonical : (t field : ℕ) {fraction : ℕ} → fraction < 2 ^ t → Canonical 2 (suc t) (significand_of t field fraction) (field - 1)
significand_canonical t zero h = record { small = omega (arith, digit_weight t); normal = inl (omega arith) }
significand_canonical t (suc field) {fraction} h =
    rw (ne_eqb (suc field) 0 (λ e. omega arith)) (record { small = omega (arith, digit_weight t); normal = inr (omega (arith, digit_weight t)) })

-- the leading digit adds one to the field
pub joined : (t E F : ℕ) → (E - 1) * 2 ^ t + significand_of t E F ≡ E * 2 ^ t + F
joined t zero F = omega arith
joined t (suc E) F = let place : suc E - 1 ≡ E = omega arith in rw (ne_eqb (suc E) 0 (λ e. omega arith), place) (omega (arith, suc-mul E (2 ^ t)))

module _ (w t n : ℕ) where
  pub pattern_canonical : Canonical 2 (suc t) (significand_of t (field_of w t n) (fraction_of w t n)) (field_of w t n - 1)
  pattern_canonical = significand_canonical t (field_of w t n) (fraction_less w t n)

  pub magnitude_is : magnitude_read w t n ≡ significand_of t (field_of w t n) (fraction_of w t n) * 2 ^ (field_of w t n - 1)
  unfolding magnitude_read
  magnitude_is = by (field_of w t n) (fraction_of w t n)
    where
      by : (E F : ℕ) → cond (eqb E 0) F ((2 ^ t + F) * 2 ^ (E - 1)) ≡ cond (eqb E 0) F (2 ^ t + F) * 2 ^ (E - 1)
      by zero F = omega arith
      by (suc E) F = rw (ne_eqb (suc E) 0 (λ e. omega arith))

  -- ---- a pattern is finite exactly if its field is not all ones
  pub finite_field : finite w t n ≡ true → suc (field_of w t n) < 2 ^ w
  unfolding finite
  finite_field h = omega (arith, field_less w t n, eqb-false (field_of w t n) (2 ^ w - 1) (not-true h))

  pub endless_field : finite w t n ≡ false → field_of w t n ≡ 2 ^ w - 1
  unfolding finite
  endless_field h = by (eqb (field_of w t n) (2 ^ w - 1)) refl h
    where
      by : (b : Bool) → eqb (field_of w t n) (2 ^ w - 1) ≡ b → not b ≡ false → field_of w t n ≡ 2 ^ w - 1
      by true e k = eqb-true (field_of w t n) (2 ^ w - 1) e
      by false e k = absurd (never k)

  pub finite_made : suc (field_of w t n) < 2 ^ w → finite w t n ≡ true
  unfolding finite
  finite_made h = rw (ne_eqb (field_of w t n) (2 ^ w - 1) (λ e. omega arith))

-- what is read, as it is written
pub number_read_law : {w t : ℕ} → Widths w t → (n : ℕ)
    → number_read w t n ≡ written (format_of w t) (sign_of w t n) (significand_of t (field_of w t n) (fraction_of w t n)) (field_of w t n - 1)
unfolding number_read
number_read_law {w} {t} l n =
    ap (number (format_of w t) (sign_of w t n)) (magnitude_is w t n)
    ∙ number_canonical (limits l) (pattern_canonical w t n) (sign_of w t n)
