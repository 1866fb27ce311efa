-- Canonical patterns: those that are written, and each comes back when it is read and written. The clause calls a pattern canonical for
-- its declets alone; here its coefficient has all seven digits too, unless the exponent is the least.
use Rattle.theory.proofs.Prelude.{ℕ, ◌<◌, ◌+◌, ◌^◌, ◌*◌, ◌/◌, ◌%◌, true, false, Bool, ◌∙◌, ap, ◌≡◌, refl, arith, eqb, negsuc, eqb-true, leb-true, leb-false}
use Rattle.theory.specs.Lists.{all}
use Rattle.theory.specs.Tests.{◌and◌}
use Rattle.theory.specs.Wide.{Canonical}
use Rattle.theory.proofs.Lists.{at_number}
use Rattle.format.specs.Given.{gives}
use Rattle.format.specs.Published.{decimal32}
use Rattle.number.specs.declared.Number.{Number}
use Rattle.number.specs.Numbers.{member}
use Rattle.number.proofs.Membership.{members}
use Rattle.number.proofs.Values.{place_there, number_canonical, member_canonical, member_highest}
use Rattle.decimal32.specs.Declets.{declet_value, canonical_declet}
use Rattle.decimal32.specs.Patterns.{sign_of, sign_weight, five_of, six_of, first_declet, second_declet, leading_digit, high_bits, finite, biased_of, coefficient_of, magnitude_read, number_read, decimal32_read, five_for, pattern_at, pattern_of, decimal32_written}
use Rattle.decimal32.proofs.DecletLaws.{value_small, declet_canonical, canonical_back}
use Rattle.decimal32.proofs.Fields.{decimal32_limits, leading_small, finite_five}
use Rattle.decimal32.proofs.RoundTrips.{reads, read_member, written_made, made_parts, made_finite, made_biased, made_coefficient}

pub record CanonicalPattern (n : ℕ) : Type 0 where
  pub finite : finite n ≡ true
  pub digits : Canonical 10 7 (coefficient_of n) (biased_of n)
  pub first : canonical_declet (first_declet n) ≡ true
  pub second : canonical_declet (second_declet n) ≡ true

pub written_canonical : (x : Number) → member decimal32 x ≡ true → CanonicalPattern (pattern_of x)
unfolding pattern_of
written_canonical x h =
    let i = members x decimal32_limits h in
    let l = i.significand_high in
    let k = member_highest decimal32_limits i in
    let p = made_parts x.negative l k in
    record {
      finite = made_finite x.negative l k;
      digits = rw (made_coefficient x.negative l k, made_biased x.negative l k) (member_canonical decimal32_limits i);
      first = rw p.first (declet_canonical {n = x.significand / 10 ^ 3 % 10 ^ 3} (omega arith));
      second = rw p.second (declet_canonical {n = x.significand % 10 ^ 3} (omega arith));
    }

-- ---- each part comes back
abbrev five_back : ℕ → ℕ
five_back five = five_for (high_bits five) (leading_digit five)

five_back_law : {five : ℕ} → five < 30 → five_back five ≡ five
unfolding all ◌and◌
five_back_law {five} h = eqb-true (five_back five) five (at_number (λ (i : ℕ). eqb (five_back i) i) 30 refl five h)

-- the digits of a coefficient, and the two parts of a biased exponent
record Split (n : ℕ) : Type 0 where
  leading : coefficient_of n / 10 ^ 6 ≡ leading_digit (five_of n)
  first : coefficient_of n / 10 ^ 3 % 10 ^ 3 ≡ declet_value (first_declet n)
  second : coefficient_of n % 10 ^ 3 ≡ declet_value (second_declet n)
  high : biased_of n / 2 ^ 6 ≡ high_bits (five_of n)
  low : biased_of n % 2 ^ 6 ≡ six_of n

split : (n : ℕ) → Split n
unfolding coefficient_of biased_of
split n =
    let d = leading_small (five_of n) in
    let a = value_small {n = first_declet n} (omega arith) in
    let b = value_small {n = second_declet n} (omega arith) in
    record { leading = omega arith; first = omega arith; second = omega arith; high = omega arith; low = omega arith }

joined : (n : ℕ) → n < 2 ^ 32 → (s : Bool) → sign_of n ≡ s
    → sign_weight s + five_of n * 2 ^ 26 + six_of n * 2 ^ 20 + first_declet n * 2 ^ 10 + second_declet n ≡ n
joined n h s e = top s e
  where
    low : n / 2 ^ 20 * 2 ^ 20 + first_declet n * 2 ^ 10 + second_declet n ≡ n
    low = omega arith

    middle : n / 2 ^ 26 * 2 ^ 6 + six_of n ≡ n / 2 ^ 20
    middle = omega arith

    top : (s : Bool) → sign_of n ≡ s → sign_weight s + five_of n * 2 ^ 26 + six_of n * 2 ^ 20 + first_declet n * 2 ^ 10 + second_declet n ≡ n
    top true e =
        let five : n / 2 ^ 26 ≡ 2 ^ 5 + five_of n = omega (arith, leb-true (2 ^ 31) n e) in
        omega (arith, low, middle)
    top false e =
        let five : n / 2 ^ 26 ≡ five_of n = omega (arith, leb-false (2 ^ 31) n e) in
        omega (arith, low, middle)

module _ (n : ℕ) (h : n < 2 ^ 32) (c : CanonicalPattern n) where
  pattern_back : pattern_at (sign_of n) (coefficient_of n) (biased_of n) ≡ n
  pattern_back =
      let p = split n in
      rw (
        p.leading,
        p.first,
        p.second,
        p.high,
        p.low,
        five_back_law (finite_five n c.finite),
        canonical_back {n = first_declet n} (omega arith) c.first,
        canonical_back {n = second_declet n} (omega arith) c.second,
      )
      (joined n h (sign_of n) refl)

  number_back : pattern_of (number_read n) ≡ n
  unfolding number_read magnitude_read pattern_of
  number_back =
      ap pattern_of (number_canonical decimal32_limits c.digits (sign_of n))
      ∙ ap (pattern_at (sign_of n) (coefficient_of n)) (place_there (negsuc 100) (biased_of n))
      ∙ pattern_back

  -- a canonical pattern comes back
  pub canonical_returns : {x : Number} → decimal32_read n ≡ gives x → decimal32_written x ≡ gives n
  canonical_returns {x} r = written_made x (read_member n r) ∙ ap gives (ap pattern_of (reads n r).is ∙ number_back)
