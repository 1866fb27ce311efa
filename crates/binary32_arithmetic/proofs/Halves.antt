-- Two magnitudes of at most half the greatest number add up to one that is not too large, in every direction.
use Rattle.theory.proofs.Prelude.{ℕ, ◌≤◌, ◌<◌, ◌+◌, ◌^◌, ◌*◌, ◌%◌, true, false, Bool, ◌∙◌, ap, ◌≡◌, sym, refl, mul-le-mul_left, le_trans, le_of_eq, arith, ℤ, ◌+ℤ◌, nat_abs}
use Rattle.theory.specs.declared.Direction.{Direction}
use Rattle.theory.specs.Signed.{is_negative, round_z}
use Rattle.theory.proofs.Tests.{and_made, unless_passed}
use Rattle.theory.proofs.Integers.{size_parts, sum_parts, size_signed}
use Rattle.theory.proofs.Neighbours.{neighbour_le}
use Rattle.theory.proofs.Round.{round_neighbour}
use Rattle.theory.proofs.Signed.{round_z_size}
use Rattle.format.specs.declared.Format.{Format}
use Rattle.format.specs.Given.{Given, gives}
use Rattle.format.specs.Published.{binary32}
use Rattle.format.proofs.Signed.{apart}
use Rattle.format.proofs.Formats.{Admitted, positional}
use Rattle.number.specs.declared.Number.{Number}
use Rattle.number.specs.Numbers.{magnitude, value, greatest}
use Rattle.number.proofs.Values.{greatest_wide}
use Rattle.arithmetic.specs.Operations.{rounded_sum}
use Rattle.arithmetic.specs.Outcomes.{Outcome, given, too_large}
use Rattle.arithmetic.proofs.Outcome.{rounded_z_outcome}
use Rattle.binary32.specs.Patterns.{field_of, finite, magnitude_read, number_read, answer_written}
use Rattle.binary32.proofs.Fields.{binary32_limits, endless_field}
use Rattle.binary32.proofs.RoundTrips.{read_made, read_magnitude}
use Rattle.binary32.proofs.PatternOrder.{magnitude_most}
use Rattle.binary32_arithmetic.specs.Calls.{Sum}
use Rattle.binary32_arithmetic.specs.Slices.{entry_sum, passes}
use Rattle.binary32_arithmetic.proofs.CallLaws.{alone}

-- ---- a value that is not above the greatest number is not too large when it is rounded
module _ {f : Format} (ok : Admitted f) (d : Direction) (z : ℤ) (h : nat_abs z ≤ greatest f) where
  rounded_within : nat_abs (round_z f.base f.digits d z 1) ≤ greatest f
  rounded_within =
      le_trans (le_of_eq (round_z_size f.base f.digits d z 1))
      (neighbour_le (positional ok) (round_neighbour (positional ok) d (is_negative z) (nat_abs z)) (greatest_wide ok) h)

  small_given : (r : Given Number) → Outcome f d z 1 r → (x : Number) × (r ≡ gives x)
  small_given r (given {x} g) = (x, refl)
  small_given r (too_large l) = absurd (omega (arith, rounded_within))

-- ---- half the greatest number
half_greatest : 2 * magnitude_read 2130706431 ≡ greatest binary32
unfolding magnitude_read greatest
half_greatest = refl

half_size : (n : ℕ) → n % 2 ^ 31 < 254 * 2 ^ 23 → 2 * magnitude_read n ≤ greatest binary32
half_size n h = le_trans (mul-le-mul_left 2 (magnitude_most n 2130706431 (omega arith))) (le_of_eq half_greatest)

half_finite : (n : ℕ) → n % 2 ^ 31 < 254 * 2 ^ 23 → finite n ≡ true
half_finite n h = by (finite n) refl
  where
    by : (t : Bool) → finite n ≡ t → t ≡ true
    by true e = refl
    by false e = absurd (let k : field_of n ≡ 255 = endless_field n e in omega arith)

sum_size : (v w : ℤ) → nat_abs (v +ℤ w) ≤ nat_abs v + nat_abs w
sum_size v w = omega (arith, size_parts (v +ℤ w), size_parts v, size_parts w, sum_parts v w, apart (v +ℤ w))

module _ (d : Direction) (a b : ℕ) (ha : a % 2 ^ 31 < 254 * 2 ^ 23) (hb : b % 2 ^ 31 < 254 * 2 ^ 23) where
  size : (n : ℕ) → n % 2 ^ 31 < 254 * 2 ^ 23 → nat_abs (value binary32 (number_read n)) ≡ magnitude_read n
  unfolding value
  size n h = size_signed (number_read n).negative (magnitude binary32 (number_read n)) ∙ read_magnitude n (read_made n (half_finite n h))

  pub halves_pass : gives tt ≡ passes (entry_sum d a b)
  halves_pass =
      let z = value binary32 (number_read a) +ℤ value binary32 (number_read b) in
      let within : nat_abs z ≤ greatest binary32 =
      omega (arith, sum_size (value binary32 (number_read a)) (value binary32 (number_read b)), size a ha, size b hb, half_size a ha, half_size b hb) in
      let g = small_given binary32_limits d z within (rounded_sum binary32 d (number_read a) (number_read b)) (rounded_z_outcome binary32_limits d _ z) in
      sym (ap passes (alone Sum d a b ∙ unless_passed _ _ (and_made (half_finite a ha) (half_finite b hb)) ∙ ap answer_written g.1))
