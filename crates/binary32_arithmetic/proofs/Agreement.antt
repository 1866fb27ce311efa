-- Two accounts of IEEE 754 agree: for finite patterns the pattern calls in direction 0 answer what lib.Ieee's operations on the
-- floats of those patterns give, written as a pattern; refusal 5 is given exactly where lib.Ieee gives an infinity.
use Rattle.theory.proofs.Prelude.{ℕ, ◌≤◌, ◌^◌, ◌*◌, true, xor, ◌∙◌, ap, ◌≡◌, sym, refl, mul-one, arith, T, ne_eqb}
use lib.Ieee.{Float, of_bits, add, sub, mul, div, fits}
use lib.Ieee.Fits.{add-fits, sub-fits, mul-fits, div-fits}
use lib.Ieee as ieee
use Rattle.theory.specs.declared.Direction.TheVariants.{NearestEven}
use Rattle.theory.proofs.Tests.{and_made, unless_passed}
use Rattle.format.specs.Directions.{is_direction, direction}
use Rattle.format.specs.Published.{binary32}
use Rattle.number.specs.Numbers.{magnitude}
use Rattle.arithmetic.specs.Operations.{rounded, rounded_z, rounded_product, rounded_quotient}
use Rattle.binary32.specs.Patterns.{finite, number_read, answer_written}
use Rattle.binary32.proofs.RoundTrips.{read_made}
use Rattle.binary32.proofs.StandardRound.{answered}
use Rattle.binary32.proofs.StandardSum.{ieee_sum, ieee_difference}
use Rattle.binary32.proofs.StandardProduct.{ieee_product, ieee_quotient}
use Rattle.binary32.proofs.StandardPatterns.{patterned, patterned_written}
use Rattle.binary32_arithmetic.specs.Calls.{Operation, Sum, Difference, Product, Quotient, pattern_alone, pattern_call}
use Rattle.binary32_arithmetic.proofs.CallLaws.{rounded_by, alone}

module _ (a b : ℕ) (ha : finite a ≡ true) (hb : finite b ≡ true) where
  abbrev x : Float
  x = of_bits ieee.binary32 a

  abbrev y : Float
  y = of_bits ieee.binary32 b

  -- the operation of format 2 on what was read, where it is that of lib.Ieee with the result z
  called : (operation : Operation) (z : Float) → T (fits ieee.binary32 z)
      → answered z ≡ rounded_by operation binary32 NearestEven (number_read a) (number_read b) → pattern_alone (pattern_call operation 0 a b) ≡ patterned z
  unfolding pattern_call is_direction direction
  called operation z h e = ap pattern_alone (unless_passed _ _ refl) ∙ alone operation NearestEven a b ∙ unless_passed _ _ (and_made ha hb) ∙ sym (patterned_written z h ∙ ap answer_written e)

  pub sum_agrees : pattern_alone (pattern_call Sum 0 a b) ≡ patterned (add ieee.binary32 x y)
  unfolding rounded_z rounded
  sum_agrees = called Sum (add ieee.binary32 x y) (add-fits ieee.binary32 x y) (ieee_sum a b (read_made a ha) (read_made b hb))

  pub difference_agrees : pattern_alone (pattern_call Difference 0 a b) ≡ patterned (sub ieee.binary32 x y)
  unfolding rounded_z rounded
  difference_agrees = called Difference (sub ieee.binary32 x y) (sub-fits ieee.binary32 x y) (ieee_difference a b (read_made a ha) (read_made b hb))

  pub product_agrees : pattern_alone (pattern_call Product 0 a b) ≡ patterned (mul ieee.binary32 x y)
  unfolding rounded_product rounded
  product_agrees =
      called Product (mul ieee.binary32 x y) (mul-fits ieee.binary32 x y)
      (ieee_product a b (read_made a ha) (read_made b hb)
      ∙ ap (λ (n : ℕ). rounded binary32 NearestEven (xor (number_read a).negative (number_read b).negative) n (2 ^ 149))
      (sym (mul-one (magnitude binary32 (number_read a) * magnitude binary32 (number_read b)))))

  pub quotient_agrees : 1 ≤ magnitude binary32 (number_read b) → pattern_alone (pattern_call Quotient 0 a b) ≡ patterned (div ieee.binary32 x y)
  unfolding rounded_quotient rounded
  quotient_agrees h =
      called Quotient (div ieee.binary32 x y) (div-fits ieee.binary32 x y)
      (ieee_quotient a b (read_made a ha) (read_made b hb) h
      ∙ sym (rw (ne_eqb (magnitude binary32 (number_read b)) 0 (λ e. omega arith), mul-one (magnitude binary32 (number_read b)))))
