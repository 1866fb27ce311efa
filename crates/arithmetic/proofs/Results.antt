-- A number that an operation gives is in the format.
use Rattle.theory.proofs.Prelude.{ℕ, suc, zero, true, ◌∙◌, ◌≡◌, sym, refl, arith}
use Rattle.arithmetic.proofs.Prelude.{Direction, pow_pos, Format, gives, refused, Admitted, gives_not_refused, Number, below_zero, member, rounded_sum, rounded_difference, rounded_product, rounded_quotient}
use Rattle.arithmetic.proofs.Prepared.{divisor_positive, divisor_some, divisor_none}
use Rattle.arithmetic.proofs.Outcome.{outcome_given, rounded_outcome, rounded_z_outcome}

module _ {f : Format} (ok : Admitted f) (d : Direction) (a b : Number) {x : Number} where
  pub sum_member : rounded_sum f d a b ≡ gives x → member f x ≡ true
  sum_member e = (outcome_given (rounded_z_outcome ok d _ _) e).member

  pub difference_member : rounded_difference f d a b ≡ gives x → member f x ≡ true
  difference_member e = (outcome_given (rounded_z_outcome ok d _ _) e).member

  pub product_member : rounded_product f d a b ≡ gives x → member f x ≡ true
  unfolding rounded_product
  product_member e = (outcome_given (rounded_outcome ok d _ _ (pow_pos ok.base_low (below_zero f.emin))) e).member

  pub quotient_member : rounded_quotient f d a b ≡ gives x → member f x ≡ true
  quotient_member e = by b.significand refl
    where
      by : (m : ℕ) → b.significand ≡ m → member f x ≡ true
      by zero h =
          let k : gives x ≡ refused 4 = sym e ∙ divisor_none f d a b h in
          absurd (gives_not_refused k)
      by (suc m) h =
          (outcome_given (rounded_outcome ok d _ _ (divisor_positive ok b (omega arith))) (sym (divisor_some ok d a b (omega arith)) ∙ e)).member
