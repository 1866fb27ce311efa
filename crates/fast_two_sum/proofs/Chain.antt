-- The three steps taken one after the other: they end at the first that refuses.
use Rattle.theory.proofs.Prelude.{ℕ, ◌≡◌}
use Rattle.theory.specs.declared.Direction.{Direction}
use Rattle.number.proofs.Prelude.{Format, gives, refused}
use Rattle.number.specs.declared.Number.{Number}
use Rattle.arithmetic.specs.Operations.{rounded_sum, rounded_difference}
use Rattle.fast_two_sum.specs.Calls.{three_steps}

module _ (f : Format) (d₁ d₂ d₃ : Direction) (a b : Number) where
  pub first_ends : {n : ℕ} → rounded_sum f d₁ a b ≡ refused n → three_steps f d₁ d₂ d₃ a b ≡ refused n
  unfolding three_steps
  first_ends e = rw e

  pub three_given : {x z y : Number} → rounded_sum f d₁ a b ≡ gives x → rounded_difference f d₂ x a ≡ gives z → rounded_difference f d₃ b z ≡ gives y
      → three_steps f d₁ d₂ d₃ a b ≡ gives (record { x = x; z = z; y = y })
  unfolding three_steps
  three_given hx hz e = rw (hx, hz, e)
