-- What the three-step sum answers, and the refusals that it shares with its check.
use Rattle.std.specs.Prelude.{ℕ, Bool, [], ◌∷◌, leb, eqb}
use Rattle.theory.specs.Tests.{◌and◌, unless}
use Rattle.theory.specs.declared.Direction.{Direction}
use Rattle.format.specs.declared.Format.{Format}
use Rattle.format.specs.Directions.{direction}
use Rattle.format.specs.Given.{Given, gives, refused, ◌then◌}
use Rattle.number.specs.declared.Number.{Number}
use Rattle.number.specs.Numbers.{magnitude}
use Rattle.number.specs.Checks.{checked}
use Rattle.arithmetic.specs.Operations.{rounded_sum, rounded_difference}
use Rattle.fast_two_sum.specs.declared.Steps.{Steps}

-- base 2 and at least 2 digits
unfoldable pub is_binary : Format → Bool
is_binary f = eqb f.base 2 and leb 2 f.digits

-- refusals 6 and 7: the format is not binary, or a is smaller than b
unfoldable pub order_checked : {A : Type 0} → Format → (a b : Number) → Given A → Given A
order_checked f a b go_on = unless (is_binary f) (refused 6) (unless (leb (magnitude f b) (magnitude f a)) (refused 7) go_on)

-- x from a + b, z from x - a, y from b - z, each in its own direction; they end at the first that refuses
unfoldable pub three_steps : Format → (d₁ d₂ d₃ : Direction) (a b : Number) → Given Steps
three_steps f d₁ d₂ d₃ a b =
    rounded_sum f d₁ a b then λ x.
    rounded_difference f d₂ x a then λ z.
    rounded_difference f d₃ b z then λ y.
    gives (record { x = x; z = z; y = y })

-- the answer of fast_two_sum
unfoldable pub fast_two_sum : Format → (d₁ d₂ d₃ : ℕ) (a b : Number) → Given Steps
fast_two_sum f d₁ d₂ d₃ a b =
    checked f (d₁ ∷ d₂ ∷ d₃ ∷ []) (a ∷ b ∷ [])
    (order_checked f a b (three_steps f (direction d₁) (direction d₂) (direction d₃) a b))
