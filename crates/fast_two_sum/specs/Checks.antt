-- What the check of a three-step sum answers.
use Rattle.std.specs.Prelude.{Bool, false, [], ◌∷◌, ℤ, ◌+ℤ◌, ◌-ℤ◌}
use Rattle.theory.specs.Tests.{◌and◌, ◌or◌}
use Rattle.theory.specs.declared.Direction.TheVariants.{Upward, Downward}
use Rattle.theory.specs.Signed.{round_z}
use Rattle.format.specs.declared.Format.{Format}
use Rattle.format.specs.Given.{Given, gives, refused, refused_at}
use Rattle.number.specs.declared.Number.{Number}
use Rattle.number.specs.Numbers.{equal_z, value}
use Rattle.number.specs.Checks.{checked}
use Rattle.fast_two_sum.specs.Calls.{order_checked}

-- r is faithful to v, as it is computed: v rounded down or up in the wide format
unfoldable pub is_faithful : Format → (v r : ℤ) → Bool
is_faithful f v r = equal_z r (round_z f.base f.digits Downward v 1) or equal_z r (round_z f.base f.digits Upward v 1)

unfoldable pub is_triple : Format → (a b x z y : Number) → Bool
is_triple f a b x z y =
    is_faithful f (value f a +ℤ value f b) (value f x)
    and is_faithful f (value f x -ℤ value f a) (value f z)
    and is_faithful f (value f b -ℤ value f z) (value f y)

-- the answer of is_fast_two_sum
unfoldable pub checked_triple : Format → (a b x z y : Number) → Given Bool
checked_triple f a b x z y = checked f [] (a ∷ b ∷ x ∷ z ∷ y ∷ []) (order_checked f a b (gives (is_triple f a b x z y)))

-- ---- for inner functions: x has the value that a step gave
unfoldable pub is_result : Format → Given Number → Number → Bool
is_result f (gives r) x = equal_z (value f x) (value f r)
is_result f (refused number) x = false
is_result f (refused_at number index) x = false
