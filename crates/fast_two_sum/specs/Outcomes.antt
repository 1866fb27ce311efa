-- What the three-step sum and its check give for every input, in the papers' words: the refusals, each exactly when its condition holds
-- and no earlier one does, and after them what demand 3 says of our own sum and of our own check.
use Rattle.std.specs.Prelude.{ℕ, ◌≤◌, ◌<◌, ◌≡◌, Bool, true, false, List, ◌∷◌, ◌⊎◌, nat_abs, ◌+ℤ◌, ◌-ℤ◌}
use Rattle.theory.specs.Lists.{all}
use Rattle.theory.specs.declared.Direction.{Direction}
use Rattle.theory.specs.Signed.{round_z}
use Rattle.format.specs.declared.Format.{Format}
use Rattle.format.specs.Formats.{admitted}
use Rattle.format.specs.Directions.{is_direction}
use Rattle.format.specs.Given.{Given, gives, refused}
use Rattle.number.specs.declared.Number.{Number}
use Rattle.number.specs.Numbers.{member, magnitude, value, greatest}
use Rattle.arithmetic.specs.Operations.{rounded_sum}
use Rattle.arithmetic.specs.Outcomes.{RoundedNumber}
use Rattle.fast_two_sum.specs.declared.Steps.{Steps}
use Rattle.fast_two_sum.specs.Triples.{Summands, Triple}

-- ---- the refusals
-- neither 1 nor 2 nor 3
pub record Accepted (f : Format) (directions : List ℕ) (numbers : List Number) : Type 0 where
  pub format : admitted f ≡ true
  pub directed : all is_direction directions ≡ true
  pub members : all (member f) numbers ≡ true

-- 1, 2, 3, 6, 7, and after them what `After` says
pub data Refusals {A : Type 0} (f : Format) (directions : List ℕ) (a b : Number) (others : List Number) (After : Given A → Type 0) : Given A → Type 0 where
  not_admitted : admitted f ≡ false → Refusals f directions a b others After (refused 1)
  no_direction : admitted f ≡ true → all is_direction directions ≡ false → Refusals f directions a b others After (refused 2)
  not_member : admitted f ≡ true → all is_direction directions ≡ true → all (member f) (a ∷ b ∷ others) ≡ false → Refusals f directions a b others After (refused 3)
  not_binary : Accepted f directions (a ∷ b ∷ others) → (¬ f.base ≡ 2) ⊎ (f.digits < 2) → Refusals f directions a b others After (refused 6)
  smaller_first : Accepted f directions (a ∷ b ∷ others) → f.base ≡ 2 → 2 ≤ f.digits → magnitude f a < magnitude f b → Refusals f directions a b others After (refused 7)
  none_of_these : Accepted f directions (a ∷ b ∷ others) → Summands f a b → {g : Given A} → After g → Refusals f directions a b others After g

-- ---- the sum
-- each step is rounded in its own direction, and is a number of the format
pub record RoundedSteps (f : Format) (d₁ d₂ d₃ : Direction) (a b : Number) (t : Steps) : Type 0 where
  pub x_is : RoundedNumber f d₁ (value f a +ℤ value f b) 1 t.x
  pub z_is : RoundedNumber f d₂ (value f t.x -ℤ value f a) 1 t.z
  pub y_is : RoundedNumber f d₃ (value f b -ℤ value f t.z) 1 t.y

-- a triple, each step rounded in its own direction, unless a + b, rounded in the first direction, is too large; then, and only then, 5,
-- which is the first step's refusal
pub data SumOutcome (f : Format) (d₁ d₂ d₃ : Direction) (a b : Number) : Given Steps → Type 0 where
  triple : {t : Steps} → Triple f a b t.x t.z t.y → RoundedSteps f d₁ d₂ d₃ a b t → rounded_sum f d₁ a b ≡ gives t.x
      → SumOutcome f d₁ d₂ d₃ a b (gives t)
  too_large : greatest f < nat_abs (round_z f.base f.digits d₁ (value f a +ℤ value f b) 1) → rounded_sum f d₁ a b ≡ refused 5
      → SumOutcome f d₁ d₂ d₃ a b (refused 5)

-- ---- the check
-- yes exactly when the three are a triple
pub data CheckOutcome (f : Format) (a b x z y : Number) : Given Bool → Type 0 where
  says_yes : Triple f a b x z y → CheckOutcome f a b x z y (gives true)
  says_no : ¬ Triple f a b x z y → CheckOutcome f a b x z y (gives false)
