-- The neighbours of a number x of the format f: the greatest number below it and the least above it, refusal 5 where none exists.
use Rattle.std.specs.Prelude.{ℕ, ◌≡◌, Bool, true, [], ◌∷◌, ℤ, nat_abs, ◌<ℤ◌, ◌≤ℤ◌}
use Rattle.std.specs.Int.Signed.{le_z}
use Rattle.theory.specs.Tests.{◌and◌}
use Rattle.theory.specs.Signed.{sign_or, predecessor, successor}
use Rattle.format.specs.declared.Format.{Format}
use Rattle.number.specs.declared.Number.{Number}
use Rattle.format.specs.Given.{Given, gives}
use Rattle.number.specs.Numbers.{member, value, delivered}
use Rattle.number.specs.Checks.{checked}

-- a value of the wide format: a number of the format, or refusal 5; zero has the sign that is handed over
abbrev pub delivered_z : Format → (zero : Bool) → ℤ → Given Number
delivered_z f zero v = delivered f (sign_or zero v) (nat_abs v)

-- zero has the sign of its neighbour x
unfoldable pub predecessor_of : Format → Number → Given Number
predecessor_of f x = checked f [] (x ∷ []) (delivered_z f x.negative (predecessor f.base f.digits (value f x)))

unfoldable pub successor_of : Format → Number → Given Number
successor_of f x = checked f [] (x ∷ []) (delivered_z f x.negative (successor f.base f.digits (value f x)))

-- v and w lie within one step: each is at most the least number of the wide format above the other
unfoldable pub within_step : (β p : ℕ) (v w : ℤ) → Bool
within_step β p v w = le_z w (successor β p v) and le_z v (successor β p w)

-- the answer of within_one_step: are a and b one line?
unfoldable pub within_one_step : Format → (a b : Number) → Given Bool
within_one_step f a b = checked f [] (a ∷ b ∷ []) (gives (within_step f.base f.digits (value f a) (value f b)))

-- ---- in the paper's words
-- y is the greatest number of the format below x
pub record GreatestNumberBelow (f : Format) (x y : Number) : Type 0 where
  pub number : member f y ≡ true
  pub below : value f y <ℤ value f x
  pub greatest : (z : Number) → member f z ≡ true → value f z <ℤ value f x → value f z ≤ℤ value f y

-- y is the least number of the format above x
pub record LeastNumberAbove (f : Format) (x y : Number) : Type 0 where
  pub number : member f y ≡ true
  pub above : value f x <ℤ value f y
  pub least : (z : Number) → member f z ≡ true → value f x <ℤ value f z → value f y ≤ℤ value f z

-- no number of the format lies strictly between a and b, whichever is the greater
pub record NothingBetween (f : Format) (a b : Number) : Type 0 where
  pub upward : (z : Number) → member f z ≡ true → value f a <ℤ value f z → value f z <ℤ value f b → ⊥
  pub downward : (z : Number) → member f z ≡ true → value f b <ℤ value f z → value f z <ℤ value f a → ⊥

-- a number of the format above a and below b
pub record SomeBetween (f : Format) (a b : Number) : Type 0 where
  pub number : Number
  pub inside : member f number ≡ true
  pub above : value f a <ℤ value f number
  pub below : value f number <ℤ value f b

-- b has the value of a, of its predecessor or of its successor; the two zeros are one value
pub data OneLine (f : Format) (a b : Number) : Type 0 where
  same : value f b ≡ value f a → OneLine f a b
  next_below : {y : Number} → predecessor_of f a ≡ gives y → value f b ≡ value f y → OneLine f a b
  next_above : {y : Number} → successor_of f a ≡ gives y → value f b ≡ value f y → OneLine f a b
