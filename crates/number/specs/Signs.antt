-- Negation and magnitude, and what the calls say that give a number of the format.
use Rattle.std.specs.Prelude.{ℕ, ◌≡◌, Bool, true, false, not, [], ◌∷◌}
use Rattle.format.specs.declared.Format.{Format}
use Rattle.format.specs.Given.{Given, gives}
use Rattle.number.specs.declared.Number.{Number}
use Rattle.number.specs.Numbers.{member, magnitude, number}
use Rattle.number.specs.Checks.{checked}

-- the record x with this sign
abbrev pub with_sign : Number → Bool → Number
with_sign x negative = record { negative = negative; significand = x.significand; exponent = x.exponent }

-- the number with the magnitude of x and this sign, after the checks
abbrev pub signed_answer : Format → Number → (negative : Bool) → Given Number
signed_answer f x negative = checked f [] (x ∷ []) (gives (number f negative (magnitude f x)))

-- the answer of negate: the other sign, the same magnitude
abbrev pub negated : Format → Number → Given Number
negated f x = signed_answer f x (not x.negative)

-- the answer of magnitude
abbrev pub unsigned : Format → Number → Given Number
unsigned f x = signed_answer f x false

-- a call gives a number of the format with this sign, at zero too, and the magnitude n
pub record GivesNumber (f : Format) (answer : Given Number) (negative : Bool) (n : ℕ) : Type 0 where
  pub given : Number
  pub is : answer ≡ gives given
  pub number : member f given ≡ true
  pub sign : given.negative ≡ negative
  pub size : magnitude f given ≡ n
