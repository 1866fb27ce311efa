-- The operands: numbers of the wide format in canonical form.
use Rattle.std.specs.Prelude.{ℕ, ◌^◌, ◌*◌, ◌<◌, Bool, ℤ}
use Rattle.theory.specs.Wide.{Canonical}
use Rattle.theory.specs.Signed.{signed}
use Rattle.format.specs.declared.Scale.{Scale}
use Rattle.rounding.specs.declared.Wide.{Wide}

-- a number of the wide format, at a place that no shift takes out of 32 bits
pub record Bounded (s : Scale) (x : Wide) : Type 0 where
  pub canonical : Canonical s.base s.digits x.significand x.place
  pub place_most : x.place < 2 ^ 28

-- a number from its parts
abbrev pub wide : Bool → (significand place : ℕ) → Wide
wide negative m k = record { negative = negative; significand = m; place = k }

-- the magnitude of a number, and its value
abbrev pub size_of : ℕ → Wide → ℕ
size_of β x = x.significand * β ^ x.place

abbrev pub value_of : ℕ → Wide → ℤ
value_of β x = signed x.negative (size_of β x)
