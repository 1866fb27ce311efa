-- What an operation gives, in the paper's words: the exact result, rounded once, or refusal 5 where that is above the greatest number.
use Rattle.std.specs.Prelude.{ℕ, ◌≤◌, ◌<◌, ◌≡◌, true, ℤ, nat_abs}
use Rattle.theory.specs.declared.Direction.{Direction}
use Rattle.theory.specs.Signed.{round_z}
use Rattle.theory.specs.Marks.{mark, MultipliedOut}
use Rattle.format.specs.declared.Format.{Format}
use Rattle.format.specs.Given.{Given, gives, refused}
use Rattle.number.specs.declared.Number.{Number}
use Rattle.number.specs.Numbers.{member, value, greatest}
use Rattle.arithmetic.specs.declared.Rounded.{Rounded}

-- x is a number of the format, and its value is N / D units, rounded in the direction d
pub record RoundedNumber (f : Format) (d : Direction) (N : ℤ) (D : ℕ) (x : Number) : Type 0 where
  pub divisor : 1 ≤ D
  pub member : member f x ≡ true
  pub value : value f x ≡ round_z f.base f.digits d N D
  pub within : nat_abs (round_z f.base f.digits d N D) ≤ greatest f

-- that number with its mark, which multiplied out is true of N / D
pub record MarkedNumber (f : Format) (d : Direction) (N : ℤ) (D : ℕ) (r : Rounded) : Type 0 where
  pub rounded : RoundedNumber f d N D r.number
  pub marked : r.mark ≡ mark (value f r.number) N D
  pub multiplied : MultipliedOut (value f r.number) N D r.mark

-- what is given is right, or it is 5, exactly where the rounded magnitude is above the greatest number
pub data OutcomeOf {A : Type 0} (f : Format) (d : Direction) (N : ℤ) (D : ℕ) (Right : A → Type 0) : Given A → Type 0 where
  given : {x : A} → Right x → OutcomeOf f d N D Right (gives x)
  too_large : greatest f < nat_abs (round_z f.base f.digits d N D) → OutcomeOf f d N D Right (refused 5)

-- of a number, and of a number with its mark
abbrev pub Outcome : Format → Direction → ℤ → ℕ → Given Number → Type 0
Outcome f d N D g = OutcomeOf f d N D (RoundedNumber f d N D) g

abbrev pub MarkedOutcome : Format → Direction → ℤ → ℕ → Given Rounded → Type 0
MarkedOutcome f d N D g = OutcomeOf f d N D (MarkedNumber f d N D) g
