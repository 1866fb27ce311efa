-- How many digits of a quotient are worked out.
use Rattle.std.specs.Prelude.{ℕ, ◌^◌, ◌+◌, ◌*◌, ◌-◌, ◌/◌, ◌%◌, ◌≡◌, cond, eqb, ltb}
use Rattle.theory.specs.Units.{zeros}
use Rattle.theory.specs.QuotientDigits.{digits_taken, lacking, brought}
use Rattle.rounding.specs.declared.Cut.{Cut}
use Rattle.rounding.specs.Cut.{dropped}

-- A / B, where the first digit stands `high` less `low` places above the lowest: none where that is below it
abbrev pub digits_from : (β p A B high low : ℕ) → ℕ
digits_from β p A B high low = cond (ltb high low) 0 (digits_taken β p B A 0 (high - low))

-- m * β ^ up / (n * β ^ down), both significands brought to p digits
abbrev pub digits_of : (β p m n up down : ℕ) → ℕ
digits_of β p m n up down = cond (eqb m 0) 0 (digits_from β p (brought β p m) (brought β p n) (up + lacking β p n) (down + lacking β p m))

-- as the code has them from the quotient q and what remains, with `after` digits behind the first
abbrev pub digits_worked : (β q r after : ℕ) → ℕ
digits_worked β q r after = after + 1 - cond (eqb r 0) (zeros β q) 0

-- the cut of a * β ^ after / b, and its digits
pub record CutShifted (β a b after place : ℕ) (cut : Cut) (digits : ℕ) : Type 0 where
  pub is : cut ≡ dropped (a * β ^ after) b place
  pub count : digits ≡ digits_worked β (a * β ^ after / b) (a * β ^ after % b) after
