-- Numbers of any form taken into decimal with 7 digits, computed.
use Rattle.theory.proofs.Prelude.{ℕ, ◌^◌, ◌-◌, true, false, Bool, List, [], ◌∷◌, map, ◌≡◌, refl, ℤ, pos, negsuc}
use Rattle.theory.specs.Tests.{◌and◌, ◌or◌, unless}
use Rattle.theory.specs.Lists.{all}
use Rattle.theory.specs.Place.{search_place, place, step}
use Rattle.theory.specs.Neighbours.{floor_to, ceil_to, lower, upper, lower_q, upper_q}
use Rattle.theory.specs.Round.{location, chosen, takes_upper, round}
use Rattle.theory.specs.Marks.{mark}
use Rattle.theory.specs.declared.Mark.{Mark}
use Rattle.theory.specs.declared.Mark.TheVariants.{Exact, Low, High}
use Rattle.format.specs.Formats.{exponents_admitted, admitted}
use Rattle.format.specs.Directions.{is_direction, direction}
use Rattle.format.specs.Published.{decimal32}
use Rattle.format.specs.Given.{Given, gives, refused}
use Rattle.number.specs.declared.Number.{Number}
use Rattle.number.specs.Numbers.{magnitude, value, greatest, number, delivered}
use Rattle.number.specs.Checks.{checked}
use Rattle.arithmetic.specs.declared.Rounded.{Rounded}
use Rattle.arithmetic.specs.Operations.{rounded, rounded_record}
use Rattle.arithmetic.specs.Marked.{marked, conversion_answer}

abbrev pub record_of : (negative : Bool) (m : ℕ) (e : ℤ) → Number
record_of negative m e = record { negative = negative; significand = m; exponent = e }

abbrev pub answer : (direction : ℕ) → Number → Given Rounded
answer d x = conversion_answer decimal32 d x

abbrev pub gives_number : (negative : Bool) (m : ℕ) (e : ℤ) → Mark → Given Rounded
gives_number negative m e t = gives (record { number = record_of negative m e; mark = t })

-- one answer, and what it should be
pub record Row : Type 0 where
  pub call : Given Rounded
  pub paper : Given Rounded

abbrev pub rows : List Row
rows =
    -- 12,345,678 has a digit too many, and 10,000,005 is a tie
    record { call = answer 0 (record_of false 12345678 (pos 0)); paper = gives_number false 1234568 (pos 1) High }
    ∷ record { call = answer 0 (record_of false 10000005 (pos 0)); paper = gives_number false 1000000 (pos 1) Low }
    -- the greatest significand, toward zero
    ∷ record { call = answer 2 (record_of true (2 ^ 64 - 1) (pos 0)); paper = gives_number true 1844674 (pos 13) High }
    -- 1 and 25 take digits
    ∷ record { call = answer 0 (record_of false 1 (pos 0)); paper = gives_number false 1000000 (negsuc 5) Exact }
    ∷ record { call = answer 0 (record_of false 25 (pos 0)); paper = gives_number false 2500000 (negsuc 4) Exact }
    -- far below the least number: that number up, zero down
    ∷ record { call = answer 3 (record_of false 7 (negsuc 199)); paper = gives_number false 1 (negsuc 100) High }
    ∷ record { call = answer 4 (record_of false 7 (negsuc 199)); paper = gives_number false 0 (negsuc 100) Low }
    -- 10 ^ 97 is too large, and zero at any exponent is zero with its sign
    ∷ record { call = answer 2 (record_of false 1 (pos 97)); paper = refused 5 }
    ∷ record { call = answer 2 (record_of true 0 (pos 97)); paper = gives_number true 0 (negsuc 100) Exact }
    ∷ []

pub computed : map (λ (r : Row). r.call) rows ≡ map (λ (r : Row). r.paper) rows
unfolding conversion_answer marked rounded_record rounded checked all unless ◌and◌ ◌or◌ exponents_admitted admitted is_direction direction magnitude value greatest number delivered mark round takes_upper chosen location lower_q upper_q lower upper floor_to ceil_to step place search_place
computed = refl
