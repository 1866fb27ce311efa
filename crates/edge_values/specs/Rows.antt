-- "Values at the edges" of document 01, the starred lines: each call by its definition, and the answer that the paper gives.
use Rattle.std.specs.Prelude.{ℕ, true, false, List, [], ◌∷◌, ℤ, pos, negsuc}
use Rattle.theory.specs.declared.Mark.{Mark}
use Rattle.theory.specs.declared.Mark.TheVariants.{Low, High}
use Rattle.format.specs.declared.Format.{Format}
use Rattle.format.specs.Given.{Given, gives, refused}
use Rattle.number.specs.declared.Number.{Number}
use Rattle.units.specs.Places.{first_place, last_place, least_place}
use Rattle.units.specs.Neighbours.{predecessor_of, successor_of}
use Rattle.arithmetic.specs.declared.Rounded.{Rounded}
use Rattle.arithmetic.specs.declared.CountedQuotient.{CountedQuotient}
use Rattle.arithmetic.specs.Marked.{sum_answer}
use Rattle.arithmetic.specs.Quotients.{quotient_answer}
use Rattle.rump.specs.Routes.{ufp_toward_zero}
use Rattle.fast_two_sum.specs.declared.Steps.{Steps}
use Rattle.fast_two_sum.specs.Triples.{distance}
use Rattle.fast_two_sum.specs.Calls.{fast_two_sum}

-- ---- formats and numbers
-- D is β = 10, p = 3, Emin = -5, Emax = 5
abbrev pub D : Format
D = record { base = 10; digits = 3; emin = negsuc 4; emax = pos 5 }

-- exponents -9 to 9
abbrev pub nines : (base digits : ℕ) → Format
nines base digits = record { base = base; digits = digits; emin = negsuc 8; emax = pos 9 }

-- β = 10, p = 3, Emax = 3
abbrev pub threes : (emin : ℤ) → Format
threes emin = record { base = 10; digits = 3; emin = emin; emax = pos 3 }

abbrev pub plus : (m : ℕ) (e : ℤ) → Number
plus m e = record { negative = false; significand = m; exponent = e }

abbrev pub minus : (m : ℕ) (e : ℤ) → Number
minus m e = record { negative = true; significand = m; exponent = e }

-- a number with its mark, and a quotient with its digits besides
abbrev pub rounded : Number → Mark → Given Rounded
rounded x mark = gives (record { number = x; mark = mark })

abbrev pub counted : Number → Mark → (digits : ℕ) → Given CountedQuotient
counted x mark digits = gives (record { number = x; mark = mark; digits = digits })

abbrev pub triple : (x z y : Number) → Steps
triple x z y = record { x = x; z = z; y = y }

-- ---- what a call gives, of each kind, or a distance
pub data Result : Type 0 where
  one : Given Number → Result
  sum : Given Rounded → Result
  quotient : Given CountedQuotient → Result
  three : Given Steps → Result
  off : ℕ → Result

-- a call, and what the paper says of it
pub record Row : Type 0 where
  pub call : Result
  pub paper : Result

infix 70 ◌is◌
abbrev pub ◌is◌ : (call paper : Given Number) → Row
call is paper = record { call = one call; paper = one paper }

infix 70 ◌sums_to◌
abbrev pub ◌sums_to◌ : (call paper : Given Rounded) → Row
call sums_to paper = record { call = sum call; paper = sum paper }

infix 70 ◌divides_to◌
abbrev pub ◌divides_to◌ : (call paper : Given CountedQuotient) → Row
call divides_to paper = record { call = quotient call; paper = quotient paper }

infix 70 ◌steps◌
abbrev pub ◌steps◌ : (call paper : Given Steps) → Row
call steps paper = record { call = three call; paper = three paper }

infix 70 ◌off_by◌
abbrev pub ◌off_by◌ : (call paper : ℕ) → Row
call off_by paper = record { call = off call; paper = off paper }

-- ---- the table
unfoldable pub rows : List Row
rows =
    -- D: 42 has ufp 10, ulp 0.1, uls 1
    first_place D (plus 420 (negsuc 0)) is gives (plus 100 (negsuc 0))
    ∷ last_place D (plus 420 (negsuc 0)) is gives (plus 100 (negsuc 2))
    ∷ least_place D (plus 420 (negsuc 0)) is gives (plus 100 (negsuc 1))
    -- D: 1 has predecessor 0.999, successor 1.01
    ∷ predecessor_of D (plus 100 (negsuc 1)) is gives (plus 999 (negsuc 2))
    ∷ successor_of D (plus 100 (negsuc 1)) is gives (plus 101 (negsuc 1))
    -- D: 0.001 has predecessor 0.00099
    ∷ predecessor_of D (plus 100 (negsuc 4)) is gives (plus 99 (negsuc 4))
    -- D: 0 has successor 0.00001, ufp and ulp 0
    ∷ successor_of D (plus 0 (negsuc 4)) is gives (plus 1 (negsuc 4))
    ∷ first_place D (plus 0 (negsuc 4)) is gives (plus 0 (negsuc 4))
    ∷ last_place D (plus 0 (negsuc 4)) is gives (plus 0 (negsuc 4))
    -- D: 99,900,000 has no successor: 5
    ∷ successor_of D (plus 999 (pos 5)) is refused 5
    -- D: 99,900,000 + 99 toward zero is 99,900,000; up is 5
    ∷ sum_answer D 2 (plus 999 (pos 5)) (plus 990 (negsuc 0)) sums_to rounded (plus 999 (pos 5)) Low
    ∷ sum_answer D 3 (plus 999 (pos 5)) (plus 990 (negsuc 0)) sums_to refused 5
    -- D: 99,900,000 + 50,000 in direction 0 is a tie: 5. With 49,900 it is 99,900,000
    ∷ sum_answer D 0 (plus 999 (pos 5)) (plus 500 (pos 2)) sums_to refused 5
    ∷ sum_answer D 0 (plus 999 (pos 5)) (plus 499 (pos 2)) sums_to rounded (plus 999 (pos 5)) Low
    -- β = 2, p = 1: 2 + 1 in direction 0 is 4
    ∷ sum_answer (nines 2 1) 0 (plus 1 (pos 1)) (plus 1 (pos 0)) sums_to rounded (plus 1 (pos 2)) High
    -- β = 3, p = 1: 1 ÷ 2 in direction 0 is 2/3, down 1/3
    ∷ quotient_answer (nines 3 1) 0 (plus 1 (pos 0)) (plus 2 (pos 0)) divides_to counted (plus 2 (negsuc 0)) High 2
    ∷ quotient_answer (nines 3 1) 4 (plus 1 (pos 0)) (plus 2 (pos 0)) divides_to counted (plus 1 (negsuc 0)) Low 2
    -- β = 10, p = 3, Emin = -3, Emax = 3: figure 1 gives 1 for 1. With Emin = -2 it is refused, by 8
    ∷ ufp_toward_zero (threes (negsuc 2)) (plus 100 (negsuc 1)) is gives (plus 100 (negsuc 1))
    ∷ ufp_toward_zero (threes (negsuc 1)) (plus 100 (negsuc 1)) is refused 8
    -- β = 2, p = 3, all up: 4 and 1/16 give 5, 1, -7/8, off by 1/16, which is 32 units of 2 ^ -9; with 1/2: 5, 1, -1/2, not off
    ∷ fast_two_sum (nines 2 3) 3 3 3 (plus 4 (pos 0)) (plus 4 (negsuc 5)) steps gives (triple (plus 5 (pos 0)) (plus 4 (negsuc 1)) (minus 7 (negsuc 2)))
    ∷ distance (nines 2 3) (plus 4 (pos 0)) (plus 4 (negsuc 5)) (plus 5 (pos 0)) (minus 7 (negsuc 2)) off_by 32
    ∷ fast_two_sum (nines 2 3) 3 3 3 (plus 4 (pos 0)) (plus 4 (negsuc 2)) steps gives (triple (plus 5 (pos 0)) (plus 4 (negsuc 1)) (minus 4 (negsuc 2)))
    ∷ distance (nines 2 3) (plus 4 (pos 0)) (plus 4 (negsuc 2)) (plus 5 (pos 0)) (minus 4 (negsuc 2)) off_by 0
    ∷ []
