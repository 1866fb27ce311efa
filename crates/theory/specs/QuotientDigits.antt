-- How many digits of a quotient are worked out. Long division of A by B in the base β: the first digit is the whole-number part of
-- A / B, and what remains is lowered by a place for the next one.
use Rattle.std.specs.Prelude.{ℕ, zero, suc, ◌^◌, ◌*◌, ◌-◌, ◌/◌, ◌%◌, true, false, leb, eqb}
use Rattle.theory.specs.Tests.{◌or◌}
use Rattle.theory.specs.Place.{place}

-- how many significant digits stand after one digit more: a 0 before the first of them is not significant
abbrev pub standing : (before digit : ℕ) → ℕ
standing zero zero = 0
standing zero (suc digit) = 1
standing (suc before) digit = suc (suc before)

-- the digits of R / B that are taken from `place` down to place 0, where `before` significant ones stand already: until p stand, or
-- the digit at place 0 is taken, or nothing remains
unfoldable pub digits_taken : (β p B R before place : ℕ) → ℕ
digits_taken β p B R before zero = 1
digits_taken β p B R before (suc place) =
    let now : ℕ = standing before (R / B) in
    elim (leb p now or eqb (R % B) 0) [ true ↦ 1 | false ↦ suc (digits_taken β p B (R % B * β) now place) ]

-- ---- a significand brought to p digits
-- how many digits m lacks: its first digit stands at place β 1 m
unfoldable pub lacking : (β p m : ℕ) → ℕ
lacking β p m = p - 1 - place β 1 m

unfoldable pub brought : (β p m : ℕ) → ℕ
brought β p m = m * β ^ lacking β p m
