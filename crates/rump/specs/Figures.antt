-- Rump's figures 1, 3, 4, 5 and 6 (source document 000), line by line: each line is one of the engine's operations on numbers of the
-- format f, and a line that is refused ends the figure. x is |f| of the source.
use Rattle.std.specs.Prelude.{ℕ, ◌+◌, ◌*◌, ◌-◌, ◌^◌, false, cond}
use Rattle.theory.specs.declared.Direction.{Direction}
use Rattle.theory.specs.declared.Direction.TheVariants.{TowardZero, Upward}
use Rattle.format.specs.declared.Format.{Format}
use Rattle.format.specs.Given.{Given, gives, ◌then◌}
use Rattle.number.specs.declared.Number.{Number}
use Rattle.number.specs.Exponents.{above_zero, below_zero}
use Rattle.number.specs.Numbers.{equal_z, value, number}
use Rattle.arithmetic.specs.Operations.{rounded_sum, rounded_difference, rounded_product}
use Rattle.units.specs.Neighbours.{successor_of}

-- ---- the constants
-- 1 in units of β ^ Emin, for Emin at most 0
abbrev pub one : Format → ℕ
one f = f.base ^ below_zero f.emin

-- β ^ k, for Emin at most 0
abbrev pub power : Format → ℕ → Number
power f k = number f false (f.base ^ k * one f)

-- the smallest positive number
abbrev pub subrealmin : Format → Number
subrealmin f = number f false 1

-- β ^ (p - 1), for Emin at most p - 1: β ^ (p - 1 - Emin) units
abbrev pub lead_place : Format → ℕ
lead_place f = f.digits - 1 + below_zero f.emin - above_zero f.emin

abbrev pub lead : Format → Number
lead f = number f false (f.base ^ lead_place f)

-- ---- the first place, toward zero: p1 = 1 - subrealmin, phi = β ^ (p - 1) + 1, q = phi x, S = q - p1 q
unfoldable pub figure1 : Format → Number → Given Number
figure1 f x =
    rounded_difference f TowardZero (power f 0) (subrealmin f) then λ p1.
    rounded_sum f TowardZero (power f (f.digits - 1)) (power f 0) then λ phi.
    rounded_product f TowardZero phi x then λ q.
    rounded_product f TowardZero p1 q then λ r.
    rounded_difference f TowardZero q r

-- ---- the last place, up: s = x + subrealmin, S = s - x
unfoldable pub figure3 : Format → Number → Given Number
figure3 f x =
    rounded_sum f Upward x (subrealmin f) then λ s.
    rounded_difference f Upward s x

-- ---- the last place, toward zero
-- p = x - subrealmin, S = x - p
unfoldable pub gap : Format → Number → Given Number
gap f x =
    rounded_difference f TowardZero x (subrealmin f) then λ p.
    rounded_difference f TowardZero x p

-- S β where x + S = x, and S elsewhere
unfoldable pub figure4 : Format → Number → Given Number
figure4 f x =
    gap f x then λ S.
    rounded_sum f TowardZero x S then λ s.
    cond (equal_z (value f s) (value f x)) (rounded_product f TowardZero S (power f 1)) (gives S)

-- d = ((x + S) - x) - S
unfoldable pub defect : Format → (x S : Number) → Given Number
defect f x S =
    rounded_sum f TowardZero x S then λ s.
    rounded_difference f TowardZero s x then λ t.
    rounded_difference f TowardZero t S

-- S - (β - 1) d
unfoldable pub figure5 : Format → Number → Given Number
figure5 f x =
    gap f x then λ S.
    defect f x S then λ d.
    rounded_difference f TowardZero (power f 1) (power f 0) then λ b.
    rounded_product f TowardZero b d then λ c.
    rounded_difference f TowardZero S c

-- ---- with the successor, in any direction d
-- the last place, figure 3 with the successor: s = succ(x), S = s - x
unfoldable pub gap_above : Format → Direction → Number → Given Number
gap_above f d x =
    successor_of f x then λ s.
    rounded_difference f d s x

-- the first place, figure 6: y = x β ^ (p - 1), s = succ(y), S = s - y
unfoldable pub figure6 : Format → Direction → Number → Given Number
figure6 f d x =
    rounded_product f d x (lead f) then λ y.
    gap_above f d y
