-- The answers of the operations and the fraction: the rounded number, and its mark against the exact result. That of the quotient has a
-- count besides (`Quotients`).
use Rattle.std.specs.Prelude.{ℕ, ◌*◌, ◌^◌, [], ◌∷◌, ℤ, pos, ◌+ℤ◌, ◌-ℤ◌, ◌*ℤ◌}
use Rattle.std.specs.Bool.{xor}
use Rattle.theory.specs.declared.Direction.{Direction}
use Rattle.theory.specs.declared.Mark.{Mark}
use Rattle.theory.specs.Marks.{mark}
use Rattle.theory.specs.Signed.{signed}
use Rattle.format.specs.declared.Format.{Format}
use Rattle.format.specs.Directions.{direction}
use Rattle.format.specs.Given.{Given, gives, ◌then◌}
use Rattle.number.specs.declared.Number.{Number}
use Rattle.number.specs.Exponents.{above_zero, below_zero}
use Rattle.number.specs.Numbers.{magnitude, value}
use Rattle.number.specs.Checks.{checked}
use Rattle.arithmetic.specs.declared.Rounded.{Rounded}
use Rattle.arithmetic.specs.Operations.{rounded_sum, rounded_difference, rounded_product, rounded_quotient, rounded_fraction, rounded_record}

-- the number without its mark
abbrev pub without_mark : Given Rounded → Given Number
without_mark g = g then (λ (r : Rounded). gives r.number)

-- ---- what is given, with the mark of the kept number against the exact result N / D units
unfoldable pub marked : Format → (N : ℤ) (D : ℕ) → Given Number → Given Rounded
marked f N D g = g then (λ (x : Number). gives (record { number = x; mark = mark (value f x) N D }))

-- ---- of two numbers of the format
abbrev pub marked_sum : Format → Direction → (a b : Number) → Given Rounded
marked_sum f d a b = marked f (value f a +ℤ value f b) 1 (rounded_sum f d a b)

abbrev pub marked_difference : Format → Direction → (a b : Number) → Given Rounded
marked_difference f d a b = marked f (value f a -ℤ value f b) 1 (rounded_difference f d a b)

-- a × b × β ^ Emin units
abbrev pub marked_product : Format → Direction → (a b : Number) → Given Rounded
marked_product f d a b =
    marked f (value f a *ℤ value f b *ℤ pos (f.base ^ above_zero f.emin)) (f.base ^ below_zero f.emin) (rounded_product f d a b)

-- a / (b × β ^ Emin) units
abbrev pub marked_quotient : Format → Direction → (a b : Number) → Given Rounded
marked_quotient f d a b =
    marked f (signed (xor a.negative b.negative) (magnitude f a * f.base ^ below_zero f.emin)) (magnitude f b * f.base ^ above_zero f.emin)
    (rounded_quotient f d a b)

-- ---- of two whole numbers: n / (m × β ^ Emin) units
abbrev pub marked_fraction : Format → Direction → (n : ℤ) (m : ℕ) → Given Rounded
marked_fraction f d n m = marked f (n *ℤ pos (f.base ^ below_zero f.emin)) (m * f.base ^ above_zero f.emin) (rounded_fraction f d n m)

-- ---- of any record: ± m × β ^ (e - Emin) units
abbrev pub marked_record : Format → Direction → Number → Given Rounded
marked_record f d x =
    marked f (signed x.negative (x.significand * f.base ^ above_zero (x.exponent -ℤ f.emin))) (f.base ^ below_zero (x.exponent -ℤ f.emin)) (rounded_record f d x)

-- ---- the public calls: refusals 1, 2 and 3 come first
unfoldable pub sum_answer : Format → (d : ℕ) (a b : Number) → Given Rounded
sum_answer f d a b = checked f (d ∷ []) (a ∷ b ∷ []) (marked_sum f (direction d) a b)

unfoldable pub difference_answer : Format → (d : ℕ) (a b : Number) → Given Rounded
difference_answer f d a b = checked f (d ∷ []) (a ∷ b ∷ []) (marked_difference f (direction d) a b)

unfoldable pub product_answer : Format → (d : ℕ) (a b : Number) → Given Rounded
product_answer f d a b = checked f (d ∷ []) (a ∷ b ∷ []) (marked_product f (direction d) a b)

unfoldable pub fraction_answer : Format → (d : ℕ) (numerator : ℤ) (denominator : ℕ) → Given Rounded
fraction_answer f d numerator denominator = checked f (d ∷ []) [] (marked_fraction f (direction d) numerator denominator)

unfoldable pub conversion_answer : Format → (d : ℕ) → Number → Given Rounded
conversion_answer f d x = checked f (d ∷ []) [] (marked_record f (direction d) x)

-- ---- for inner functions: what is given, with a mark that stands already
abbrev pub with_mark : Mark → Given Number → Given Rounded
with_mark t g = g then (λ (x : Number). gives (record { number = x; mark = t }))
