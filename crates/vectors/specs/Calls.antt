-- The calls of the rows, in the order of their numbers.
use Rattle.std.specs.Prelude.{ℕ, ◌%◌, ◌^◌, Bool, true, false, List, [], ◌∷◌, pos, slice_index_or}
use Rattle.format.specs.declared.Format.{Format}
use Rattle.format.specs.Given.{Given, gives, ◌then◌}
use Rattle.number.specs.declared.Number.{Number}
use Rattle.std.specs.declared.cmp.Ordering.{Ordering}
use Rattle.std.specs.declared.cmp.Ordering.TheVariants.{Less, Equal, Greater}
use Rattle.number.specs.Signs.{negated, unsigned}
use Rattle.number.specs.Order.{compared}
use Rattle.units.specs.Neighbours.{predecessor_of, successor_of}
use Rattle.units.specs.Places.{first_place}
use Rattle.theory.specs.declared.Mark.{Mark}
use Rattle.theory.specs.declared.Mark.TheVariants.{Exact, Low, High}
use Rattle.arithmetic.specs.declared.Rounded.{Rounded}
use Rattle.arithmetic.specs.Marked.{without_mark, sum_answer, difference_answer, product_answer, fraction_answer, conversion_answer}
use Rattle.arithmetic.specs.declared.CountedQuotient.{CountedQuotient}
use Rattle.arithmetic.specs.Quotients.{without_digits, quotient_answer}
use Rattle.fast_two_sum.specs.declared.Steps.{Steps}
use Rattle.fast_two_sum.specs.Calls.{fast_two_sum}
use Rattle.binary32_arithmetic.specs.Calls.{Sum, Difference, Product, Quotient, pattern_alone, pattern_call}
use Rattle.decimal32.specs.Patterns.{decimal32_read, decimal32_written}

-- ---- answers that are no numbers, as numbers
abbrev pub whole : (negative : Bool) (n : ℕ) → Number
whole negative n = record { negative = negative; significand = n; exponent = pos 0 }

-- an order as -1, 0 or 1
abbrev pub order_whole : Ordering → Number
order_whole Less = whole true 1
order_whole Equal = whole false 0
order_whole Greater = whole false 1

abbrev pub whole_order : Given Ordering → Given Number
whole_order g = g then λ o. gives (order_whole o)

-- a pattern as a whole number
abbrev pub pattern_number : Given ℕ → Given Number
pattern_number g = g then λ n. gives (whole false n)

-- a mark as 0, 1 or 2
abbrev pub mark_number : Mark → ℕ
mark_number Exact = 0
mark_number Low = 1
mark_number High = 2

-- the mark of a result
abbrev pub mark_whole : Given Rounded → Given Number
mark_whole g = g then λ x. gives (whole false (mark_number x.mark))

-- the number of quotient digits
abbrev pub digits_whole : Given CountedQuotient → Given Number
digits_whole g = g then λ q. gives (whole false q.digits)

-- x of the three steps
abbrev pub first_of_steps : Given Steps → Given Number
first_of_steps g = g then λ s. gives s.x

-- a pattern or a denominator, which stands as a significand
abbrev pub low_word : ℕ → ℕ
low_word n = n % 2 ^ 32

-- ---- the operations
abbrev pub calls : Format → (d : ℕ) (a b : Number) → List (Given Number)
calls f d a b =
    without_mark (sum_answer f d a b)
    ∷ without_mark (difference_answer f d a b)
    ∷ without_mark (product_answer f d a b)
    ∷ without_mark (without_digits (quotient_answer f d a b))
    ∷ without_mark (fraction_answer f d a.exponent (low_word b.significand))
    ∷ whole_order (compared f a b)
    ∷ unsigned f a
    ∷ negated f a
    ∷ predecessor_of f a
    ∷ successor_of f a
    ∷ first_place f a
    ∷ pattern_number (pattern_alone (pattern_call Sum d (low_word a.significand) (low_word b.significand)))
    ∷ pattern_number (pattern_alone (pattern_call Difference d (low_word a.significand) (low_word b.significand)))
    ∷ pattern_number (pattern_alone (pattern_call Product d (low_word a.significand) (low_word b.significand)))
    ∷ pattern_number (pattern_alone (pattern_call Quotient d (low_word a.significand) (low_word b.significand)))
    ∷ mark_whole (sum_answer f d a b)
    ∷ mark_whole (difference_answer f d a b)
    ∷ mark_whole (product_answer f d a b)
    ∷ mark_whole (without_digits (quotient_answer f d a b))
    ∷ decimal32_read (low_word a.significand)
    ∷ pattern_number (decimal32_written a)
    ∷ digits_whole (quotient_answer f d a b)
    ∷ without_mark (conversion_answer f d a)
    ∷ []

-- what the operation with this number answers: from 23 on, the three-step sum
unfoldable pub answer_of : (operation : ℕ) → Format → (d : ℕ) (a b : Number) → Given Number
answer_of operation f d a b = slice_index_or (calls f d a b) operation (first_of_steps (fast_two_sum f d d d a b))
