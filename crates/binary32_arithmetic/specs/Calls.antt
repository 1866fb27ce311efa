-- The four operations on binary32 patterns: the direction (2), the patterns (9), then the operation of format 2 (4, 5), written, with its mark.
use Rattle.std.specs.Prelude.{ℕ, Result, Ok, Err}
use Rattle.theory.specs.Tests.{◌and◌, unless}
use Rattle.theory.specs.declared.Direction.{Direction}
use Rattle.format.specs.declared.Format.{Format}
use Rattle.format.specs.declared.Refusal.{Refusal}
use Rattle.format.specs.declared.Refusal.TheVariants.{NoSuchDirection, NotFinite}
use Rattle.format.specs.Directions.{is_direction, direction}
use Rattle.format.specs.Given.{Given, gives, refused, ◌then◌}
use Rattle.format.specs.Published.{binary32}
use Rattle.number.specs.declared.Number.{Number}
use Rattle.arithmetic.specs.declared.Rounded.{Rounded}
use Rattle.arithmetic.specs.Marked.{marked_sum, marked_difference, marked_product, marked_quotient}
use Rattle.binary32.specs.Patterns.{finite, number_read, pattern_of}
use Rattle.binary32_arithmetic.specs.declared.MarkedPattern.{MarkedPattern}

-- the pattern without its mark
abbrev pub pattern_alone : Given MarkedPattern → Given ℕ
pattern_alone g = g then (λ (x : MarkedPattern). gives x.pattern)

-- ---- the four operations
pub data Operation : Type 0 where
  Sum : Operation
  Difference : Operation
  Product : Operation
  Quotient : Operation

-- each in a format
abbrev pub marked_by : Operation → Format → Direction → (a b : Number) → Given Rounded
marked_by Sum f d a b = marked_sum f d a b
marked_by Difference f d a b = marked_difference f d a b
marked_by Product f d a b = marked_product f d a b
marked_by Quotient f d a b = marked_quotient f d a b

-- what is given, with its number written
abbrev pub rounded_written : Given Rounded → Given MarkedPattern
rounded_written g = g then (λ (r : Rounded). gives (record { pattern = pattern_of r.number; mark = r.mark }))

-- an operation of format 2 on the numbers of two patterns, its result written
unfoldable pub on_patterns : Operation → Direction → (a b : ℕ) → Given MarkedPattern
on_patterns operation d a b = unless (finite a and finite b) (refused 9) (rounded_written (marked_by operation binary32 d (number_read a) (number_read b)))

-- the public calls: refusal 2 comes first
unfoldable pub pattern_call : Operation → (d a b : ℕ) → Given MarkedPattern
pattern_call operation d a b = unless (is_direction d) (refused 2) (on_patterns operation (direction d) a b)

-- ---- for inner functions: what a call is given, before the operation
unfoldable pub call_read : (d a b : ℕ) → Result (Direction × Number × Number) Refusal
call_read d a b =
    unless (is_direction d) (Err NoSuchDirection)
    (unless (finite a and finite b) (Err NotFinite) (Ok (direction d, number_read a, number_read b)))
