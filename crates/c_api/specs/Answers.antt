-- What is given, as C sees it: the refusal's number, 0 for none, and the values; at a refusal numbers in no format, and zero for the others.
-- And a number as C hands it over.
use Rattle.std.specs.Prelude.{ℕ, ◌*◌, ◌-◌, ◌^◌, ◌<◌, ◌≡◌, Bool, cond, [], ◌∷◌, leb, eqb, ℤ, pos, negsuc}
use Rattle.std.specs.declared.cmp.Ordering.{Ordering}
use Rattle.std.specs.declared.cmp.Ordering.TheVariants.{Less, Equal, Greater}
use Rattle.theory.specs.declared.Mark.{Mark}
use Rattle.theory.specs.declared.Mark.TheVariants.{Exact, Low, High}
use Rattle.format.specs.declared.Format.{Format}
use Rattle.format.specs.Directions.{direction}
use Rattle.format.specs.Given.{Given, gives, refused, refused_at}
use Rattle.number.specs.declared.Number.{Number}
use Rattle.number.specs.Checks.{checked}
use Rattle.arithmetic.specs.declared.Rounded.{Rounded}
use Rattle.arithmetic.specs.declared.CountedQuotient.{CountedQuotient}
use Rattle.arithmetic.specs.Marked.{marked_record}
use Rattle.fast_two_sum.specs.declared.Steps.{Steps}
use Rattle.c_api.specs.declared.answers.CNumber.{CNumber}
use Rattle.c_api.specs.declared.answers.NumberOut.{NumberOut}
use Rattle.c_api.specs.declared.answers.RoundedOut.{RoundedOut}
use Rattle.c_api.specs.declared.answers.QuotientOut.{QuotientOut}
use Rattle.c_api.specs.declared.answers.OrderOut.{OrderOut}
use Rattle.c_api.specs.declared.answers.PublishedOut.{PublishedOut}
use Rattle.c_api.specs.declared.answers.TripleOut.{TripleOut}
use Rattle.c_api.specs.declared.answers.CheckOut.{CheckOut}
use Rattle.c_api.specs.declared.answers.Pattern64Out.{Pattern64Out}
use Rattle.c_api.specs.declared.answers.SlicesOut.{SlicesOut}
use Rattle.c_api.specs.declared.answers.IndexedOut.{IndexedOut}
use Rattle.c_api.specs.declared.answers.StretchOut.{StretchOut}

-- the refusal of what is given
abbrev pub refusal_out : {A : Type 0} → Given A → ℕ
refusal_out (gives x) = 0
refusal_out (refused number) = number
refusal_out (refused_at number index) = number

-- its value, or what stands for none
abbrev pub value_out : {A B : Type 0} → (A → B) → B → Given A → B
value_out out none (gives x) = out x
value_out out none (refused number) = none
value_out out none (refused_at number index) = none

-- the index of its refusal, and whether there is one
abbrev pub index_out : {A : Type 0} → Given A → ℕ
index_out (gives x) = 0
index_out (refused number) = 0
index_out (refused_at number index) = index

abbrev pub indexed_out : {A : Type 0} → Given A → ℕ
indexed_out (gives x) = 0
indexed_out (refused number) = 0
indexed_out (refused_at number index) = 1

-- ---- numbers: no number of an admitted format has this significand
abbrev pub no_significand : ℕ
no_significand = 2 ^ 64 - 1

-- C's sign is 0 or 1, and any other makes a number that is in no format
abbrev pub number_in : CNumber → Number
number_in x = record { negative = eqb x.negative 1; significand = cond (leb x.negative 1) x.significand no_significand; exponent = x.exponent }

abbrev pub number_for : Number → CNumber
number_for x = record { negative = cond x.negative 1 0; significand = x.significand; exponent = x.exponent }

-- what stands for the number of a refused answer
abbrev pub no_number : CNumber
no_number = record { negative = 0; significand = no_significand; exponent = pos 0 }

abbrev pub number_out : Given Number → NumberOut
number_out g = record { refusal = refusal_out g; number = value_out number_for no_number g }

-- ---- marks: 0 exact, 1 low, 2 high
abbrev pub mark_number : Mark → ℕ
mark_number Exact = 0
mark_number Low = 1
mark_number High = 2

abbrev pub rounded_out : Given Rounded → RoundedOut
rounded_out g =
    record {
      refusal = refusal_out g;
      mark = value_out (λ (x : Rounded). mark_number x.mark) 0 g;
      number = value_out (λ (x : Rounded). number_for x.number) no_number g;
    }

-- the answer of convert: C's number need not be in the format, but a sign that is neither 0 nor 1 is refused by 3, after 1 and 2 and before 5
abbrev pub converted_in : Format → (d : ℕ) → CNumber → Given Rounded
converted_in f d x = checked f (d ∷ []) [] (cond (leb x.negative 1) (marked_record f (direction d) (number_in x)) (refused 3))

abbrev pub quotient_out : Given CountedQuotient → QuotientOut
quotient_out g =
    record {
      refusal = refusal_out g;
      mark = value_out (λ (x : CountedQuotient). mark_number x.mark) 0 g;
      digits = value_out (λ (x : CountedQuotient). x.digits) 0 g;
      number = value_out (λ (x : CountedQuotient). number_for x.number) no_number g;
    }

abbrev pub triple_out : Given Steps → TripleOut
triple_out g =
    record {
      refusal = refusal_out g;
      x = value_out (λ (s : Steps). number_for s.x) no_number g;
      z = value_out (λ (s : Steps). number_for s.z) no_number g;
      y = value_out (λ (s : Steps). number_for s.y) no_number g;
    }

-- ---- the others
abbrev pub order_number : Ordering → ℤ
order_number Less = negsuc 0
order_number Equal = pos 0
order_number Greater = pos 1

abbrev pub order_out : Given Ordering → OrderOut
order_out g = record { refusal = refusal_out g; order = value_out order_number (pos 0) g }

abbrev pub no_format : Format
no_format = record { base = 0; digits = 0; emin = pos 0; emax = pos 0 }

abbrev pub published_out : Given Format → PublishedOut
published_out g = record { refusal = refusal_out g; format = value_out (λ (f : Format). f) no_format g }

abbrev pub check_out : Given Bool → CheckOut
check_out g = record { refusal = refusal_out g; yes = value_out (λ (b : Bool). cond b 1 0) 0 g }

-- the refusal in the upper half, the pattern in the lower, which is 0 at a refusal
abbrev pub pattern_out : Given ℕ → ℕ
pattern_out (gives n) = n
pattern_out (refused number) = number * 2 ^ 32
pattern_out (refused_at number index) = number * 2 ^ 32

-- a pattern of 64 bits and the refusal
abbrev pub pattern64_out : Given ℕ → Pattern64Out
pattern64_out g = record { refusal = refusal_out g; pattern = value_out (λ (n : ℕ). n) 0 g }

abbrev pub slices_out : Given ℕ → SlicesOut
slices_out g = record { refusal = refusal_out g; index = index_out g; inexact = value_out (λ (n : ℕ). n) 0 g }

-- a position, a count or a pattern, and an index where the refusal has one
abbrev pub count_out : Given ℕ → IndexedOut
count_out g = record { refusal = refusal_out g; value = value_out (λ (n : ℕ). n) 0 g; indexed = indexed_out g; index = index_out g }

-- the calmer log by its number
abbrev pub stretch_out : Given ℕ → StretchOut
stretch_out g = record { refusal = refusal_out g; log = value_out (λ (n : ℕ). n) 0 g; indexed = indexed_out g; index = index_out g }

-- an index that a number of 32 bits holds
abbrev pub SmallIndex : Given ℕ → Type 0
SmallIndex g = (number index : ℕ) → g ≡ refused_at number index → index < 2 ^ 32
