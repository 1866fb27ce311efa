-- A row: whether its call answers what it says; and how many rows of an input agree.
use Rattle.std.specs.Prelude.{ℕ, zero, suc, ◌+◌, ◌-◌, ◌/◌, ◌%◌, ◌^◌, Bool, false, cond, ◌&&◌, List, length, drop, ◌==◌, nat_le}
use Rattle.std.specs.Bool.{beq}
use Rattle.std.specs.Int.{w32}
use Rattle.std.proofs.Common.{of_z}
use Rattle.theory.specs.Tests.{◌and◌}
use Rattle.format.specs.Given.{Given, gives, refused, refused_at}
use Rattle.number.specs.declared.Number.{Number}
use Rattle.vectors.specs.declared.rows.Tally.{Tally}
use Rattle.vectors.specs.Columns.{columns, row_length, are_columns, column_at, word_at, integer_at}
use Rattle.vectors.specs.Calls.{whole, answer_of}

-- the number in columns c to c + 2; the sign 1 is minus
unfoldable pub number_at : (row : List ℕ) (c : ℕ) → Number
number_at row c = record { negative = (word_at row c == 1); significand = column_at row (c + 1); exponent = integer_at row (c + 2) }

-- what the call answers
unfoldable pub row_answer : (row : List ℕ) → Given Number
row_answer row =
    answer_of (word_at row 0)
    (record { base = word_at row 1; digits = word_at row 2; emin = integer_at row 3; emax = integer_at row 4 })
    (word_at row 5)
    (number_at row 6)
    (number_at row 9)

-- are this refusal and this number, its exponent by the 32 bits, the answer that the row says?
unfoldable pub is_answer : (row : List ℕ) (refusal : ℕ) (x : Number) → Bool
is_answer row refusal x =
    (word_at row 12 == refusal)
    && beq x.negative (number_at row 13).negative
    && x.significand == (number_at row 13).significand
    && of_z w32 x.exponent == of_z w32 (number_at row 13).exponent

-- a number stands beside refusal 0, zeros beside every other
unfoldable pub says : (row : List ℕ) → Given Number → Bool
says row (gives x) = is_answer row 0 x
says row (refused number) = is_answer row number (whole false 0)
says row (refused_at number index) = is_answer row number (whole false 0)

-- the row has its bytes, its columns are well-formed, and its call answers what it says
unfoldable pub agrees : (row : List ℕ) → Bool
agrees row = nat_le row_length (length row) and are_columns row 0 columns and says row (row_answer row)

-- one row more; counts have 64 bits
unfoldable pub with_row : Tally → (row : List ℕ) → Tally
with_row t row = record { agree = (t.agree + cond (agrees row) 1 0) % 2 ^ 64; all = (t.all + 1) % 2 ^ 64 }

-- the rows in so many bytes: each has its length, the last perhaps fewer
abbrev pub rows_in : (bytes : ℕ) → ℕ
rows_in bytes = (bytes + row_length - 1) / row_length

-- the tally after n rows of an input
unfoldable pub counted : Tally → (input : List ℕ) (n : ℕ) → Tally
counted t input zero = t
counted t input (suc n) = counted (with_row t input) (drop row_length input) n
