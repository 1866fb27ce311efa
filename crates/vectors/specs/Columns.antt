-- A row of the vectors: 16 columns of 16 hexadecimal digits, a space after each but the last, which a line feed ends.
use Rattle.std.specs.Prelude.{ℕ, zero, suc, ◌+◌, ◌*◌, ◌%◌, ◌^◌, Bool, true, cond, ◌&&◌, List, [], ◌∷◌, ℤ, ◌==◌, nat_lt, slice_index}
use Rattle.std.specs.Int.{w32}
use Rattle.std.proofs.Common.{to_z}
use Rattle.theory.specs.Tests.{◌and◌}
use Rattle.lines.specs.Digits.{digit_of}

-- how many columns a row has, and how many bytes
abbrev pub columns : ℕ
columns = 16

abbrev pub row_length : ℕ
row_length = 17 * columns

-- the number whose digits are those of v and then n from position `at` on; 2 ^ 63 where one of these is none
unfoldable pub digits_from : (row : List ℕ) (v at n : ℕ) → ℕ
digits_from row v at zero = v
digits_from row v at (suc n) = cond (nat_lt (digit_of (slice_index row at)) 16) (digits_from row (v * 16 + digit_of (slice_index row at)) (suc at) n) (2 ^ 63)

-- the 16 digits at column c
unfoldable pub column_at : (row : List ℕ) (c : ℕ) → ℕ
column_at row c = digits_from row 0 (17 * c) 16

-- a column may hold the numbers that are below its limit once its shift is added: the number of an operation, a sign, a significand
-- or a pattern, or 32 bits, from 0 on or from - 2 ^ 31 on; none may hold 2 ^ 63
abbrev pub column_limits : List ℕ
column_limits = 24 ∷ 2 ^ 32 ∷ 2 ^ 32 ∷ 2 ^ 32 ∷ 2 ^ 32 ∷ 2 ^ 32 ∷ 2 ∷ 2 ^ 63 ∷ 2 ^ 32 ∷ 2 ∷ 2 ^ 63 ∷ 2 ^ 32 ∷ 2 ^ 32 ∷ 2 ∷ 2 ^ 63 ∷ 2 ^ 32 ∷ []

abbrev pub shifts : List ℕ
shifts = 0 ∷ 0 ∷ 0 ∷ 2 ^ 31 ∷ 2 ^ 31 ∷ 0 ∷ 0 ∷ 0 ∷ 2 ^ 31 ∷ 0 ∷ 0 ∷ 2 ^ 31 ∷ 0 ∷ 0 ∷ 0 ∷ 2 ^ 31 ∷ []

-- the bytes after the columns
abbrev pub ends : List ℕ
ends = 32 ∷ 32 ∷ 32 ∷ 32 ∷ 32 ∷ 32 ∷ 32 ∷ 32 ∷ 32 ∷ 32 ∷ 32 ∷ 32 ∷ 32 ∷ 32 ∷ 32 ∷ 10 ∷ []

-- is column c digits of a number that it may hold, with the right byte after it?
unfoldable pub is_column : (row : List ℕ) (c : ℕ) → Bool
is_column row c =
    nat_lt ((column_at row c + slice_index shifts c) % 2 ^ 64) (slice_index column_limits c) && slice_index row (17 * c + 16) == slice_index ends c

-- are n columns from c on?
unfoldable pub are_columns : (row : List ℕ) (c n : ℕ) → Bool
are_columns row c zero = true
are_columns row c (suc n) = is_column row c and are_columns row (suc c) n

-- the lower 32 bits of column c, and the same as a signed number, in two's complement
abbrev pub word_at : (row : List ℕ) (c : ℕ) → ℕ
word_at row c = column_at row c % 2 ^ 32

abbrev pub integer_at : (row : List ℕ) (c : ℕ) → ℤ
integer_at row c = to_z w32 (word_at row c)
