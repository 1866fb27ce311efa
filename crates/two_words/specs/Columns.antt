-- The product of two words by its columns, of half their bits: the words have 2 k bits, and the halves k.
use Rattle.std.specs.Prelude.{ℕ, ◌+◌, ◌*◌, ◌/◌, ◌%◌, ◌^◌}

-- the lower halves
abbrev pub first_column : (k a b : ℕ) → ℕ
first_column k a b = a % 2 ^ k * (b % 2 ^ k)

-- a's upper half by b's lower one, and what the first column carries
abbrev pub second_column : (k a b : ℕ) → ℕ
second_column k a b = a / 2 ^ k * (b % 2 ^ k) + first_column k a b / 2 ^ k

-- a's lower half by b's upper one, and the digit of the second column, which stands at the same place
abbrev pub third_column : (k a b : ℕ) → ℕ
third_column k a b = a % 2 ^ k * (b / 2 ^ k) + second_column k a b % 2 ^ k

-- the high word: the upper halves, and what the columns at the place below carry
unfoldable pub high_column : (k a b : ℕ) → ℕ
high_column k a b = a / 2 ^ k * (b / 2 ^ k) + second_column k a b / 2 ^ k + third_column k a b / 2 ^ k

-- the low word: the digits of two columns
unfoldable pub low_column : (k a b : ℕ) → ℕ
low_column k a b = third_column k a b % 2 ^ k * 2 ^ k + first_column k a b % 2 ^ k
