-- Hexadecimal digits as bytes of a text, which are those of ASCII.
use Rattle.std.specs.Prelude.{ℕ, zero, suc, ◌+◌, ◌-◌, ◌/◌, ◌%◌, ◌^◌, Bool, cond, List, [], ◌∷◌, leb, ltb, eqb, get_or, Option, Some, None}
use Rattle.theory.specs.Tests.{◌and◌}
use Rattle.theory.specs.Lists.{all, numbers}

-- ---- read
abbrev pub between : (low high : ℕ) → ℕ → Bool
between low high b = leb low b and leb b high

-- the value of 0 to 9, A to F or a to f, and 16 for any other byte
unfoldable pub digit_of : ℕ → ℕ
digit_of b = cond (between 48 57 b) (b - 48) (cond (between 65 70 b) (b - 65 + 10) (cond (between 97 102 b) (b - 97 + 10) 16))

unfoldable pub is_digit : ℕ → Bool
is_digit b = ltb (digit_of b) 16

-- the value of a byte that is a digit
unfoldable pub digit_in : ℕ → Option ℕ
digit_in b = cond (is_digit b) (Some (digit_of b)) None

-- a table has this value at each byte
unfoldable pub holds_digits : List ℕ → Bool
holds_digits table = all (λ (n : ℕ). eqb (get_or table n 0) (digit_of n)) (numbers 0 256)

-- ---- printed
-- a digit, letters in lower case
abbrev pub glyph : ℕ → ℕ
glyph d = cond (ltb d 10) (d + 48) (d - 10 + 97)

-- the lowest k hexadecimal digits of n, the highest of them first
abbrev pub low_digits : (k n : ℕ) → List ℕ
low_digits zero n = []
low_digits (suc k) n = glyph (n / 16 ^ k % 16) ∷ low_digits k n

-- a number below 100, in decimal
abbrev pub decimal : ℕ → List ℕ
decimal n = cond (ltb n 10) (glyph n ∷ []) (glyph (n / 10) ∷ glyph (n % 10) ∷ [])
