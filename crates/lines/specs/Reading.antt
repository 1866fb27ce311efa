-- Lines that are read: eight hexadecimal digits, letters of either case.
use Rattle.std.specs.Prelude.{ℕ, ◌+◌, ◌*◌, ◌%◌, ◌^◌, Bool, cond, List, [], ◌∷◌, eqb, ltb, length}
use Rattle.theory.specs.Lists.{all}
use Rattle.theory.specs.Tests.{◌and◌}
use Rattle.lines.specs.declared.reading.Line.{Line}
use Rattle.lines.specs.declared.reading.Line.TheVariants.{Digits, Bad}
use Rattle.lines.specs.Digits.{digit_of, is_digit}

-- ---- a whole line
-- eight digits and nothing else
unfoldable pub is_pattern : List ℕ → Bool
is_pattern line = all is_digit line and eqb (length line) 8

-- the value of digits that follow v, the first the highest
unfoldable pub value_from : (v : ℕ) → List ℕ → ℕ
value_from v [] = v
value_from v (b ∷ bs) = value_from (v * 16 + digit_of b) bs

abbrev pub digits_value : List ℕ → ℕ
digits_value line = value_from 0 line

-- ---- byte by byte
abbrev pub known : (count value : ℕ) → Line
known count value = Digits count value

abbrev pub fresh : Line
fresh = known 0 0

abbrev pub bad : Line
bad = Bad

-- one byte more
unfoldable pub pushed : Line → ℕ → Line
pushed (Digits count value) b = cond (ltb count 8 and is_digit b) (known (count + 1) (value % 2 ^ 28 * 16 + digit_of b)) bad
pushed Bad b = bad
