-- The value of a number of two words.
use Rattle.std.specs.Prelude.{ℕ, ◌+◌, ◌*◌, ◌^◌}
use Rattle.two_words.specs.declared.TwoWords.{TwoWords}

-- of words of w bits: the high word counts 2 ^ w
abbrev pub amount_of : (w : ℕ) → TwoWords → ℕ
amount_of w x = x.high * 2 ^ w + x.low

-- of words of 64 bits, as the code has them
abbrev pub amount : TwoWords → ℕ
amount = amount_of 64
