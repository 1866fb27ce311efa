-- binary64 patterns: those of 11 exponent bits and 52 fraction bits, with values in units of 2 ^ -1074.
use Rattle.std.specs.Prelude.{ℕ}
use Rattle.format.specs.Given.{Given}
use Rattle.number.specs.declared.Number.{Number}
use Rattle.binary_patterns.specs.Patterns.{pattern_read, pattern_written}

-- the answer of read_binary64: the number that a finite pattern stands for, or refusal 9
abbrev pub binary64_read : ℕ → Given Number
binary64_read n = pattern_read 11 52 n

-- the answer of write_binary64: the pattern of a number of published format 4, or refusal 3
abbrev pub binary64_written : Number → Given ℕ
binary64_written x = pattern_written 11 52 x
