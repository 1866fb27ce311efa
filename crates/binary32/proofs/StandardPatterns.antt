-- What lib.Ieee reads from a finite pattern and what it writes are what we read and write: the laws of binary_patterns at lib.Ieee's binary32.
-- An infinity there is refusal 5 here.
use Rattle.theory.proofs.Prelude.{ℕ, true, ◌≡◌, T}
use lib.Ieee as ieee
use lib.Ieee.{Float, fits, of_bits}
use Rattle.format.specs.Given.{Given}
use Rattle.binary_patterns.proofs.Standard as general
use Rattle.binary32.specs.Patterns.{finite, pattern_read, pattern_of, answer_written}
use Rattle.binary32.proofs.Fields.{widths}
use Rattle.binary32.proofs.Standard.{standard}
use Rattle.binary32.proofs.StandardRound.{answered}

-- a float's pattern in lib.Ieee
abbrev pub patterned : Float → Given ℕ
patterned x = general.patterned ieee.binary32 x

-- a finite pattern's float stands for what we read
pub answered_read : (n : ℕ) → finite n ≡ true → answered (of_bits ieee.binary32 n) ≡ pattern_read n
unfolding answered finite pattern_read
answered_read n h = general.answered_read standard n h

-- a float that binary32 holds is written as the number that it stands for
pub patterned_written : (x : Float) → T (fits ieee.binary32 x) → patterned x ≡ answer_written (answered x)
unfolding answered pattern_of
patterned_written x h = general.patterned_written standard widths x h
