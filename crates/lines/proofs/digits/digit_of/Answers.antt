-- `lines::digits::digit_of` meets its contract: antt computes that the table passes the test.
use Rattle.theory.proofs.Prelude.{refl, lt-ltb, le-ltb}
use Rattle.theory.specs.Lists.{all}
use Rattle.theory.specs.Tests.{◌and◌}
use Rattle.lines.specs.Digits.{digit_of, is_digit, digit_in, holds_digits}
use Rattle.lines.proofs.digits.digit_of.Goals as goal

pub entry-value-requires : goal.entry-value-requires
unfolding holds_digits all digit_of ◌and◌
entry-value-requires c = refl

pub returns-then-value-lt16 : goal.returns-then-value-lt16
unfolding digit_in is_digit
returns-then-value-lt16 c = rw (← c.entry-value.ensures, lt-ltb _ 16 c.if-value-lt16.true)

pub returns-else-value-lt16 : goal.returns-else-value-lt16
unfolding digit_in is_digit
returns-else-value-lt16 c = rw (← c.entry-value.ensures, le-ltb _ 16 c.if-value-lt16.false)
