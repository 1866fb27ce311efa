-- `rounding::digits::normalise` meets its contract: the shift is the lesser of `most` and of the digits that m lacks.
use Rattle.theory.proofs.Prelude.{arith}
use Rattle.rounding.proofs.Normals.{digits_fit, extended}
use Rattle.rounding.proofs.digits.normalise.Goals as goal

pub overflow_sub-lack : goal.overflow_sub-lack
overflow_sub-lack c = digits_fit c.requires.0 c.digit_count.ensures c.requires.1

pub overflow_mul-result : goal.overflow_mul-result
overflow_mul-result c =
    let made = extended c.requires.0 c.digit_count.ensures c.requires.1 c.min-shift.ensures c.power.ensures in
    omega (arith, made.small, c.requires.0.bound_most)

pub returns : goal.returns
returns c = extended c.requires.0 c.digit_count.ensures c.requires.1 c.min-shift.ensures c.power.ensures
