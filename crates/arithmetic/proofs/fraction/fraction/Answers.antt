-- `arithmetic::fraction::fraction` meets its contract.
use Rattle.theory.proofs.Prelude.{◌∙◌}
use Rattle.number.proofs.CheckLaws.{passed, stops, no_format, not_a_direction, one_direction, operation_answers}
use Rattle.arithmetic.specs.Marked.{marked_fraction, fraction_answer}
use Rattle.arithmetic.proofs.Prelude.{Direction, Format, back}
use Rattle.arithmetic.proofs.fraction.fraction.Goals as goal

pub returns-in_err-prepared : goal.returns-in_err-prepared
unfolding fraction_answer
returns-in_err-prepared c = stops _ _ _ _ _ (no_format _ _ _ c.prepare.ensures c.in_err-prepared.was) c.from_residual.ensures.1

pub returns-in_err-direction : goal.returns-in_err-direction
unfolding fraction_answer
returns-in_err-direction c =
    stops _ _ _ _ _ (not_a_direction _ _ _ _ c.prepare.ensures c.in_ok-prepared.was c.try_from.ensures c.in_err-direction.was) c.from_residual-in_err-direction.ensures.1

pub divide_whole-requires : goal.divide_whole-requires
divide_whole-requires c = (passed _ _ _ (one_direction _ _ c.prepare.ensures c.in_ok-prepared.was c.try_from.ensures c.in_ok-direction.was)).usable

pub returns : goal.returns
unfolding fraction_answer
returns c =
    (c.divide_whole.ensures ∙ rw (back c.ranges.numerator))
    ∙ operation_answers _ _ _ (λ (f : Format) (d : Direction). marked_fraction f d c.args.numerator c.args.denominator)
    (one_direction _ _ c.prepare.ensures c.in_ok-prepared.was c.try_from.ensures c.in_ok-direction.was) c.try_from.ensures c.in_ok-direction.was
