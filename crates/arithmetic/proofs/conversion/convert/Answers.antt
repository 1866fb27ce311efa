-- `arithmetic::conversion::convert` meets its contract.
use Rattle.theory.proofs.Prelude.{◌∙◌}
use Rattle.number.proofs.CheckLaws.{passed, stops, no_format, not_a_direction, one_direction, operation_answers}
use Rattle.arithmetic.specs.Marked.{marked_record, conversion_answer}
use Rattle.arithmetic.proofs.Prelude.{Direction, Format}
use Rattle.arithmetic.proofs.conversion.convert.Goals as goal

pub returns-in_err-prepared : goal.returns-in_err-prepared
unfolding conversion_answer
returns-in_err-prepared c = stops _ _ _ _ _ (no_format _ _ _ c.prepare.ensures c.in_err-prepared.was) c.from_residual.ensures.1

pub returns-in_err-direction : goal.returns-in_err-direction
unfolding conversion_answer
returns-in_err-direction c =
    stops _ _ _ _ _ (not_a_direction _ _ _ _ c.prepare.ensures c.in_ok-prepared.was c.try_from.ensures c.in_err-direction.was) c.from_residual-in_err-direction.ensures.1

pub convert_record-requires : goal.convert_record-requires
convert_record-requires c = (passed _ _ _ (one_direction _ _ c.prepare.ensures c.in_ok-prepared.was c.try_from.ensures c.in_ok-direction.was)).usable

pub returns : goal.returns
unfolding conversion_answer
returns c =
    c.convert_record.ensures
    ∙ operation_answers _ _ _ (λ (f : Format) (d : Direction). marked_record f d c.args.x)
    (one_direction _ _ c.prepare.ensures c.in_ok-prepared.was c.try_from.ensures c.in_ok-direction.was) c.try_from.ensures c.in_ok-direction.was
