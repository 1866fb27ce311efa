-- `arithmetic::sum::sum` meets its contract.
use Rattle.theory.proofs.Prelude.{◌∙◌}
use Rattle.number.proofs.CheckLaws.{passed, operands, stops, no_format, not_a_direction, one_direction, both_read, operation_answers}
use Rattle.arithmetic.specs.Marked.{marked_sum, sum_answer}
use Rattle.arithmetic.proofs.Prelude.{Direction, Format}
use Rattle.arithmetic.proofs.sum.sum.Goals as goal

pub returns-in_err-prepared : goal.returns-in_err-prepared
unfolding sum_answer
returns-in_err-prepared c = stops _ _ _ _ _ (no_format _ _ _ c.prepare.ensures c.in_err-prepared.was) c.from_residual.ensures.1

pub returns-in_err-direction : goal.returns-in_err-direction
unfolding sum_answer
returns-in_err-direction c =
    stops _ _ _ _ _ (not_a_direction _ _ _ _ c.prepare.ensures c.in_ok-prepared.was c.try_from.ensures c.in_err-direction.was) c.from_residual-in_err-direction.ensures.1

pub returns-in_err-prepared-2 : goal.returns-in_err-prepared-2
unfolding sum_answer
returns-in_err-prepared-2 c =
    let read = one_direction _ _ c.prepare.ensures c.in_ok-prepared.was c.try_from.ensures c.in_ok-direction.was in
    stops _ _ _ _ _ (both_read _ _ c.args.a c.args.b read c.with_number.ensures c.with_number-2.ensures ∙ c.in_err-prepared-2.was)
    c.from_residual-in_err-prepared-2.ensures.1

pub marked_sum-requires : goal.marked_sum-requires
marked_sum-requires c =
    let read = one_direction _ _ c.prepare.ensures c.in_ok-prepared.was c.try_from.ensures c.in_ok-direction.was in
    operands (passed _ _ _ (both_read _ _ c.args.a c.args.b read c.with_number.ensures c.with_number-2.ensures ∙ c.in_ok-prepared-2.was))

pub returns : goal.returns
unfolding sum_answer
returns c =
    let s = c.args in
    let read = one_direction _ _ c.prepare.ensures c.in_ok-prepared.was c.try_from.ensures c.in_ok-direction.was in
    c.marked_sum.ensures
    ∙ operation_answers _ _ _ (λ (f : Format) (d : Direction). marked_sum f d s.a s.b)
    (both_read _ _ s.a s.b read c.with_number.ensures c.with_number-2.ensures ∙ c.in_ok-prepared-2.was) c.try_from.ensures c.in_ok-direction.was
