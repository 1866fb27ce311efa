-- `binary32_arithmetic::operations::pattern_difference` meets its contract.
use Rattle.theory.proofs.Prelude.{◌∙◌, ap, sym}
use Rattle.theory.proofs.Results.{err_returned}
use Rattle.format.specs.Given.{given}
use Rattle.binary32_arithmetic.specs.Calls.{Difference}
use Rattle.binary32_arithmetic.proofs.CallLaws.{call_ready, call_refused, constant_operands, constant_member, constant_written}
use Rattle.binary32_arithmetic.proofs.operations.pattern_difference.Goals as goal

pub returns : goal.returns
returns c =
    let read = call_ready _ _ _ (sym c.read_call.ensures ∙ c.in_ok-d.was) in
    c.write_rounded.ensures ∙ constant_written read.numbers c.prepared_binary32.ensures Difference _ _ c.marked_difference.ensures ∙ read.is Difference

pub returns-in_err-d : goal.returns-in_err-d
returns-in_err-d c = ap given (err_returned _ c.from_residual.ensures.1) ∙ call_refused _ _ _ (sym c.read_call.ensures ∙ c.in_err-d.was) Difference

pub marked_difference-requires : goal.marked_difference-requires
marked_difference-requires c =
    let read = call_ready _ _ _ (sym c.read_call.ensures ∙ c.in_ok-d.was) in
    constant_operands read.numbers c.prepared_binary32.ensures

pub write_rounded-requires : goal.write_rounded-requires
write_rounded-requires c =
    let read = call_ready _ _ _ (sym c.read_call.ensures ∙ c.in_ok-d.was) in
    constant_member read.numbers c.prepared_binary32.ensures Difference _ _ c.marked_difference.ensures
