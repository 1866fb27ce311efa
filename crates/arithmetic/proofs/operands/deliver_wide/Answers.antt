-- `arithmetic::operands::deliver_wide` meets its contract.
use Rattle.theory.proofs.Prelude.{◌∙◌, ap, sym}
use Rattle.theory.proofs.Results.{err_returned}
use Rattle.format.specs.Given.{given}
use Rattle.arithmetic.specs.Marked.{with_mark}
use Rattle.arithmetic.proofs.operands.deliver_wide.Goals as goal

pub returns-in_err-number : goal.returns-in_err-number
returns-in_err-number c = ap given (err_returned _ c.from_residual.ensures.1) ∙ ap (with_mark _) (ap given (sym c.in_err-number.was) ∙ c.deliver.ensures)

pub returns : goal.returns
returns c = ap (with_mark _) (ap given (sym c.in_ok-number.was) ∙ c.deliver.ensures)
