-- `number::checks::enter_directed` meets its contract.
use Rattle.theory.proofs.Prelude.{◌∙◌, ap, sym}
use Rattle.theory.proofs.Results.{err_returned}
use Rattle.number.specs.Checks.{beside, directed}
use Rattle.number.proofs.CheckLaws.{prepared_entered, direction_stands, direction_fails, direction_goes}
use Rattle.theory.proofs.Directions.{direction_taken}
use Rattle.number.proofs.checks.enter_directed.Goals as goal

pub returns-in_err-prepared : goal.returns-in_err-prepared
unfolding directed
returns-in_err-prepared c =
    err_returned _ c.from_residual.ensures.1
    ∙ ap (beside _) (direction_stands _ _ _ (sym (prepared_entered _) ∙ sym c.prepare.ensures ∙ c.in_err-prepared.was))

pub returns-in_err-direction : goal.returns-in_err-direction
unfolding directed
returns-in_err-direction c =
    err_returned _ c.from_residual-in_err-direction.ensures.1
    ∙ ap (beside _) (direction_fails _ _ _ (sym (prepared_entered _) ∙ sym c.prepare.ensures ∙ c.in_ok-prepared.was) (sym c.try_from.ensures ∙ c.in_err-direction.was))

pub returns : goal.returns
unfolding directed
returns c =
    let read = sym c.try_from.ensures ∙ c.in_ok-direction.was in
    rw (direction_taken _ read).1
    (ap (beside _) (direction_goes _ _ _ (sym (prepared_entered _) ∙ sym c.prepare.ensures ∙ c.in_ok-prepared.was) read))
