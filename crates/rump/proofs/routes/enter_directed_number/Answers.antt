-- `rump::routes::enter_directed_number` meets its contract.
use Rattle.theory.proofs.Prelude.{◌∙◌, ap, sym}
use Rattle.theory.proofs.Results.{err_returned}
use Rattle.number.specs.Checks.{beside}
use Rattle.number.proofs.CheckLaws.{directed_stands, directed_goes}
use Rattle.rump.proofs.routes.enter_directed_number.Goals as goal

pub returns-in_err-prepared : goal.returns-in_err-prepared
returns-in_err-prepared c =
    err_returned _ c.from_residual.ensures.1 ∙ directed_stands _ _ _ _ (sym c.enter_directed.ensures ∙ c.in_err-prepared.was)

pub returns-in_err-prepared-2 : goal.returns-in_err-prepared-2
returns-in_err-prepared-2 c =
    err_returned _ c.from_residual-in_err-prepared-2.ensures.1
    ∙ ap (beside c.in_ok-prepared.direction) (sym c.in_err-prepared-2.was)
    ∙ directed_goes _ _ _ _ _ (sym c.enter_directed.ensures ∙ c.in_ok-prepared.was) c.with_number.ensures

pub returns : goal.returns
returns c =
    ap (beside c.in_ok-prepared.direction) (sym c.in_ok-prepared-2.was)
    ∙ directed_goes _ _ _ _ _ (sym c.enter_directed.ensures ∙ c.in_ok-prepared.was) c.with_number.ensures
