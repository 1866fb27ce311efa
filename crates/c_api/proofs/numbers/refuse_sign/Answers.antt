-- `c_api::numbers::refuse_sign` meets its contract.
use Rattle.theory.proofs.Prelude.{◌∙◌, sym}
use Rattle.format.specs.Given.{refused}
use Rattle.number.proofs.CheckLaws.{directed_stops, directed_answers}
use Rattle.c_api.proofs.numbers.refuse_sign.Goals as goal

pub returns-in_err-enter_directed : goal.returns-in_err-enter_directed
returns-in_err-enter_directed c = directed_stops _ _ _ _ _ (sym c.enter_directed.ensures ∙ c.in_err-enter_directed.was) c.from_residual.ensures.1

pub returns : goal.returns
returns c = directed_answers _ _ _ (sym c.enter_directed.ensures ∙ c.in_ok-enter_directed.was) (λ f d. refused 3)
