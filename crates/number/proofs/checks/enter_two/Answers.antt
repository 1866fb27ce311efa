-- `number::checks::enter_two` meets its contract.
use Rattle.theory.proofs.Prelude.{◌∙◌}
use Rattle.number.proofs.CheckLaws.{number_after}
use Rattle.number.proofs.checks.enter_two.Goals as goal

pub returns : goal.returns
returns c = c.with_number.ensures ∙ number_after _ _ _ _ c.enter.ensures
