-- `number::checks::enter` meets its contract.
use Rattle.theory.proofs.Prelude.{◌∙◌}
use Rattle.number.proofs.CheckLaws.{prepared_entered, number_after}
use Rattle.number.proofs.checks.enter.Goals as goal

pub returns : goal.returns
returns c = c.with_number.ensures ∙ number_after _ _ _ _ (c.prepare.ensures ∙ prepared_entered _)
