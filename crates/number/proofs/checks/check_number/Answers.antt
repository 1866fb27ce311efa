-- `number::checks::check_number` meets its contract.
use Rattle.theory.proofs.Prelude.{◌∙◌, sym}
use Rattle.number.proofs.CheckLaws.{goes_on, stops, number_after, prepared_entered}
use Rattle.number.proofs.checks.check_number.Goals as goal

pub returns-in_err-with_number : goal.returns-in_err-with_number
returns-in_err-with_number c =
    stops _ _ _ _ _ (sym (c.with_number.ensures ∙ number_after _ _ _ _ (c.prepare.ensures ∙ prepared_entered _)) ∙ c.in_err-with_number.was) c.from_residual.ensures.1

pub returns : goal.returns
returns c = goes_on _ _ _ _ (sym (c.with_number.ensures ∙ number_after _ _ _ _ (c.prepare.ensures ∙ prepared_entered _)) ∙ c.in_ok-with_number.was)
