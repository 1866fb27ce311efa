-- `fast_two_sum::check::enter_check` meets its contract.
use Rattle.theory.proofs.Prelude.{◌∙◌}
use Rattle.number.proofs.CheckLaws.{number_after}
use Rattle.fast_two_sum.proofs.check.enter_check.Goals as goal

pub returns : goal.returns
returns c =
    c.with_number-2.ensures
    ∙ number_after _ _ _ _ (c.with_number.ensures ∙ number_after _ _ _ _ (c.with_number-three.ensures ∙ number_after _ _ _ _ c.enter_two.ensures))
