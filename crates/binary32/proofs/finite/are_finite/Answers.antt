-- `binary32::finite::are_finite` meets its contract.
use Rattle.theory.proofs.Prelude.{◌∙◌, sym}
use Rattle.theory.proofs.Tests.{and_failed, and_passed}
use Rattle.binary32.proofs.finite.are_finite.Goals as goal

pub returns-then-is_finite : goal.returns-then-is_finite
returns-then-is_finite c = c.is_finite-then-is_finite.ensures ∙ sym (and_passed _ (sym c.is_finite.ensures ∙ c.if-is_finite.true))

pub returns-else-is_finite : goal.returns-else-is_finite
returns-else-is_finite c = c.if-is_finite.false ∙ sym (and_failed _ (sym c.is_finite.ensures ∙ c.if-is_finite.false))
