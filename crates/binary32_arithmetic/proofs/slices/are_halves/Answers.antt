-- `binary32_arithmetic::slices::are_halves` meets its contract.
use Rattle.theory.proofs.Prelude.{◌∙◌, sym}
use Rattle.theory.proofs.Tests.{and_failed, and_passed}
use Rattle.binary32_arithmetic.proofs.slices.are_halves.Goals as goal

pub returns-then-is_half : goal.returns-then-is_half
returns-then-is_half c = c.is_half-then-is_half.ensures ∙ sym (and_passed _ (sym c.is_half.ensures ∙ c.if-is_half.true))

pub returns-else-is_half : goal.returns-else-is_half
returns-else-is_half c = c.if-is_half.false ∙ sym (and_failed _ (sym c.is_half.ensures ∙ c.if-is_half.false))
