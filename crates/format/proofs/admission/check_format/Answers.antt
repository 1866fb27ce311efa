-- `format::admission::check_format` meets its contract.
use Rattle.theory.proofs.Prelude.{◌∙◌, sym}
use Rattle.theory.proofs.Tests.{unless_passed, unless_failed}
use Rattle.format.specs.Formats.{format_checked}
use Rattle.format.proofs.admission.check_format.Goals as goal

pub returns-then-is_admitted : goal.returns-then-is_admitted
unfolding format_checked
returns-then-is_admitted c = sym (unless_passed _ _ (sym c.is_admitted.ensures ∙ c.if-is_admitted.true))

pub returns-else-is_admitted : goal.returns-else-is_admitted
unfolding format_checked
returns-else-is_admitted c = sym (unless_failed _ _ (sym c.is_admitted.ensures ∙ c.if-is_admitted.false))
