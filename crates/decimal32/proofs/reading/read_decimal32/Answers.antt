-- `decimal32::reading::read_decimal32` meets its contract.
use Rattle.theory.proofs.Prelude.{◌∙◌, ap, sym}
use Rattle.theory.proofs.Tests.{unless_passed, unless_failed}
use Rattle.format.specs.Given.{gives}
use Rattle.decimal32.specs.Patterns.{decimal32_read}
use Rattle.decimal32.proofs.reading.read_decimal32.Goals as goal

pub returns-then-not-is_finite : goal.returns-then-not-is_finite
unfolding decimal32_read
returns-then-not-is_finite c = sym (unless_failed _ _ (sym c.is_finite.ensures ∙ c.if-not-is_finite.true))

pub read_finite-requires : goal.read_finite-requires
read_finite-requires c = sym c.is_finite.ensures ∙ c.if-not-is_finite.false

pub returns : goal.returns
unfolding decimal32_read
returns c = ap gives c.read_finite.ensures ∙ sym (unless_passed _ _ (sym c.is_finite.ensures ∙ c.if-not-is_finite.false))
