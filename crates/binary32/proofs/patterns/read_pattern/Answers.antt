-- `binary32::patterns::read_pattern` meets its contract.
use Rattle.theory.proofs.Prelude.{◌∙◌, ap, sym}
use Rattle.format.specs.Given.{gives}
use Rattle.binary32.proofs.Fields.{endless_field}
use Rattle.binary32.proofs.RoundTrips.{read_made, read_refused}
use Rattle.binary32.proofs.patterns.read_pattern.Goals as goal

pub returns-then-not-is_finite : goal.returns-then-not-is_finite
returns-then-not-is_finite c = sym (read_refused _ (endless_field _ (sym c.is_finite.ensures ∙ c.if-not-is_finite.true)))

pub returns : goal.returns
returns c = ap gives c.read_finite.ensures ∙ sym (read_made _ (sym c.is_finite.ensures ∙ c.if-not-is_finite.false))
