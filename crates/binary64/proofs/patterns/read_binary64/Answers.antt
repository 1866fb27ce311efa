-- `binary64::patterns::read_binary64` meets its contract.
use Rattle.theory.proofs.Prelude.{◌∙◌, ap, sym}
use Rattle.format.specs.Given.{gives}
use Rattle.binary_patterns.proofs.Fields.{endless_field}
use Rattle.binary_patterns.proofs.RoundTrips.{read_made, read_refused}
use Rattle.binary64.proofs.patterns.read_binary64.Goals as goal

pub returns-then-not-is_finite : goal.returns-then-not-is_finite
returns-then-not-is_finite c = sym (read_refused 11 52 _ (endless_field 11 52 _ (sym c.is_finite.ensures ∙ c.if-not-is_finite.true)))

pub returns : goal.returns
returns c = ap gives c.read_finite.ensures ∙ sym (read_made 11 52 _ (sym c.is_finite.ensures ∙ c.if-not-is_finite.false))
