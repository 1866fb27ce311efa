-- `binary64::patterns::is_finite` meets its contract.
use Rattle.theory.proofs.Prelude.{ℕ, not, ap, eqb}
use Rattle.binary_patterns.specs.Patterns.{finite}
use Rattle.binary64.proofs.patterns.is_finite.Goals as goal

pub returns : goal.returns
unfolding finite
returns c = ap (λ (k : ℕ). not (eqb k 2047)) c.field_of.ensures
