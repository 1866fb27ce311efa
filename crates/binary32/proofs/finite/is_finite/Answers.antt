-- `binary32::finite::is_finite` meets its contract.
use Rattle.theory.proofs.Prelude.{ℕ, not, ap, eqb}
use Rattle.binary32.specs.Patterns.{finite}
use Rattle.binary32.proofs.finite.is_finite.Goals as goal

pub returns : goal.returns
unfolding finite
returns c = ap (λ (k : ℕ). not (eqb k 255)) c.field_of.ensures
