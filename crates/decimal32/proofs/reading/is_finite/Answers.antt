-- `decimal32::reading::is_finite` meets its contract.
use Rattle.theory.proofs.Prelude.{ℕ, ap, ltb}
use Rattle.decimal32.specs.Patterns.{finite}
use Rattle.decimal32.proofs.reading.is_finite.Goals as goal

pub returns : goal.returns
unfolding finite
returns c = ap (λ (five : ℕ). ltb five 30) c.five_of.ensures
