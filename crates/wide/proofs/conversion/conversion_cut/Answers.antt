-- `wide::conversion::conversion_cut` meets its contract.
use Rattle.theory.proofs.Prelude.{⊎_elim, arith}
use Rattle.wide.proofs.Conversions.{cut_far}
use Rattle.wide.proofs.conversion.conversion_cut.Goals as goal

pub returns-then-down-gt64 : goal.returns-then-down-gt64
returns-then-down-gt64 c = cut_far c.requires.0 c.requires.1 (omega arith) c.if-down-gt64.true (⊎_elim (λ z. z) (λ z. absurd (omega (arith, z, c.if-down-gt64.true))) c.requires.3)
