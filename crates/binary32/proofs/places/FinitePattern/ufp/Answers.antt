-- `binary32::places::FinitePattern::ufp` meets its contract.
use Rattle.theory.proofs.Prelude.{◌^◌, ◌%◌, ◌∙◌, ap, ◌≡◌, arith}
use Rattle.theory.specs.Units.{ufp}
use Rattle.theory.proofs.Units.{ufp_le}
use Rattle.format.specs.declared.Prepared.{Prepared}
use Rattle.binary32.proofs.PatternPlaces.{ufp_small, ufp_normal}
use Rattle.binary32.proofs.places.FinitePattern.ufp.Goals.{After-leading_power}
use Rattle.binary32.proofs.places.FinitePattern.ufp.Goals as goal

power_is : (c : After-leading_power) → c.leading_power.result ≡ ufp 2 (c.args.self.bits % 2 ^ 31)
power_is c = c.leading_power.ensures ∙ ap (λ (q : Prepared). ufp q.scale.base (c.args.self.bits % 2 ^ 31)) c.prepared_binary32.ensures

pub overflow_cast-result : goal.overflow_cast-result
overflow_cast-result c = omega (arith, power_is (goal.at.overflow_cast-result c).After-leading_power, ufp_le {β = 2} (omega arith) (c.args.self.bits % 2 ^ 31), c.if-size-lt8388608.true)

pub returns-then-size-lt8388608 : goal.returns-then-size-lt8388608
returns-then-size-lt8388608 c =
    ufp_small c.args.self.bits c.args.self.is_finite _ c.if-size-lt8388608.true (power_is (goal.at.returns-then-size-lt8388608 c).After-leading_power)

pub returns : goal.returns
returns c = ufp_normal _ c.args.self.is_finite c.if-size-lt8388608.false
