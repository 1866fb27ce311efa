-- `wide::conversion::drop_digits` meets its contract.
use Rattle.theory.proofs.Prelude.{◌+◌, ◌-◌}
use Rattle.wide.specs.Conversion.{Dropping}
use Rattle.wide.proofs.conversion.drop_digits.Given as goal

abbrev pub invariant-loop-count : goal.invariant-loop-count
invariant-loop-count l = Dropping l.base l.bound l.n l.down l.steps l.location l.count

abbrev pub decreases-loop-count : goal.decreases-loop-count
decreases-loop-count l = l.down - l.count + l.steps
