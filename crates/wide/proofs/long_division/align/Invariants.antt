-- `wide::long_division::align` meets its contract: the divisor is d times the power `place`; before a turn it is at most n.
use Rattle.theory.proofs.Prelude.{◌≤◌, ◌<◌, ◌^◌, ◌*◌, ◌-◌, ◌≡◌}
use Rattle.wide.proofs.long_division.align.Given as goal

abbrev pub invariant-loop-divisor : goal.invariant-loop-divisor
invariant-loop-divisor l = (l.divisor ≡ l.d * l.base ^ l.place) × (1 ≤ l.divisor) × (l.divisor < 2 ^ 32 * l.base)

abbrev pub decreases-loop-divisor : goal.decreases-loop-divisor
decreases-loop-divisor l = 2 ^ 32 * l.base - l.divisor
