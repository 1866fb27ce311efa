-- `rounding::digits::digit_count` meets its contract: the bound is the power `count`, at most base times n.
use Rattle.theory.proofs.Prelude.{◌≤◌, ◌^◌, ◌*◌, ◌-◌, suc, ◌≡◌}
use Rattle.rounding.proofs.digits.digit_count.Given as goal

abbrev pub invariant-loop-bound : goal.invariant-loop-bound
invariant-loop-bound l = (l.bound ≡ l.base ^ l.count) × (l.bound ≤ l.base * l.n)

abbrev pub decreases-loop-bound : goal.decreases-loop-bound
decreases-loop-bound l = suc l.n - l.bound
