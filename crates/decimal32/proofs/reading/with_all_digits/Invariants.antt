-- `decimal32::reading::with_all_digits` meets its contract: each turn moves a factor 10 from the power to the significand.
use Rattle.theory.proofs.Prelude.{◌≤◌, ◌<◌, ◌^◌, ◌*◌, ◌≡◌}
use Rattle.decimal32.proofs.reading.with_all_digits.Given as goal

abbrev pub invariant-loop-m : goal.invariant-loop-m
invariant-loop-m l = (l.m < 10 ^ 7) × (l.k ≤ l.place) × (l.m * 10 ^ l.k ≡ l.coefficient * 10 ^ l.place)

abbrev pub decreases-loop-m : goal.decreases-loop-m
decreases-loop-m l = l.k
