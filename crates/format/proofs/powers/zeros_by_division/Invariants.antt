-- `format::powers::zeros_by_division` meets its contract: the loop takes the zeros off one by one.
use Rattle.theory.proofs.Prelude.{◌≤◌, ◌^◌, ◌*◌, ◌≡◌}
use Rattle.format.proofs.powers.zeros_by_division.Given as goal

abbrev pub invariant-loop-rest : goal.invariant-loop-rest
invariant-loop-rest l = (l.m ≡ l.rest * l.base ^ l.count) × (1 ≤ l.rest)

abbrev pub decreases-loop-rest : goal.decreases-loop-rest
decreases-loop-rest l = l.rest
