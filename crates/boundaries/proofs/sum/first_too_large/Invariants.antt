-- `boundaries::sum::first_too_large` meets its contract: the strips that were added and the steps that are left, from x on, are as many
-- as all.
use Rattle.theory.proofs.Prelude.{◌+◌, suc, true, ◌≡◌, length, drop}
use Rattle.binary32.specs.Patterns.{finite}
use Rattle.boundaries.specs.Sums.{steps_from, boundary_steps}
use Rattle.boundaries.proofs.sum.first_too_large.Given as goal

abbrev pub invariant-loop-i : goal.invariant-loop-i
invariant-loop-i l =
    record {
      finite : finite l.x ≡ true;
      steps : l.i + 1 + length (steps_from l.direction l.x (drop (l.i + 1) l.strips)) ≡ suc (length (boundary_steps l.direction l.strips));
    }
