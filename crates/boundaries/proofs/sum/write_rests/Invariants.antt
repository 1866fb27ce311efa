-- `boundaries::sum::write_rests` meets its contract: what is written and the rests of the steps that are left are all rests, and
-- the steps that are left lead to the last x.
use Rattle.theory.proofs.Prelude.{◌+◌, true, ◌≡◌, length, drop}
use Rattle.binary32.specs.Patterns.{finite}
use Rattle.boundaries.specs.Sums.{steps_from, boundary_steps, last_x, rests_of, first_of}
use Rattle.boundaries.proofs.Passes.{rests_left}
use Rattle.boundaries.proofs.sum.write_rests.Given as goal

abbrev pub invariant-loop-done : goal.invariant-loop-done
invariant-loop-done l =
    record {
      same : length l.rests ≡ length l.initial.rests;
      finite : finite l.x ≡ true;
      rests : rests_left l.direction l.x l.done l.strips l.rests ≡ rests_of (boundary_steps l.direction l.strips);
      last : last_x l.x (steps_from l.direction l.x (drop (l.done + 1) l.strips)) ≡ last_x (first_of l.strips) (boundary_steps l.direction l.strips);
    }
