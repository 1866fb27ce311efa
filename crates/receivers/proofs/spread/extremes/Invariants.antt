-- `receivers::spread::extremes` meets its contract.
use Rattle.theory.proofs.Prelude.{◌+◌}
use Rattle.receivers.proofs.Spreads.{Reached}
use Rattle.receivers.proofs.spread.extremes.Given as goal

abbrev pub invariant-loop-p : goal.invariant-loop-p
invariant-loop-p l = Reached l.patterns (l.p-index + 1) l.least l.greatest
