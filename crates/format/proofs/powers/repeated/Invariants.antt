-- What is collected times what is left is the power, and no square that is made is above it.
use Rattle.theory.proofs.Prelude.{◌^◌}
use Rattle.format.proofs.Squaring.{Way}
use Rattle.format.proofs.powers.repeated.Given as goal

abbrev pub invariant-loop-rest : goal.invariant-loop-rest
invariant-loop-rest l = Way (l.base ^ l.k) l.result l.square l.rest

abbrev pub decreases-loop-rest : goal.decreases-loop-rest
decreases-loop-rest l = l.rest
