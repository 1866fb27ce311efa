-- `Direction::try_from` gives the direction that a number has.
use Rattle.theory.proofs.Prelude.{ap, sym, arith, lt-leb}
use Rattle.theory.specs.Directions.{is_direction, direction, direction_read}
use Rattle.theory.specs.Tests.{unless}
use Rattle.theory.proofs.Tests.{unless_failed}
use Rattle.theory.proofs.DirectionTryFromU32.try_from.Goals as goal

pub returns-in-0 : goal.returns-in-0
unfolding direction_read is_direction direction unless
returns-in-0 c = ap direction_read (sym c.in-0.is)

pub returns-in-1 : goal.returns-in-1
unfolding direction_read is_direction direction unless
returns-in-1 c = ap direction_read (sym c.in-1.is)

pub returns-in-2 : goal.returns-in-2
unfolding direction_read is_direction direction unless
returns-in-2 c = ap direction_read (sym c.in-2.is)

pub returns-in-3 : goal.returns-in-3
unfolding direction_read is_direction direction unless
returns-in-3 c = ap direction_read (sym c.in-3.is)

pub returns-in-4 : goal.returns-in-4
unfolding direction_read is_direction direction unless
returns-in-4 c = ap direction_read (sym c.in-4.is)

pub returns-in_default : goal.returns-in_default
unfolding direction_read is_direction
returns-in_default c = sym (unless_failed _ _ (lt-leb _ _ (omega arith)))
