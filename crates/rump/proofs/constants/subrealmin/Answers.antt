-- `rump::constants::subrealmin` meets its contract.
use Rattle.theory.proofs.Prelude.{arith}
use Rattle.number.proofs.Prelude.{known}
use Rattle.rump.proofs.constants.subrealmin.Goals as goal

pub power_number-requires : goal.power_number-requires
power_number-requires c = (c.requires, omega (arith, (known c.requires).admits.digits_low))
