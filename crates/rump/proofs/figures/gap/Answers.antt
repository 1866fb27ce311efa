-- `rump::figures::gap` meets its contract.
use Rattle.number.proofs.Prelude.{known}
use Rattle.rump.specs.Figures.{gap}
use Rattle.rump.proofs.Steps.{subrealmin_in, gave, refuses, ended, difference_in}
use Rattle.rump.proofs.figures.gap.Goals as goal

pub returns-in_err-p : goal.returns-in_err-p
unfolding gap
returns-in_err-p c = rw (← c.subrealmin.ensures, refuses c.subtract.ensures c.in_err-p.was) (ended _ _ c.from_residual.ensures.1)

pub returns : goal.returns
unfolding gap
returns c = rw (← c.subrealmin.ensures, gave c.subtract.ensures c.in_ok-p.was) c.subtract-2.ensures

-- ---- what the lines require
pub subtract-requires : goal.subtract-requires
subtract-requires c =
    record {
      usable = c.requires.usable;
      first = c.requires.number;
      second = subrealmin_in (known c.requires.usable).admits c.subrealmin.ensures;
    }

pub subtract-requires-2 : goal.subtract-requires-2
subtract-requires-2 c =
    record {
      usable = c.requires.usable;
      first = c.requires.number;
      second = difference_in _ _ c.args.x c.subrealmin.result (known c.requires.usable).admits c.subtract.ensures c.in_ok-p.was;
    }
