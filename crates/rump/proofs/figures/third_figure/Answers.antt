-- `rump::figures::third_figure` meets its contract.
use Rattle.number.proofs.Prelude.{known}
use Rattle.rump.specs.Figures.{figure3}
use Rattle.rump.proofs.Steps.{subrealmin_in, gave, refuses, ended, sum_in}
use Rattle.rump.proofs.figures.third_figure.Goals as goal

pub returns-in_err-s : goal.returns-in_err-s
unfolding figure3
returns-in_err-s c = rw (← c.subrealmin.ensures, refuses c.add.ensures c.in_err-s.was) (ended _ _ c.from_residual.ensures.1)

pub returns : goal.returns
unfolding figure3
returns c = rw (← c.subrealmin.ensures, gave c.add.ensures c.in_ok-s.was) c.subtract.ensures

-- ---- what the lines require
pub add-requires : goal.add-requires
add-requires c =
    record {
      usable = c.requires.usable;
      first = c.requires.number;
      second = subrealmin_in (known c.requires.usable).admits c.subrealmin.ensures;
    }

pub subtract-requires : goal.subtract-requires
subtract-requires c =
    record {
      usable = c.requires.usable;
      first = sum_in _ _ c.args.x c.subrealmin.result (known c.requires.usable).admits c.add.ensures c.in_ok-s.was;
      second = c.requires.number;
    }
