-- `rump::figures::gap_defect` meets its contract.
use Rattle.number.proofs.Prelude.{known}
use Rattle.rump.specs.Figures.{defect}
use Rattle.rump.proofs.Steps.{gave, refuses, ended, sum_in, difference_in}
use Rattle.rump.proofs.figures.gap_defect.Goals as goal

pub returns-in_err-raised : goal.returns-in_err-raised
unfolding defect
returns-in_err-raised c = rw (refuses c.add.ensures c.in_err-raised.was) (ended _ _ c.from_residual.ensures.1)

pub returns-in_err-back : goal.returns-in_err-back
unfolding defect
returns-in_err-back c =
    rw (gave c.add.ensures c.in_ok-raised.was, refuses c.subtract.ensures c.in_err-back.was) (ended _ _ c.from_residual-in_err-back.ensures.1)

pub returns : goal.returns
unfolding defect
returns c = rw (gave c.add.ensures c.in_ok-raised.was, gave c.subtract.ensures c.in_ok-back.was) c.subtract-2.ensures

-- ---- what the lines require
pub subtract-requires : goal.subtract-requires
subtract-requires c =
    let s = c.args in
    record {
      usable = c.requires.usable;
      first = sum_in _ _ s.x s.s (known c.requires.usable).admits c.add.ensures c.in_ok-raised.was;
      second = c.requires.first;
    }

pub subtract-requires-2 : goal.subtract-requires-2
subtract-requires-2 c =
    record {
      usable = c.requires.usable;
      first = difference_in _ _ c.in_ok-raised.raised c.args.x (known c.requires.usable).admits c.subtract.ensures c.in_ok-back.was;
      second = c.requires.second;
    }
