-- `rump::successors::gap_above` meets its contract.
use Rattle.number.proofs.Prelude.{members, known}
use Rattle.rump.specs.Figures.{gap_above}
use Rattle.rump.proofs.Steps.{gave, refuses, ended}
use Rattle.rump.proofs.SuccessorFigures.{successor_member}
use Rattle.rump.proofs.successors.gap_above.Goals as goal

pub returns-in_err-s : goal.returns-in_err-s
unfolding gap_above
returns-in_err-s c = rw (refuses c.successor.ensures c.in_err-s.was) (ended _ _ c.from_residual.ensures.1)

pub subtract-requires : goal.subtract-requires
subtract-requires c =
    let a = (known c.requires.usable).admits in
    record {
      usable = c.requires.usable;
      first = successor_member c.args.prepared.format c.args.x a (members _ a c.requires.number) (gave c.successor.ensures c.in_ok-s.was);
      second = c.requires.number;
    }

pub returns : goal.returns
unfolding gap_above
returns c = rw (gave c.successor.ensures c.in_ok-s.was) c.subtract.ensures
