-- `rump::figures::fifth_figure` meets its contract.
use Rattle.theory.proofs.Prelude.{arith}
use Rattle.number.proofs.Prelude.{known}
use Rattle.rump.specs.Figures.{figure5}
use Rattle.rump.proofs.Steps.{power_in, gave, refuses, ended, product_gave, product_refuses, product_in, difference_in, gap_in, defect_in}
use Rattle.rump.proofs.figures.fifth_figure.Goals as goal

pub returns-in_err-s : goal.returns-in_err-s
unfolding figure5
returns-in_err-s c = rw (refuses c.gap.ensures c.in_err-s.was) (ended _ _ c.from_residual.ensures.1)

pub returns-in_err-d : goal.returns-in_err-d
unfolding figure5
returns-in_err-d c =
    rw (gave c.gap.ensures c.in_ok-s.was, refuses c.gap_defect.ensures c.in_err-d.was) (ended _ _ c.from_residual-in_err-d.ensures.1)

pub returns-in_err-b : goal.returns-in_err-b
unfolding figure5
returns-in_err-b c =
    rw (
      gave c.gap.ensures c.in_ok-s.was,
      gave c.gap_defect.ensures c.in_ok-d.was,
      ← c.power-base.ensures,
      ← c.power.ensures,
      refuses c.subtract.ensures c.in_err-b.was,
    ) (ended _ _ c.from_residual-in_err-b.ensures.1)

pub returns-in_err-c : goal.returns-in_err-c
unfolding figure5
returns-in_err-c c =
    rw (
      gave c.gap.ensures c.in_ok-s.was,
      gave c.gap_defect.ensures c.in_ok-d.was,
      ← c.power-base.ensures,
      ← c.power.ensures,
      gave c.subtract.ensures c.in_ok-b.was,
      product_refuses _ _ _ _ c.multiply.ensures c.in_err-c.was,
    ) (ended _ _ c.from_residual-in_err-c.ensures.1)

pub returns : goal.returns
unfolding figure5
returns c =
    rw (
      gave c.gap.ensures c.in_ok-s.was,
      gave c.gap_defect.ensures c.in_ok-d.was,
      ← c.power-base.ensures,
      ← c.power.ensures,
      gave c.subtract.ensures c.in_ok-b.was,
      product_gave _ _ _ _ c.multiply.ensures c.in_ok-c.was,
    ) c.subtract-2.ensures

-- ---- what the lines require
pub gap_defect-requires : goal.gap_defect-requires
gap_defect-requires c =
    record {
      usable = c.requires.usable;
      first = c.requires.number;
      second = gap_in (known c.requires.usable).admits c.args.x c.gap.ensures c.in_ok-s.was;
    }

pub power-base-requires : goal.power-base-requires
power-base-requires c = (c.requires.usable, c.requires.kept, omega (arith, (known c.requires.usable).admits.digits_low))

pub subtract-requires : goal.subtract-requires
subtract-requires c =
    let a = (known c.requires.usable).admits in
    record {
      usable = c.requires.usable;
      first = power_in a c.requires.kept _ c.power-base.ensures (omega (arith, a.digits_low));
      second = power_in a c.requires.kept _ c.power.ensures (omega arith);
    }

pub multiply-requires : goal.multiply-requires
multiply-requires c =
    let a = (known c.requires.usable).admits in
    record {
      usable = c.requires.usable;
      first = difference_in _ _ c.power-base.result c.power.result a c.subtract.ensures c.in_ok-b.was;
      second = defect_in a c.args.x c.in_ok-s.s c.gap_defect.ensures c.in_ok-d.was;
    }

pub subtract-requires-2 : goal.subtract-requires-2
subtract-requires-2 c =
    let a = (known c.requires.usable).admits in
    record {
      usable = c.requires.usable;
      first = gap_in a c.args.x c.gap.ensures c.in_ok-s.was;
      second = product_in _ _ _ _ a c.multiply.ensures c.in_ok-c.was;
    }
