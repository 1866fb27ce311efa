-- `rump::figures::fourth_figure` meets its contract.
use Rattle.theory.proofs.Prelude.{◌∙◌, sym, arith}
use Rattle.number.proofs.Prelude.{known}
use Rattle.rump.specs.Figures.{figure4}
use Rattle.rump.proofs.Steps.{power_in, gave, refuses, ended, product_gave, product_refuses, sum_in, gap_in}
use Rattle.rump.proofs.figures.fourth_figure.Goals as goal

pub returns-in_err-s : goal.returns-in_err-s
unfolding figure4
returns-in_err-s c = rw (refuses c.gap.ensures c.in_err-s.was) (ended _ _ c.from_residual.ensures.1)

pub returns-in_err-next : goal.returns-in_err-next
unfolding figure4
returns-in_err-next c =
    rw (gave c.gap.ensures c.in_ok-s.was, refuses c.add.ensures c.in_err-next.was) (ended _ _ c.from_residual-in_err-next.ensures.1)

-- S * base where x + S gives x
pub returns-in_err-multiply : goal.returns-in_err-multiply
unfolding figure4
returns-in_err-multiply c =
    rw (
      gave c.gap.ensures c.in_ok-s.was,
      gave c.add.ensures c.in_ok-next.was,
      sym c.same_value.ensures ∙ c.if-same_value.true,
      ← c.power-factor.ensures,
      product_refuses _ _ _ _ c.multiply.ensures c.in_err-multiply.was,
    ) (ended _ _ c.from_residual-in_err-multiply.ensures.1)

pub returns-then-same_value : goal.returns-then-same_value
unfolding figure4
returns-then-same_value c =
    rw (
      gave c.gap.ensures c.in_ok-s.was,
      gave c.add.ensures c.in_ok-next.was,
      sym c.same_value.ensures ∙ c.if-same_value.true,
      ← c.power-factor.ensures,
      product_gave _ _ _ _ c.multiply.ensures c.in_ok-multiply.was,
    )

-- and S elsewhere
pub returns : goal.returns
unfolding figure4
returns c =
    rw (gave c.gap.ensures c.in_ok-s.was, gave c.add.ensures c.in_ok-next.was, sym c.same_value.ensures ∙ c.if-same_value.false)

-- ---- what the lines require
pub add-requires : goal.add-requires
add-requires c =
    record {
      usable = c.requires.usable;
      first = c.requires.number;
      second = gap_in (known c.requires.usable).admits c.args.x c.gap.ensures c.in_ok-s.was;
    }

pub same_value-requires : goal.same_value-requires
same_value-requires c =
    let next = sum_in _ _ c.args.x c.in_ok-s.s (known c.requires.usable).admits c.add.ensures c.in_ok-next.was in
    (c.requires.usable.format, next, c.requires.number)

pub power-factor-requires : goal.power-factor-requires
power-factor-requires c = (c.requires.usable, c.requires.kept, omega (arith, (known c.requires.usable).admits.digits_low))

pub multiply-requires : goal.multiply-requires
multiply-requires c =
    let a = (known c.requires.usable).admits in
    record {
      usable = c.requires.usable;
      first = gap_in a c.args.x c.gap.ensures c.in_ok-s.was;
      second = power_in a c.requires.kept _ c.power-factor.ensures (omega (arith, a.digits_low));
    }
