-- `rump::figures::first_figure` meets its contract.
use Rattle.theory.proofs.Prelude.{ℕ, ◌-◌, ◌∙◌, ap, ◌≡◌, arith}
use Rattle.number.proofs.Prelude.{Format, known}
use Rattle.number.specs.declared.Number.{Number}
use Rattle.rump.specs.Figures.{power, figure1}
use Rattle.rump.proofs.Steps.{subrealmin_in, power_in, gave, refuses, ended, product_gave, product_refuses, product_in, sum_in, difference_in}
use Rattle.rump.proofs.figures.first_figure.Goals as goal

-- the lead by the digits of the format
lead : (f : Format) {p : ℕ} {x : Number} → p ≡ f.digits → x ≡ power f (p - 1) → x ≡ power f (f.digits - 1)
lead f h e = e ∙ ap (λ (n : ℕ). power f (n - 1)) h

pub returns-in_err-p1 : goal.returns-in_err-p1
unfolding figure1
returns-in_err-p1 c =
    rw (← c.power-one.ensures, ← c.subrealmin.ensures, refuses c.subtract.ensures c.in_err-p1.was) (ended _ _ c.from_residual.ensures.1)

pub returns-in_err-phi : goal.returns-in_err-phi
unfolding figure1
returns-in_err-phi c =
    rw (
      ← c.power-one.ensures,
      ← c.subrealmin.ensures,
      ← lead _ (known c.requires.usable).digits c.power-lead.ensures,
      gave c.subtract.ensures c.in_ok-p1.was,
      refuses c.add.ensures c.in_err-phi.was,
    ) (ended _ _ c.from_residual-in_err-phi.ensures.1)

pub returns-in_err-q : goal.returns-in_err-q
unfolding figure1
returns-in_err-q c =
    rw (
      ← c.power-one.ensures,
      ← c.subrealmin.ensures,
      ← lead _ (known c.requires.usable).digits c.power-lead.ensures,
      gave c.subtract.ensures c.in_ok-p1.was,
      gave c.add.ensures c.in_ok-phi.was,
      product_refuses _ _ _ _ c.multiply.ensures c.in_err-q.was,
    ) (ended _ _ c.from_residual-in_err-q.ensures.1)

pub returns-in_err-r : goal.returns-in_err-r
unfolding figure1
returns-in_err-r c =
    rw (
      ← c.power-one.ensures,
      ← c.subrealmin.ensures,
      ← lead _ (known c.requires.usable).digits c.power-lead.ensures,
      gave c.subtract.ensures c.in_ok-p1.was,
      gave c.add.ensures c.in_ok-phi.was,
      product_gave _ _ _ _ c.multiply.ensures c.in_ok-q.was,
      product_refuses _ _ _ _ c.multiply-2.ensures c.in_err-r.was,
    ) (ended _ _ c.from_residual-in_err-r.ensures.1)

pub returns : goal.returns
unfolding figure1
returns c =
    rw (
      ← c.power-one.ensures,
      ← c.subrealmin.ensures,
      ← lead _ (known c.requires.usable).digits c.power-lead.ensures,
      gave c.subtract.ensures c.in_ok-p1.was,
      gave c.add.ensures c.in_ok-phi.was,
      product_gave _ _ _ _ c.multiply.ensures c.in_ok-q.was,
      product_gave _ _ _ _ c.multiply-2.ensures c.in_ok-r.was,
    ) c.subtract-2.ensures

-- ---- what the lines require
pub overflow_sub-prepared : goal.overflow_sub-prepared
overflow_sub-prepared c = let k = known c.requires.usable in omega (arith, k.digits, k.admits.digits_low)

pub subtract-requires : goal.subtract-requires
subtract-requires c =
    let a = (known c.requires.usable).admits in
    record {
      usable = c.requires.usable;
      first = power_in a c.requires.kept _ c.power-one.ensures (omega arith);
      second = subrealmin_in a c.subrealmin.ensures;
    }

pub add-requires : goal.add-requires
add-requires c =
    let k = known c.requires.usable in
    record {
      usable = c.requires.usable;
      first = power_in k.admits c.requires.kept _ c.power-lead.ensures (omega (arith, k.digits));
      second = power_in k.admits c.requires.kept _ c.power-one.ensures (omega arith);
    }

pub multiply-requires : goal.multiply-requires
multiply-requires c =
    let a = (known c.requires.usable).admits in
    record {
      usable = c.requires.usable;
      first = sum_in _ _ c.power-lead.result c.power-one.result a c.add.ensures c.in_ok-phi.was;
      second = c.requires.number;
    }

pub multiply-requires-2 : goal.multiply-requires-2
multiply-requires-2 c =
    let a = (known c.requires.usable).admits in
    record {
      usable = c.requires.usable;
      first = difference_in _ _ c.power-one.result c.subrealmin.result a c.subtract.ensures c.in_ok-p1.was;
      second = product_in _ _ _ _ a c.multiply.ensures c.in_ok-q.was;
    }

pub subtract-requires-2 : goal.subtract-requires-2
subtract-requires-2 c =
    let a = (known c.requires.usable).admits in
    record {
      usable = c.requires.usable;
      first = product_in _ _ _ _ a c.multiply.ensures c.in_ok-q.was;
      second = product_in _ _ _ _ a c.multiply-2.ensures c.in_ok-r.was;
    }
