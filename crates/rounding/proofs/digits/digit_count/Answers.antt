-- `rounding::digits::digit_count` meets its contract: the bound is the power `count`, at most base times n.
use Rattle.theory.proofs.Prelude.{sym, mul-le-mul_left, arith}
use Rattle.rounding.proofs.Prelude.{pow_pos, count_room, digits_most, power_one}
use Rattle.rounding.proofs.digits.digit_count.Goals as goal

pub loop-bound-init : goal.loop-bound-init
loop-bound-init c = (sym (power_one c.args.scale.base), omega (arith, mul-le-mul_left c.args.scale.base c.requires.1))

pub loop-bound-smaller : goal.loop-bound-smaller
loop-bound-smaller c =
    let b = c.loop-bound in
    let h = c.requires.0 in
    omega (arith, b.invariant.0, pow_pos h.base_least b.count, mul-le-mul_left b.bound h.base_least)

pub overflow_add-count : goal.overflow_add-count
overflow_add-count c =
    let p = c.requires in
    let b = c.loop-bound in
    omega (arith, count_room p.0 {n = c.args.n} b.count (omega (arith, b.invariant.0, c.loop-bound-test.true)) p.2, digits_most p.0)
