-- `exact_sums::sums::rest` meets its contract.
use Rattle.theory.proofs.Prelude.{arith}
use Rattle.exact_sums.proofs.Rests.{in_order, nearest_here, nearest_turned}
use Rattle.exact_sums.proofs.sums.rest.Goals as goal

pub rest_ordered-requires : goal.rest_ordered-requires
rest_ordered-requires c =
    let b = c.read_wide.ensures in
    let a = c.read_wide-then-a-b.ensures in
    (b.placed, a.placed, in_order c.args.a c.args.b a.value b.value (omega (arith, c.if-a-b.true)), nearest_turned b.value a.value c.requires.nearest)

pub rest_ordered-requires-2 : goal.rest_ordered-requires-2
rest_ordered-requires-2 c =
    let a = c.read_wide-2.ensures in
    let b = c.read_wide-3.ensures in
    (a.placed, b.placed, in_order c.args.b c.args.a b.value a.value (omega (arith, c.if-a-b.false)), nearest_here a.value b.value c.requires.nearest)
