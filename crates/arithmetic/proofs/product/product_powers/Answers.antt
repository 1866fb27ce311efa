-- `arithmetic::product::product_powers` meets its contract.
use Rattle.theory.proofs.Prelude.{◌<◌, ◌+◌, ◌^◌, arith, w32, SFits, rules}
use Rattle.arithmetic.proofs.Prelude.{above_zero, back, below_zero, emin_admitted, known}
use Rattle.arithmetic.proofs.Prepared.{Part, above_part, below_part}
use Rattle.arithmetic.proofs.Pairs.{low_places, powers}
use Rattle.arithmetic.proofs.product.product_powers.Goals as goal

pub returns : goal.returns
returns c =
    let emin_fits : SFits w32 c.args.prepared.format.emin = search rules in
    let above : Part (above_zero c.args.prepared.format.emin) c.above_zero.result = above_part (known c.requires.usable).admits emin_fits c.above_zero.ensures in
    let below : Part (below_zero c.args.prepared.format.emin) c.below_zero.result = below_part (known c.requires.usable).admits emin_fits c.below_zero.ensures in
    powers (omega (arith, c.place_of.ensures, c.place_of-2.ensures, above.is)) below.is

pub overflow_add-result : goal.overflow_add-result
overflow_add-result c =
    let places : c.place_of.result + c.place_of-2.result < 2 ^ 28 = let l = low_places c.requires in omega (arith, c.place_of.ensures, c.place_of-2.ensures, l.0, l.1) in
    omega (arith, places)

pub overflow_add-result-2 : goal.overflow_add-result-2
overflow_add-result-2 c =
    let emin_fits : SFits w32 c.args.prepared.format.emin = search rules in
    let places : c.place_of.result + c.place_of-2.result < 2 ^ 28 = let l = low_places c.requires in omega (arith, c.place_of.ensures, c.place_of-2.ensures, l.0, l.1) in
    let above : Part (above_zero c.args.prepared.format.emin) c.above_zero.result = above_part (known c.requires.usable).admits emin_fits c.above_zero.ensures in
    omega (arith, places, above.small)

pub below_zero-requires : goal.below_zero-requires
below_zero-requires c =
    let emin_fits : SFits w32 c.args.prepared.format.emin = search rules in
    rw (back emin_fits) (emin_admitted (known c.requires.usable).admits)
