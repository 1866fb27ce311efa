-- `arithmetic::conversion::record_powers` meets its contract.
use Rattle.theory.proofs.Prelude.{◌+◌, ◌-◌, ◌∙◌, ◌≡◌, nat_abs, arith, w32, SFits, rules}
use Rattle.arithmetic.proofs.Prelude.{above_zero, back, below_zero, emin_admitted, known}
use Rattle.arithmetic.proofs.Prepared.{Part, above_part, below_part}
use Rattle.arithmetic.proofs.Conversions.{above_fits, below_fits, above_size, Sides, powers_under, powers_over}
use Rattle.arithmetic.proofs.conversion.record_powers.Goals as goal

pub below_zero-requires : goal.below_zero-requires
below_zero-requires c =
    let emin_fits : SFits w32 c.args.prepared.format.emin = search rules in
    rw (back emin_fits) (emin_admitted (known c.requires).admits)

pub overflow_add-high : goal.overflow_add-high
overflow_add-high c =
    let emin_fits : SFits w32 c.args.prepared.format.emin = search rules in
    let above_is : c.above_zero-above.result ≡ above_zero c.args.e = c.above_zero-above.ensures ∙ rw (back c.ranges.e) in
    let emin_below : Part (below_zero c.args.prepared.format.emin) c.below_zero.result = below_part (known c.requires).admits emin_fits c.below_zero.ensures in
    omega (arith, above_is, above_fits c.args.e c.ranges.e, emin_below.small)

pub overflow_sub-low : goal.overflow_sub-low
overflow_sub-low c =
    let above_is : c.above_zero-above.result ≡ above_zero c.args.e = c.above_zero-above.ensures ∙ rw (back c.ranges.e) in
    let size_is : c.size.result ≡ nat_abs c.args.e = c.size.ensures ∙ rw (back c.ranges.e) in
    omega (arith, size_is, above_is, above_size c.args.e)

pub overflow_add-low : goal.overflow_add-low
overflow_add-low c =
    let emin_fits : SFits w32 c.args.prepared.format.emin = search rules in
    let above_is : c.above_zero-above.result ≡ above_zero c.args.e = c.above_zero-above.ensures ∙ rw (back c.ranges.e) in
    let size_is : c.size.result ≡ nat_abs c.args.e = c.size.ensures ∙ rw (back c.ranges.e) in
    let emin_above : Part (above_zero c.args.prepared.format.emin) c.above_zero.result = above_part (known c.requires).admits emin_fits c.above_zero.ensures in
    omega (arith, size_is, above_is, below_fits c.args.e c.ranges.e, emin_above.small)

pub returns-then-high-low : goal.returns-then-high-low
returns-then-high-low c =
    let emin_fits : SFits w32 c.args.prepared.format.emin = search rules in
    let above_is : c.above_zero-above.result ≡ above_zero c.args.e = c.above_zero-above.ensures ∙ rw (back c.ranges.e) in
    let size_is : c.size.result ≡ nat_abs c.args.e = c.size.ensures ∙ rw (back c.ranges.e) in
    let emin_below : Part (below_zero c.args.prepared.format.emin) c.below_zero.result = below_part (known c.requires).admits emin_fits c.below_zero.ensures in
    let emin_above : Part (above_zero c.args.prepared.format.emin) c.above_zero.result = above_part (known c.requires).admits emin_fits c.above_zero.ensures in
    let sides : let s = c.args in
    Sides s.prepared.format s.e (c.above_zero-above.result + c.below_zero.result) (c.size.result - c.above_zero-above.result + c.above_zero.result) = record { up = omega (arith, above_is, emin_below.is); down = omega (arith, size_is, above_is, emin_above.is) } in
    powers_under _ _ sides c.if-high-low.true

pub returns : goal.returns
returns c =
    let emin_fits : SFits w32 c.args.prepared.format.emin = search rules in
    let above_is : c.above_zero-above.result ≡ above_zero c.args.e = c.above_zero-above.ensures ∙ rw (back c.ranges.e) in
    let size_is : c.size.result ≡ nat_abs c.args.e = c.size.ensures ∙ rw (back c.ranges.e) in
    let emin_below : Part (below_zero c.args.prepared.format.emin) c.below_zero.result = below_part (known c.requires).admits emin_fits c.below_zero.ensures in
    let emin_above : Part (above_zero c.args.prepared.format.emin) c.above_zero.result = above_part (known c.requires).admits emin_fits c.above_zero.ensures in
    let sides : let s = c.args in
    Sides s.prepared.format s.e (c.above_zero-above.result + c.below_zero.result) (c.size.result - c.above_zero-above.result + c.above_zero.result) = record { up = omega (arith, above_is, emin_below.is); down = omega (arith, size_is, above_is, emin_above.is) } in
    powers_over _ _ sides (omega (arith, c.if-high-low.false))
