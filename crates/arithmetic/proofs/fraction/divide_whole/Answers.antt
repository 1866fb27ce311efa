-- `arithmetic::fraction::divide_whole` meets its contract: the fraction in the wide format, delivered.
use Rattle.theory.proofs.Prelude.{◌≤◌, ◌∙◌, ap, sym, arith, w32, SFits, rules}
use Rattle.arithmetic.specs.Marked.{marked, marked_fraction}
use Rattle.arithmetic.proofs.Prelude.{above_zero, back, below_zero, emin_admitted, known}
use Rattle.arithmetic.proofs.Prepared.{Delivers, Part, above_part, below_part, denominator_none, scale_scaled, fraction_delivers}
use Rattle.arithmetic.proofs.fraction.divide_whole.Goals as goal

pub returns-then-denominator-eq0 : goal.returns-then-denominator-eq0
unfolding marked
returns-then-denominator-eq0 c = let s = c.args in sym (ap (marked s.prepared.format _ _) (denominator_none s.prepared.format s.direction s.numerator c.if-denominator-eq0.true))

pub below_zero-up-requires : goal.below_zero-up-requires
below_zero-up-requires c =
    let emin_fits : SFits w32 c.args.prepared.format.emin = search rules in
    rw (back emin_fits) (emin_admitted (known c.requires).admits)

pub fraction-requires : goal.fraction-requires
fraction-requires c =
    let emin_fits : SFits w32 c.args.prepared.format.emin = search rules in
    let some : 1 ≤ c.args.denominator = omega (arith, c.if-denominator-eq0.false) in
    let down : Part (above_zero c.args.prepared.format.emin) c.above_zero-down.result = above_part (known c.requires).admits emin_fits c.above_zero-down.ensures in
    let up : Part (below_zero c.args.prepared.format.emin) c.below_zero-up.result = below_part (known c.requires).admits emin_fits c.below_zero-up.ensures in
    (scale_scaled c.requires, some, up.small, down.small)

pub deliver_wide-requires : goal.deliver_wide-requires
deliver_wide-requires c =
    let emin_fits : SFits w32 c.args.prepared.format.emin = search rules in
    let some : 1 ≤ c.args.denominator = omega (arith, c.if-denominator-eq0.false) in
    let down : Part (above_zero c.args.prepared.format.emin) c.above_zero-down.result = above_part (known c.requires).admits emin_fits c.above_zero-down.ensures in
    let up : Part (below_zero c.args.prepared.format.emin) c.below_zero-up.result = below_part (known c.requires).admits emin_fits c.below_zero-up.ensures in
    let numerator_fits : SFits w32 c.args.numerator = search rules in
    let result : let s = c.args in
    Delivers s.prepared.format c.fraction.result (marked_fraction s.prepared.format s.direction s.numerator s.denominator) = fraction_delivers c.requires c.args.direction c.args.numerator some down up
    (c.is_below_zero-negative.ensures ∙ rw (back numerator_fits)) (c.size-n.ensures ∙ rw (back numerator_fits)) c.fraction.ensures in
    (c.requires, result.canonical)

pub returns : goal.returns
returns c =
    let emin_fits : SFits w32 c.args.prepared.format.emin = search rules in
    let some : 1 ≤ c.args.denominator = omega (arith, c.if-denominator-eq0.false) in
    let down : Part (above_zero c.args.prepared.format.emin) c.above_zero-down.result = above_part (known c.requires).admits emin_fits c.above_zero-down.ensures in
    let up : Part (below_zero c.args.prepared.format.emin) c.below_zero-up.result = below_part (known c.requires).admits emin_fits c.below_zero-up.ensures in
    let numerator_fits : SFits w32 c.args.numerator = search rules in
    let result : let s = c.args in
    Delivers s.prepared.format c.fraction.result (marked_fraction s.prepared.format s.direction s.numerator s.denominator) = fraction_delivers c.requires c.args.direction c.args.numerator some down up
    (c.is_below_zero-negative.ensures ∙ rw (back numerator_fits)) (c.size-n.ensures ∙ rw (back numerator_fits)) c.fraction.ensures in
    c.deliver_wide.ensures ∙ result.is
