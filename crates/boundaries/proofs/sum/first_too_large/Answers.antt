-- `boundaries::sum::first_too_large` meets its contract: the strips that were added and the steps that are left, from x on, are as many
-- as all.
use Rattle.theory.proofs.Prelude.{◌+◌, ◌-◌, ◌∙◌, ap, ◌≡◌, sym, arith, length, get_or, drop}
use lib.ListN.{length-take}
use Rattle.format.specs.Given.{given}
use Rattle.binary32.proofs.PatternValues.{all_finite, later_entry}
use Rattle.boundaries.specs.Steps.{first_step}
use Rattle.boundaries.proofs.Growth.{small_added}
use Rattle.boundaries.proofs.StepLaws.{first_added, first_refused_law}
use Rattle.boundaries.proofs.Passes.{count_begin, count_goes_on, count_stops, count_ends}
use Rattle.boundaries.proofs.sum.first_too_large.Goals as goal

pub returns-then-are_small : goal.returns-then-are_small
returns-then-are_small c = small_added c.args.direction c.args.strips.now c.requires.some c.requires.few (all_finite c.args.strips.now c.requires.finite) (sym c.are_small.ensures ∙ c.if-are_small.true)

pub loop-i-init : goal.loop-i-init
loop-i-init c = record { finite = all_finite c.args.strips.now c.requires.finite 0 c.requires.some; steps = count_begin c.args.direction c.args.strips.now c.requires.some }

-- ---- a step
pub add_first-requires : goal.add_first-requires
add_first-requires c =
    let strips = c.args.strips.now in
    let e = later_entry strips c.loop-i.i c.loop-i-test.true in
    (c.loop-i.invariant.finite, rw e.1 (all_finite strips c.requires.finite (c.loop-i.i + 1) e.0))

pub returns-in_default : goal.returns-in_default
returns-in_default c =
    let d = c.args.direction in
    let strips = c.args.strips.now in
    let l = c.loop-i in
    let e = later_entry strips l.i c.loop-i-test.true in
    let large =
    first_refused_law d l.x (get_or strips (l.i + 1) 0) l.invariant.finite (all_finite strips c.requires.finite (l.i + 1) e.0)
    (ap (first_step d l.x) (sym e.1) ∙ sym c.add_first.ensures ∙ ap given c.in_default.is) in
    sym (count_stops d l.x (l.i + 1) strips e.0 large) ∙ l.invariant.steps

pub loop-i-preserved : goal.loop-i-preserved
loop-i-preserved c =
    let d = c.args.direction in
    let strips = c.args.strips.now in
    let l = c.loop-i in
    let e = later_entry strips l.i c.loop-i-test.true in
    let a =
    first_added d l.x (get_or strips (l.i + 1) 0) l.invariant.finite (all_finite strips c.requires.finite (l.i + 1) e.0)
    (ap (first_step d l.x) (sym e.1) ∙ sym c.add_first.ensures ∙ ap given c.in-Ok.is) in
    record { finite = a.3; steps = sym (count_goes_on d l.x (l.i + 1) strips e.0 a.1 a.2) ∙ l.invariant.steps }

pub returns : goal.returns
returns c =
    let strips = c.args.strips.now in
    let some = c.requires.some in
    let end : c.loop-i.i + 1 ≡ length strips = omega (arith, c.loop-i-test.false, c.loop-i.auto.i-end, length-take (length strips - 1) (drop 1 strips)) in
    sym end ∙ sym (count_ends c.args.direction c.loop-i.x (c.loop-i.i + 1) strips end) ∙ c.loop-i.invariant.steps
