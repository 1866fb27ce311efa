-- `receivers::spread::extremes` meets its contract.
use Rattle.theory.proofs.Prelude.{◌+◌, ◌∙◌, arith}
use Rattle.receivers.proofs.Spreads.{taken_is, left_is, reached_first, reached_item, reached_all}
use Rattle.receivers.proofs.spread.extremes.Goals.{then-is_below, else-is_below, then-is_below-2, else-is_below-2}
use Rattle.receivers.proofs.spread.extremes.Goals as goal

pub loop-p-init : goal.loop-p-init
loop-p-init c = reached_first c.args.patterns.now c.requires

pub loop-p-preserved : goal.loop-p-preserved
loop-p-preserved c =
    reached_item c.args.patterns.now c.loop-p.p-index c.loop-p.least c.loop-p.greatest c.loop-p-test.true c.requires c.loop-p.invariant
    (elim c.if-is_below.branch [
      | then-is_below w ↦ w.least-is ∙ taken_is _ _ c.is_below.ensures w.if-is_below.true
      | else-is_below w ↦ w.least-is ∙ left_is _ _ c.is_below.ensures w.if-is_below.false
    ])
    (elim c.if-is_below-2.branch [
      | then-is_below-2 w ↦ w.greatest-is ∙ taken_is _ _ c.is_below-in-loop-p.ensures w.if-is_below-2.true
      | else-is_below-2 w ↦ w.greatest-is ∙ left_is _ _ c.is_below-in-loop-p.ensures w.if-is_below-2.false
    ])

pub returns : goal.returns
returns c = reached_all c.args.patterns.now (c.loop-p.p-index + 1) c.loop-p.least c.loop-p.greatest (omega (arith, c.loop-p-test.false)) c.loop-p.invariant
