-- `arithmetic::sum::add` meets its contract.
use Rattle.theory.proofs.Prelude.{◌∙◌, ap}
use Rattle.arithmetic.specs.Marked.{without_mark}
use Rattle.arithmetic.proofs.Prepared.{marked_number}
use Rattle.arithmetic.proofs.sum.add.Goals as goal

pub returns : goal.returns
returns c = c.unmarked.ensures ∙ ap without_mark c.marked_sum.ensures ∙ marked_number _ _ _ _
