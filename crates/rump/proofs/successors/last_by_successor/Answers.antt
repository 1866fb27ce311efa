-- `rump::successors::last_by_successor` meets its contract.
use Rattle.theory.proofs.Prelude.{◌∙◌, sym}
use Rattle.theory.proofs.Tests.{unless_passed, unless_failed}
use Rattle.rump.proofs.successors.last_by_successor.Goals as goal

pub returns-then-not-inner : goal.returns-then-not-inner
returns-then-not-inner c = sym (unless_failed _ _ (sym c.is_inner-inner.ensures ∙ c.if-not-inner.true))

pub returns : goal.returns
returns c = c.gap_above.ensures ∙ sym (unless_passed _ _ (sym c.is_inner-inner.ensures ∙ c.if-not-inner.false))
