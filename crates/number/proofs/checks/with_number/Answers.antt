-- `number::checks::with_number` meets its contract.
use Rattle.theory.proofs.Prelude.{sym, ◌∙◌}
use Rattle.theory.proofs.Results.{err_returned}
use Rattle.number.proofs.CheckLaws.{further_stands, further_fails, further_passes}
use Rattle.number.proofs.checks.with_number.Goals as goal

pub returns-in_err-prepared : goal.returns-in_err-prepared
returns-in_err-prepared c = err_returned _ c.from_residual.ensures.1 ∙ further_stands _ _ c.in_err-prepared.was

pub returns-then-not-is_member : goal.returns-then-not-is_member
returns-then-not-is_member c = further_fails _ _ c.in_ok-prepared.was (sym c.is_member.ensures ∙ c.if-not-is_member.true)

pub returns : goal.returns
returns c = further_passes _ _ c.in_ok-prepared.was (sym c.is_member.ensures ∙ c.if-not-is_member.false)
