-- `rump::premises::premise_holds` meets its contract.
use Rattle.theory.proofs.Prelude.{◌∙◌, sym}
use Rattle.theory.proofs.Tests.{never, refuted}
use Rattle.rump.proofs.Reach.{of_format}
use Rattle.rump.proofs.premises.premise_holds.Goals as goal

pub returns-then-not-exponents_suffice : goal.returns-then-not-exponents_suffice
returns-then-not-exponents_suffice c =
    let s = c.args in
    refuted (λ h. never (sym (of_format s.figure s.prepared.format s.x h) ∙ sym c.exponents_suffice.ensures ∙ c.if-not-exponents_suffice.true))
