-- `rounding::choice::locate` meets its contract: below half the lower location, else the upper one.
use Rattle.theory.proofs.Prelude.{◌∙◌, sym, arith}
use Rattle.rounding.proofs.Locations.{located_exact, located_below, located_half, located_above}
use Rattle.rounding.proofs.choice.locate.Goals as goal
use Rattle.rounding.proofs.choice.locate.Goals.{then-twice-divisor, then-rest-eq0, else-twice-divisor, else-rest-eq0}

pub returns-then-twice-divisor-2 : goal.returns-then-twice-divisor-2
returns-then-twice-divisor-2 c = elim c.if-rest-eq0.branch [ then-rest-eq0 w ↦ w.lower-is ∙ sym (located_exact _ _ w.if-rest-eq0.true) | else-rest-eq0 w ↦ w.lower-is ∙ sym (located_below _ _ w.if-rest-eq0.false c.if-twice-divisor-2.true) ]

pub returns-else-twice-divisor-2 : goal.returns-else-twice-divisor-2
returns-else-twice-divisor-2 c =
    let p = c.requires in
    elim c.if-twice-divisor.branch [ then-twice-divisor w ↦ w.upper-is ∙ sym (located_half _ _ (λ e. omega (arith, p.1, w.if-twice-divisor.true)) w.if-twice-divisor.true) | else-twice-divisor w ↦ w.upper-is ∙ sym (located_above _ _ (omega (arith, c.if-twice-divisor-2.false, w.if-twice-divisor.false))) ]
