-- `rounding::choice::locate_twice` meets its contract: the outer rest decides, but beside the half the inner one does.
use Rattle.theory.proofs.Prelude.{◌∙◌, arith}
use Rattle.rounding.proofs.Locations.{located_outer, located_inner, located_lower, located_upper}
use Rattle.rounding.proofs.choice.locate_twice.Goals as goal

pub returns-then-inner-eq0 : goal.returns-then-inner-eq0
returns-then-inner-eq0 c = c.locate.ensures ∙ located_outer _ _ _ _ (omega (arith, c.requires.2)) c.if-inner-eq0.true

pub returns-then-twice-divisor : goal.returns-then-twice-divisor
returns-then-twice-divisor c = c.locate-then-twice-divisor.ensures ∙ located_inner _ _ _ _ c.if-inner-eq0.false c.if-twice-divisor.true

pub returns-then-twice-divisor-2 : goal.returns-then-twice-divisor-2
returns-then-twice-divisor-2 c = located_lower _ _ _ _ c.if-inner-eq0.false c.requires.2 (omega (arith, c.if-twice-divisor.false, c.if-twice-divisor-2.true))

pub returns-else-twice-divisor-2 : goal.returns-else-twice-divisor-2
returns-else-twice-divisor-2 c = located_upper _ _ _ _ c.if-inner-eq0.false c.if-twice-divisor-2.false
