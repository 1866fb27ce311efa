-- `wide::conversion::locate_digit` meets its contract: the digit decides, but beside the half what lies below it does.
use Rattle.theory.proofs.Prelude.{◌∙◌, arith}
use Rattle.rounding.proofs.Locations.{located_outer, located_inner, located_lower, located_upper}
use Rattle.wide.proofs.Conversions.{no_rest, some_rest}
use Rattle.wide.proofs.conversion.locate_digit.Goals as goal

pub returns-then-eq : goal.returns-then-eq
returns-then-eq c r m l e = c.locate.ensures ∙ located_outer _ _ r m (omega (arith, l)) (no_rest r m e c.if-eq.ensures)

pub returns-then-twice-base : goal.returns-then-twice-base
returns-then-twice-base c r m l e = e ∙ located_inner _ _ r m (some_rest r m e c.if-eq.ensures) c.if-twice-base.true

pub returns-then-twice-base-2 : goal.returns-then-twice-base-2
returns-then-twice-base-2 c r m l e =
    located_lower _ _ r m (some_rest r m e c.if-eq.ensures) l (omega (arith, c.if-twice-base.false, c.if-twice-base-2.true))

pub returns-else-twice-base-2 : goal.returns-else-twice-base-2
returns-else-twice-base-2 c r m l e = located_upper _ _ r m (some_rest r m e c.if-eq.ensures) c.if-twice-base-2.false
