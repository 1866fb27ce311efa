-- `wide::long_division::cut_division` meets its contract: at the first two ends the quotient is the steps of the cut; where nothing remains
-- the value is a whole number, and its cut is known.
use Rattle.theory.proofs.Prelude.{◌∙◌, ap, sym, arith}
use Rattle.rounding.proofs.Prelude.{Location, positional}
use Rattle.wide.proofs.Cuts.{quotient_cut, exact_cut, ended_least}
use Rattle.wide.proofs.long_division.cut_division.Goals as goal

pub returns-then-division-eq0 : goal.returns-then-division-eq0
returns-then-division-eq0 c =
    λ N D h_d e.
    c.exact_cut.ensures ∙ sym (exact_cut (positional c.requires.0) h_d e c.if-division-eq0.true)

pub returns : goal.returns
returns c =
    λ N D h_d v.
    let p = c.requires in
    let a = c.args in
    ap (λ (l : Location). record { steps = a.division.quotient; place = a.division.place; location = l }) c.locate-location.ensures
    ∙ sym (quotient_cut (positional p.0) h_d v (omega (arith, p.3, p.0.bound_power)) (ended_least p.0 p.5 c.if-division-eq0.false))
