-- `units::neighbours::successor` meets its contract.
use Rattle.theory.proofs.Prelude.{inl, inr, ◌∙◌, sym, arith}
use Rattle.number.proofs.Prelude.{passed, operand, stops}
use Rattle.units.specs.Neighbours.{successor_of}
use Rattle.units.proofs.Sides.{away_above, toward_above}
use Rattle.units.proofs.neighbours.successor.Goals as goal

pub toward-requires : goal.toward-requires
toward-requires c =
    (operand (passed _ _ _ (sym c.enter.ensures ∙ c.in_ok-prepared.was)), omega (arith, c.if-x-eq0.false))

pub returns-in_err-prepared : goal.returns-in_err-prepared
unfolding successor_of
returns-in_err-prepared c = stops _ _ _ _ _ (sym c.enter.ensures ∙ c.in_err-prepared.was) c.from_residual.ensures.1

pub away-requires : goal.away-requires
away-requires c =
    operand (passed _ _ _ (sym c.enter.ensures ∙ c.in_ok-prepared.was))

pub returns-then-x-eq0 : goal.returns-then-x-eq0
returns-then-x-eq0 c =
    away_above _ _ (sym c.enter.ensures ∙ c.in_ok-prepared.was) (inr c.if-x-eq0.true) c.away.ensures

pub returns-then-x : goal.returns-then-x
returns-then-x c =
    toward_above _ _ (sym c.enter.ensures ∙ c.in_ok-prepared.was) c.if-x.true (omega (arith, c.if-x-eq0.false)) c.toward.ensures

pub away-requires-2 : goal.away-requires-2
away-requires-2 c =
    operand (passed _ _ _ (sym c.enter.ensures ∙ c.in_ok-prepared.was))

pub returns : goal.returns
returns c =
    away_above _ _ (sym c.enter.ensures ∙ c.in_ok-prepared.was) (inl c.if-x.false) c.away-2.ensures
