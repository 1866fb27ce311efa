-- `units::neighbours::predecessor` meets its contract.
use Rattle.theory.proofs.Prelude.{inl, inr, ◌∙◌, sym, arith}
use Rattle.number.proofs.Prelude.{passed, operand, stops}
use Rattle.units.specs.Neighbours.{predecessor_of}
use Rattle.units.proofs.Sides.{away_below, toward_below}
use Rattle.units.proofs.neighbours.predecessor.Goals as goal

pub returns-then-x-eq0 : goal.returns-then-x-eq0
returns-then-x-eq0 c =
    away_below _ _ (sym c.enter.ensures ∙ c.in_ok-prepared.was) (inr c.if-x-eq0.true) c.away-then-x-eq0.ensures

pub toward-requires : goal.toward-requires
toward-requires c =
    (operand (passed _ _ _ (sym c.enter.ensures ∙ c.in_ok-prepared.was)), omega (arith, c.if-x-eq0.false))

pub returns-in_err-prepared : goal.returns-in_err-prepared
unfolding predecessor_of
returns-in_err-prepared c = stops _ _ _ _ _ (sym c.enter.ensures ∙ c.in_err-prepared.was) c.from_residual.ensures.1

pub returns : goal.returns
returns c =
    toward_below _ _ (sym c.enter.ensures ∙ c.in_ok-prepared.was) c.if-x.false (omega (arith, c.if-x-eq0.false)) c.toward.ensures

pub away-requires : goal.away-requires
away-requires c =
    operand (passed _ _ _ (sym c.enter.ensures ∙ c.in_ok-prepared.was))

pub returns-then-x : goal.returns-then-x
returns-then-x c =
    away_below _ _ (sym c.enter.ensures ∙ c.in_ok-prepared.was) (inl c.if-x.true) c.away.ensures

pub away-requires-then-x-eq0 : goal.away-requires-then-x-eq0
away-requires-then-x-eq0 c =
    operand (passed _ _ _ (sym c.enter.ensures ∙ c.in_ok-prepared.was))
