-- `units::neighbours::within_one_step` meets its contract.
use Rattle.theory.proofs.Prelude.{◌∙◌, ap, sym}
use Rattle.number.proofs.Prelude.{Format, gives, value, passed, operands, answered, stops}
use Rattle.units.specs.Neighbours.{within_step, within_one_step}
use Rattle.units.proofs.neighbours.within_one_step.Goals as goal

pub returns-in_err-prepared : goal.returns-in_err-prepared
unfolding within_one_step
returns-in_err-prepared c = stops _ _ _ _ _ (sym c.enter_two.ensures ∙ c.in_err-prepared.was) c.from_residual.ensures.1

pub is_within_one_step-requires : goal.is_within_one_step-requires
is_within_one_step-requires c =
    operands (passed _ _ _ (sym c.enter_two.ensures ∙ c.in_ok-prepared.was))

pub returns : goal.returns
unfolding within_one_step
returns c =
    let s = c.args in
    ap gives c.is_within_one_step.ensures
    ∙ answered _ _ _ (λ (f : Format). gives (within_step f.base f.digits (value f s.a) (value f s.b))) (sym c.enter_two.ensures ∙ c.in_ok-prepared.was)
