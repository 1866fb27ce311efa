-- `number::order::compare` meets its contract.
use Rattle.theory.proofs.Prelude.{◌∙◌, ap, sym}
use Rattle.format.specs.Given.{gives}
use Rattle.number.specs.Order.{compared}
use Rattle.number.proofs.CheckLaws.{passed, two_members, goes_on, stops}
use Rattle.number.proofs.order.compare.Goals as goal

pub compare_values-requires : goal.compare_values-requires
compare_values-requires c =
    let p = passed _ _ _ (sym c.enter_two.ensures ∙ c.in_ok-enter_two.was) in
    let m = two_members p in
    (p.format, m.0, m.1)

pub returns-in_err-enter_two : goal.returns-in_err-enter_two
unfolding compared
returns-in_err-enter_two c = stops _ _ _ _ _ (sym c.enter_two.ensures ∙ c.in_err-enter_two.was) c.from_residual.ensures.1

pub returns : goal.returns
unfolding compared
returns c = ap gives c.compare_values.ensures ∙ goes_on _ _ _ _ (sym c.enter_two.ensures ∙ c.in_ok-enter_two.was)
