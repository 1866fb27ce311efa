-- `fast_two_sum::check::is_fast_two_sum` meets its contract.
use Rattle.theory.proofs.Prelude.{◌∙◌, ap, sym}
use Rattle.theory.proofs.Results.{err_returned}
use Rattle.number.proofs.Prelude.{Format, gives, given}
use Rattle.number.proofs.CheckLaws.{passed, later_numbers, two_members, operand, operands, goes_on, stops}
use Rattle.fast_two_sum.specs.Checks.{is_triple, checked_triple}
use Rattle.fast_two_sum.proofs.Order.{order_answered}
use Rattle.fast_two_sum.proofs.check.is_fast_two_sum.Goals as goal

pub check_order-requires : goal.check_order-requires
check_order-requires c =
    let p = passed _ _ _ (sym c.enter_check.ensures ∙ c.in_ok-prepared.was) in
    let m = two_members p in
    (p.format, m.0, m.1)

pub is_triple-requires : goal.is_triple-requires
is_triple-requires c =
    let p = passed _ _ _ (sym c.enter_check.ensures ∙ c.in_ok-prepared.was) in
    let three = later_numbers (later_numbers p) in
    (operands p, operand three, operand (later_numbers three), operand (later_numbers (later_numbers three)))

pub returns-in_err-prepared : goal.returns-in_err-prepared
unfolding checked_triple
returns-in_err-prepared c = stops _ _ _ _ _ (sym c.enter_check.ensures ∙ c.in_err-prepared.was) c.from_residual.ensures.1

pub returns-in_err-check_order : goal.returns-in_err-check_order
unfolding checked_triple
returns-in_err-check_order c =
    ap given (err_returned _ c.from_residual-in_err-check_order.ensures.1)
    ∙ order_answered _ _ _ _ c.check_order.ensures c.in_err-check_order.was
    ∙ goes_on _ _ _ _ (sym c.enter_check.ensures ∙ c.in_ok-prepared.was)

pub returns : goal.returns
unfolding checked_triple
returns c =
    let s = c.args in
    let h = sym c.enter_check.ensures ∙ c.in_ok-prepared.was in
    ap gives (c.is_triple.ensures ∙ ap (λ (f : Format). is_triple f s.a s.b s.x s.z s.y) (passed _ _ _ h).same)
    ∙ order_answered _ _ _ _ c.check_order.ensures c.in_ok-check_order.was
    ∙ goes_on _ _ _ _ h
