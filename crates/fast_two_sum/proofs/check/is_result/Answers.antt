-- `fast_two_sum::check::is_result` meets its contract.
use Rattle.theory.proofs.Prelude.{◌∙◌, ap, sym}
use Rattle.std.specs.Prelude.{Result}
use Rattle.format.specs.declared.Refusal.{Refusal}
use Rattle.format.specs.Given.{given}
use Rattle.number.specs.declared.Number.{Number}
use Rattle.fast_two_sum.specs.Checks.{is_result}
use Rattle.fast_two_sum.proofs.check.is_result.Goals as goal

pub same_value-requires : goal.same_value-requires
same_value-requires c =
    let p = c.requires in
    (p.0, p.1, p.2 _ (ap given c.in-Ok.is))

pub returns-in-Err : goal.returns-in-Err
unfolding is_result
returns-in-Err c =
    let s = c.args in
    sym (ap (λ (a : Result Number Refusal). is_result s.format (given a) s.x) c.in-Err.is)

pub returns-in-Ok : goal.returns-in-Ok
unfolding is_result
returns-in-Ok c =
    let s = c.args in
    c.same_value.ensures ∙ sym (ap (λ (a : Result Number Refusal). is_result s.format (given a) s.x) c.in-Ok.is)
