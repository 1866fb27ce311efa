-- `c_api::numbers::zurkeb_convert` meets its contract.
use Rattle.theory.proofs.Prelude.{◌∙◌, ap, arith}
use Rattle.arithmetic.specs.Marked.{conversion_answer}
use Rattle.c_api.specs.Answers.{rounded_out}
use Rattle.c_api.proofs.SignLaws.{known_sign}
use Rattle.c_api.proofs.numbers.zurkeb_convert.Goals as goal

pub returns : goal.returns
returns c =
    let a = c.args in
    c.rounded_out-2.ensures
    ∙ ap rounded_out (c.convert.ensures ∙ ap (conversion_answer a.format a.direction) c.into.ensures ∙ known_sign a.format a.direction a.x (omega (arith, c.if-x-gt1.false)))
