-- `fast_two_sum::check::is_faithful_sum` meets its contract.
use Rattle.theory.proofs.Prelude.{◌∙◌, sym}
use Rattle.number.proofs.Prelude.{Admitted, Member, members, known}
use Rattle.arithmetic.proofs.Results.{sum_member}
use Rattle.fast_two_sum.proofs.Faithfulness.{down_decides, up_decides}
use Rattle.fast_two_sum.proofs.check.is_faithful_sum.Goals as goal

pub is_result-requires : goal.is_result-requires
is_result-requires c =
    let admits : Admitted c.args.prepared.format = (known c.requires.0.usable).admits in
    (c.requires.0.usable.format, c.requires.1.number, λ r h. sum_member admits _ c.args.a c.args.b (sym c.add-down.ensures ∙ h))

pub returns-then-is_result : goal.returns-then-is_result
returns-then-is_result c =
    let admits : Admitted c.args.prepared.format = (known c.requires.0.usable).admits in
    let inner : Member c.args.prepared.format c.args.x = members _ admits c.requires.1.number in
    down_decides admits inner _ _ c.add-down.ensures (sym c.is_result.ensures ∙ c.if-is_result.true)

pub is_result-requires-2 : goal.is_result-requires-2
is_result-requires-2 c =
    let admits : Admitted c.args.prepared.format = (known c.requires.0.usable).admits in
    (c.requires.0.usable.format, c.requires.1.number, λ r h. sum_member admits _ c.args.a c.args.b (sym c.add-up.ensures ∙ h))

pub returns : goal.returns
returns c =
    let admits : Admitted c.args.prepared.format = (known c.requires.0.usable).admits in
    let inner : Member c.args.prepared.format c.args.x = members _ admits c.requires.1.number in
    c.is_result-2.ensures ∙ up_decides admits inner _ _ c.add-down.ensures (sym c.is_result.ensures ∙ c.if-is_result.false) _ c.add-up.ensures
