-- `number::signs::answer_signed` meets its contract.
use Rattle.theory.proofs.Prelude.{◌∙◌, ap, sym}
use Rattle.number.proofs.Prelude.{gives, admits, members, number_of}
use Rattle.number.proofs.CheckLaws.{passed, one_member, goes_on, stops}
use Rattle.number.proofs.signs.answer_signed.Goals as goal

pub returns : goal.returns
returns c =
    let h = sym c.enter.ensures ∙ c.in_ok-enter.was in
    let p = passed _ _ _ h in
    let ok = admits _ p.format in
    ap gives (c.with_sign.ensures ∙ sym (number_of ok (members _ ok (one_member p)) _)) ∙ goes_on _ _ _ _ h

pub returns-in_err-enter : goal.returns-in_err-enter
returns-in_err-enter c = stops _ _ _ _ _ (sym c.enter.ensures ∙ c.in_err-enter.was) c.from_residual.ensures.1
