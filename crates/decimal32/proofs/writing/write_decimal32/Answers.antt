-- `decimal32::writing::write_decimal32` meets its contract.
use Rattle.theory.proofs.Prelude.{[], ◌∷◌, ◌∙◌, ap, ◌≡◌, sym}
use Rattle.format.specs.Given.{gives}
use Rattle.format.specs.Published.{decimal32}
use Rattle.number.specs.Checks.{entered}
use Rattle.number.proofs.CheckLaws.{passed, one_member, ready_entered, number_goes, goes_on, stops}
use Rattle.decimal32.specs.Patterns.{decimal32_written}
use Rattle.decimal32.proofs.Fields.{decimal32_admitted}
use Rattle.decimal32.proofs.writing.write_decimal32.Goals.{After-with_number}
use Rattle.decimal32.proofs.writing.write_decimal32.Goals as goal

checked : (c : After-with_number) → c.with_number.result ≡ entered decimal32 [] (c.args.x ∷ [])
checked c = c.with_number.ensures ∙ number_goes _ _ _ _ (sym (ready_entered decimal32_admitted c.prepared_decimal32.ensures))

pub returns-in_err-with_number : goal.returns-in_err-with_number
unfolding decimal32_written
returns-in_err-with_number c = stops _ _ _ _ _ (sym (checked (goal.at.returns-in_err-with_number c).After-with_number) ∙ c.in_err-with_number.was) c.from_residual.ensures.1

pub returns : goal.returns
unfolding decimal32_written
returns c = ap gives c.pattern_of.ensures ∙ goes_on _ _ _ _ (sym (checked (goal.at.returns c).After-with_number) ∙ c.in_ok-with_number.was)

pub pattern_of-requires : goal.pattern_of-requires
pattern_of-requires c = one_member (passed _ _ _ (sym (checked (goal.at.pattern_of-requires c).After-with_number) ∙ c.in_ok-with_number.was))
