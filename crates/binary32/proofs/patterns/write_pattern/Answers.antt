-- `binary32::patterns::write_pattern` meets its contract.
use Rattle.theory.proofs.Prelude.{[], ◌∷◌, ◌∙◌, ap, ◌≡◌, sym}
use Rattle.format.specs.Given.{gives}
use Rattle.format.specs.Published.{binary32}
use Rattle.number.specs.Checks.{entered}
use Rattle.number.proofs.CheckLaws.{passed, one_member, ready_entered, number_goes, goes_on, stops}
use Rattle.binary32.specs.Patterns.{pattern_of, pattern_written}
use Rattle.binary32.proofs.Fields.{binary32_admitted}
use Rattle.binary32.proofs.patterns.write_pattern.Goals.{After-with_number}
use Rattle.binary32.proofs.patterns.write_pattern.Goals as goal

checked : (c : After-with_number) → c.with_number.result ≡ entered binary32 [] (c.args.x ∷ [])
checked c = c.with_number.ensures ∙ number_goes _ _ _ _ (sym (ready_entered binary32_admitted c.prepared_binary32.ensures))

pub returns-in_err-with_number : goal.returns-in_err-with_number
unfolding pattern_written
returns-in_err-with_number c = stops _ _ _ _ _ (sym (checked (goal.at.returns-in_err-with_number c).After-with_number) ∙ c.in_err-with_number.was) c.from_residual.ensures.1

pub returns : goal.returns
unfolding pattern_written pattern_of
returns c = ap gives c.pattern_of.ensures ∙ goes_on _ _ _ _ (sym (checked (goal.at.returns c).After-with_number) ∙ c.in_ok-with_number.was)

pub pattern_of-requires : goal.pattern_of-requires
pattern_of-requires c = one_member (passed _ _ _ (sym (checked (goal.at.pattern_of-requires c).After-with_number) ∙ c.in_ok-with_number.was))
