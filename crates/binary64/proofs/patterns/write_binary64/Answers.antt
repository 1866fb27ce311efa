-- `binary64::patterns::write_binary64` meets its contract.
use Rattle.theory.proofs.Prelude.{[], ◌∷◌, ◌∙◌, ap, ◌≡◌, sym}
use Rattle.format.specs.Given.{gives}
use Rattle.format.specs.Published.{binary64}
use Rattle.number.specs.Checks.{entered}
use Rattle.number.proofs.CheckLaws.{passed, one_member, ready_entered, number_goes, goes_on, stops}
use Rattle.binary_patterns.specs.Patterns.{pattern_written}
use Rattle.binary64.proofs.Laws.{binary64_admitted}
use Rattle.binary64.proofs.patterns.write_binary64.Goals.{After-with_number}
use Rattle.binary64.proofs.patterns.write_binary64.Goals as goal

checked : (c : After-with_number) → c.with_number.result ≡ entered binary64 [] (c.args.x ∷ [])
checked c = c.with_number.ensures ∙ number_goes _ _ _ _ (sym (ready_entered binary64_admitted c.prepared_binary64.ensures))

pub returns-in_err-with_number : goal.returns-in_err-with_number
unfolding pattern_written
returns-in_err-with_number c = stops _ _ _ _ _ (sym (checked (goal.at.returns-in_err-with_number c).After-with_number) ∙ c.in_err-with_number.was) c.from_residual.ensures.1

pub returns : goal.returns
unfolding pattern_written
returns c = ap gives c.pattern_of.ensures ∙ goes_on _ _ _ _ (sym (checked (goal.at.returns c).After-with_number) ∙ c.in_ok-with_number.was)

pub pattern_of-requires : goal.pattern_of-requires
pattern_of-requires c = one_member (passed _ _ _ (sym (checked (goal.at.pattern_of-requires c).After-with_number) ∙ c.in_ok-with_number.was))
