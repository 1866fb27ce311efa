-- `boundaries::steps::add_first` meets its contract.
use Rattle.theory.proofs.Prelude.{true, ◌∙◌, ap, ◌≡◌, sym, subst}
use Rattle.format.specs.declared.Format.{Format}
use Rattle.format.specs.Given.{given}
use Rattle.number.specs.Numbers.{member}
use Rattle.number.proofs.Membership.{known, prepared_format, prepared_member, usable}
use Rattle.arithmetic.proofs.Results.{sum_member}
use Rattle.binary32.proofs.Fields.{binary32_admitted}
use Rattle.boundaries.proofs.StepLaws.{read_number, first_written}
use Rattle.boundaries.proofs.steps.add_first.Goals as goal

pub add-requires : goal.add-requires
add-requires c =
    let e = c.prepared_binary32.ensures in
    record {
      usable = usable binary32_admitted e;
      first = prepared_member e _ (read_number c.args.x c.read_finite.ensures c.requires.0);
      second = prepared_member e _ (read_number c.args.strip c.read_finite-2.ensures c.requires.1);
    }

-- a number that is given is in the format
pub write_answer-requires : goal.write_answer-requires
write_answer-requires c x h =
    let e = c.prepared_binary32.ensures in
    subst (λ (f : Format). member f x ≡ true) (prepared_format e) (sum_member (known (usable binary32_admitted e)).admits _ c.read_finite.result c.read_finite-2.result (sym c.add.ensures ∙ ap given h))

pub returns : goal.returns
returns c =
    c.write_answer.ensures
    ∙ first_written _ _ _ (prepared_format c.prepared_binary32.ensures) c.read_finite.ensures c.read_finite-2.ensures c.add.ensures
