-- `fast_two_sum::sum::refused_step` meets its contract.
use Rattle.theory.proofs.Prelude.{ap, sym}
use Rattle.std.specs.Prelude.{Result}
use Rattle.format.specs.declared.Refusal.{Refusal}
use Rattle.number.proofs.Prelude.{refused, ◌then◌, given}
use Rattle.number.specs.declared.Number.{Number}
use Rattle.fast_two_sum.proofs.sum.refused_step.Goals as goal

pub returns-in-Err : goal.returns-in-Err
returns-in-Err c = sym (ap (λ (s : Result Number Refusal). given s then (λ x. refused 5)) c.in-Err.is)

pub returns-in-Ok : goal.returns-in-Ok
returns-in-Ok c = sym (ap (λ (s : Result Number Refusal). given s then (λ x. refused 5)) c.in-Ok.is)
