-- `fast_two_sum::sum::three_steps` meets its contract.
use Rattle.theory.proofs.Prelude.{◌∙◌, ap, ◌≡◌, sym, rules}
use Rattle.std.specs.Prelude.{Result, Err}
use Rattle.format.specs.declared.Refusal.{Refusal}
use Rattle.format.specs.Refusals.{refusal_number}
use Rattle.number.specs.declared.Number.{Number}
use Rattle.number.proofs.Prelude.{Given, refused, ◌then◌, given, known}
use Rattle.arithmetic.proofs.Results.{sum_member, difference_member}
use Rattle.fast_two_sum.specs.declared.Steps.{Steps}
use Rattle.fast_two_sum.specs.Calls.{three_steps}
use Rattle.fast_two_sum.proofs.sum.three_steps.Goals as goal

-- the refusal of a step is handed on
handed_on : {s : Result Number Refusal} {why : Refusal} {g : Given Steps} → g ≡ (given s then (λ x. refused 5)) → s ≡ Err why → g ≡ refused (refusal_number why)
handed_on h e = h ∙ ap (λ (s : Result Number Refusal). given s then (λ x. refused 5)) e

pub returns-in_default : goal.returns-in_default
unfolding three_steps
returns-in_default c = rw (sym c.add-sum.ensures ∙ ap given c.in_default.is) (handed_on c.refused_step.ensures c.in_default.is)

pub subtract-difference-requires : goal.subtract-difference-requires
subtract-difference-requires c =
    let p = c.requires in
    let x = sum_member (known p.usable).admits _ c.args.a c.args.b (sym c.add-sum.ensures ∙ ap given c.in-Ok.is) in
    search rules

pub returns-in_default-difference : goal.returns-in_default-difference
unfolding three_steps
returns-in_default-difference c =
    let r = c.in_default-difference.is in
    rw (sym c.add-sum.ensures ∙ ap given c.in-Ok.is, sym c.subtract-difference.ensures ∙ ap given r) (handed_on c.refused_step-in_default-difference.ensures r)

pub subtract-rest-requires : goal.subtract-rest-requires
subtract-rest-requires c =
    let p = c.requires in
    let z = difference_member (known p.usable).admits _ c.in-Ok.x c.args.a (sym c.subtract-difference.ensures ∙ ap given c.in-Ok-difference.is) in
    search rules

pub returns-in_default-rest : goal.returns-in_default-rest
unfolding three_steps
returns-in_default-rest c =
    let r = c.in_default-rest.is in
    rw (sym c.add-sum.ensures ∙ ap given c.in-Ok.is, sym c.subtract-difference.ensures ∙ ap given c.in-Ok-difference.is, sym c.subtract-rest.ensures ∙ ap given r)
    (handed_on c.refused_step-in_default-rest.ensures r)

pub returns : goal.returns
unfolding three_steps
returns c =
    rw (sym c.add-sum.ensures ∙ ap given c.in-Ok.is, sym c.subtract-difference.ensures ∙ ap given c.in-Ok-difference.is, sym c.subtract-rest.ensures ∙ ap given c.in-Ok-rest.is)
