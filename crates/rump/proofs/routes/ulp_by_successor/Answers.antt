-- `rump::routes::ulp_by_successor` meets its contract.
use Rattle.theory.proofs.Prelude.{false, ◌∙◌, sym}
use Rattle.theory.specs.Tests.{unless}
use Rattle.theory.specs.declared.Direction.{Direction}
use Rattle.number.proofs.Prelude.{Format, refused, magnitude, number, members, known, operand, directed_enters, directed_stops, directed_answers}
use Rattle.rump.specs.Premises.{next_premise}
use Rattle.rump.specs.Figures.{gap_above}
use Rattle.rump.specs.Routes.{ulp_by_successor}
use Rattle.rump.proofs.RouteLaws.{last_of_size, size_of, size_member}
use Rattle.rump.proofs.routes.ulp_by_successor.Goals as goal

pub returns-in_err-prepared : goal.returns-in_err-prepared
unfolding ulp_by_successor
returns-in_err-prepared c = directed_stops _ _ _ _ _ (sym c.enter_directed_number.ensures ∙ c.in_err-prepared.was) c.from_residual.ensures.1

pub returns : goal.returns
unfolding ulp_by_successor
returns c =
    let entered = sym c.enter_directed_number.ensures ∙ c.in_ok-prepared.was in
    let i = operand (directed_enters _ _ _ entered) in
    let a = (known i.usable).admits in
    let x = c.args.x in
    c.last_by_successor.ensures ∙ last_of_size a (members x a i.number) _ (size_of i c.with_sign.ensures)
    ∙ directed_answers _ _ _ entered (λ (g : Format) (d : Direction). unless (next_premise g x) (refused 8) (gap_above g d (number g false (magnitude g x))))

pub last_by_successor-requires : goal.last_by_successor-requires
last_by_successor-requires c =
    let i = operand (directed_enters _ _ _ (sym c.enter_directed_number.ensures ∙ c.in_ok-prepared.was)) in
    record { usable = i.usable; number = size_member i c.with_sign.ensures }
