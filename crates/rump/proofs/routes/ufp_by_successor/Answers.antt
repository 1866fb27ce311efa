-- `rump::routes::ufp_by_successor` meets its contract.
use Rattle.theory.proofs.Prelude.{false, ◌∙◌, ap, sym}
use Rattle.theory.specs.Tests.{unless}
use Rattle.theory.specs.declared.Direction.{Direction}
use Rattle.number.proofs.Prelude.{Format, refused, magnitude, number, members, known, operand, directed_enters, directed_stops, directed_answers}
use Rattle.number.specs.declared.Number.{Number}
use Rattle.rump.specs.Premises.{scaled_premise}
use Rattle.rump.specs.Figures.{figure6}
use Rattle.rump.specs.Routes.{ufp_by_successor}
use Rattle.rump.proofs.RouteLaws.{first_of_size, size_of, size_member}
use Rattle.rump.proofs.routes.ufp_by_successor.Goals as goal

pub returns-in_err-prepared : goal.returns-in_err-prepared
unfolding ufp_by_successor
returns-in_err-prepared c = directed_stops _ _ _ _ _ (sym c.enter_directed_number.ensures ∙ c.in_err-prepared.was) c.from_residual.ensures.1

pub returns : goal.returns
unfolding ufp_by_successor
returns c =
    let entered = sym c.enter_directed_number.ensures ∙ c.in_ok-prepared.was in
    let i = operand (directed_enters _ _ _ entered) in
    let a = (known i.usable).admits in
    let x = c.args.x in
    c.first_by_successor.ensures ∙ first_of_size a (members x a i.number) _ (size_of i c.with_sign.ensures)
    ∙ directed_answers _ _ _ entered (λ (g : Format) (d : Direction). unless (scaled_premise g x) (refused 8) (figure6 g d (number g false (magnitude g x))))

pub first_by_successor-requires : goal.first_by_successor-requires
first_by_successor-requires c =
    let i = operand (directed_enters _ _ _ (sym c.enter_directed_number.ensures ∙ c.in_ok-prepared.was)) in
    (record { usable = i.usable; number = size_member i c.with_sign.ensures }, ap (λ (y : Number). y.negative) c.with_sign.ensures)
