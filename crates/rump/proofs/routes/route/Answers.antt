-- `rump::routes::route` meets its contract.
use Rattle.theory.proofs.Prelude.{[], ◌∷◌, ◌∙◌, ap, ◌≡◌, sym}
use Rattle.std.specs.Prelude.{Ok}
use Rattle.theory.specs.Tests.{unless}
use Rattle.theory.proofs.Tests.{unless_passed, unless_failed}
use Rattle.rump.specs.declared.Figure.{Figure}
use Rattle.number.proofs.Prelude.{Format, Prepared, Given, refused, entered, passed, operand, answered, stops}
use Rattle.number.specs.declared.Number.{Number}
use Rattle.rump.specs.Premises.{premise_of}
use Rattle.rump.specs.Routes.{figure_of, figured, route}
use Rattle.rump.proofs.Reach.{of_format}
use Rattle.rump.proofs.RouteLaws.{size_of, size_member}
use Rattle.rump.proofs.routes.route.Goals as goal

-- what is given in the format that was prepared, the call gives
answers : (figure : Figure) (format : Format) (x : Number) {q : Prepared} {r : Given Number} → entered format [] (x ∷ []) ≡ Ok q
    → r ≡ unless (premise_of figure q.format x) (refused 8) (figured figure q.format x) → r ≡ route figure format x
unfolding route
answers figure format x ready e =
    e ∙ answered _ _ _ (λ (g : Format). unless (premise_of figure g x) (refused 8) (figured figure g x)) ready

pub returns-in_err-prepared : goal.returns-in_err-prepared
unfolding route
returns-in_err-prepared c = stops _ _ _ _ _ (sym c.enter.ensures ∙ c.in_err-prepared.was) c.from_residual.ensures.1

pub premise_holds-requires : goal.premise_holds-requires
premise_holds-requires c = operand (passed _ _ _ (sym c.enter.ensures ∙ c.in_ok-prepared.was))

pub returns-then-not-premise_holds : goal.returns-then-not-premise_holds
returns-then-not-premise_holds c =
    answers _ _ _ (sym c.enter.ensures ∙ c.in_ok-prepared.was) (sym (unless_failed _ _ (sym c.premise_holds.ensures ∙ c.if-not-premise_holds.true)))

pub run-requires : goal.run-requires
run-requires c =
    let i = operand (passed _ _ _ (sym c.enter.ensures ∙ c.in_ok-prepared.was)) in
    record {
      usable = i.usable;
      kept = of_format c.args.figure c.in_ok-prepared.prepared.format c.args.x (sym c.premise_holds.ensures ∙ c.if-not-premise_holds.false);
      number = size_member i c.with_sign.ensures;
    }

pub returns : goal.returns
returns c =
    let ready = sym c.enter.ensures ∙ c.in_ok-prepared.was in
    let f = c.in_ok-prepared.prepared.format in
    answers _ _ _ ready
    (c.run.ensures ∙ ap (λ (y : Number). figure_of c.args.figure f y) (sym (size_of (operand (passed _ _ _ ready)) c.with_sign.ensures))
    ∙ sym (unless_passed _ _ (sym c.premise_holds.ensures ∙ c.if-not-premise_holds.false)))
