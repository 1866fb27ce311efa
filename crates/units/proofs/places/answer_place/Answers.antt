-- `units::places::answer_place` meets its contract.
use Rattle.theory.proofs.Prelude.{[], ◌∷◌, ◌∙◌, ap, ◌≡◌, sym, refl}
use Rattle.number.proofs.Prelude.{Format, gives, checked, passed, operand, answered, stops}
use Rattle.number.specs.declared.Number.{Number}
use Rattle.units.specs.declared.places.Place.{Place}
use Rattle.units.specs.declared.places.Place.TheVariants.{First, Last, Least}
use Rattle.units.specs.Places.{first_place, last_place, least_place, place_number, place_answer}
use Rattle.units.proofs.places.answer_place.Goals as goal

-- the number after the checks
by_number : (p : Place) (f : Format) (x : Number) → checked f [] (x ∷ []) (gives (place_number p f x)) ≡ place_answer p f x
unfolding first_place last_place least_place
by_number First f x = refl
by_number Last f x = refl
by_number Least f x = refl

pub place_number-requires : goal.place_number-requires
place_number-requires c = operand (passed _ _ _ (sym c.enter.ensures ∙ c.in_ok-prepared.was))

pub returns-in_err-prepared : goal.returns-in_err-prepared
returns-in_err-prepared c = stops _ _ _ _ _ (sym c.enter.ensures ∙ c.in_err-prepared.was) c.from_residual.ensures.1 ∙ by_number c.args.place _ _

pub returns : goal.returns
returns c =
    let s = c.args in
    ap gives c.place_number.ensures ∙ answered _ _ _ (λ (g : Format). gives (place_number s.place g s.x)) (sym c.enter.ensures ∙ c.in_ok-prepared.was)
    ∙ by_number s.place _ _
