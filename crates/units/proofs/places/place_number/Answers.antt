-- `units::places::place_number` meets its contract.
use Rattle.theory.proofs.Prelude.{◌∙◌, ap, ◌≡◌, sym}
use Rattle.number.specs.declared.Number.{Number}
use Rattle.units.specs.declared.places.Place.{Place}
use Rattle.units.specs.Places.{place_number}
use Rattle.units.proofs.places.place_number.Goals as goal

pub returns-in-First : goal.returns-in-First
returns-in-First c =
    let told : (p : Place) (r : Number) → c.args.place ≡ p → r ≡ place_number p c.args.prepared.format c.args.x
    → r ≡ place_number c.args.place c.args.prepared.format c.args.x = λ p r e h. h ∙ ap (λ (p : Place). place_number p c.args.prepared.format c.args.x) (sym e) in
    told _ _ c.in-First.is c.first_place.ensures

pub returns-in-Last : goal.returns-in-Last
returns-in-Last c =
    let told : (p : Place) (r : Number) → c.args.place ≡ p → r ≡ place_number p c.args.prepared.format c.args.x
    → r ≡ place_number c.args.place c.args.prepared.format c.args.x = λ p r e h. h ∙ ap (λ (p : Place). place_number p c.args.prepared.format c.args.x) (sym e) in
    told _ _ c.in-Last.is c.last_place.ensures

pub returns-in-Least : goal.returns-in-Least
returns-in-Least c =
    let told : (p : Place) (r : Number) → c.args.place ≡ p → r ≡ place_number p c.args.prepared.format c.args.x
    → r ≡ place_number c.args.place c.args.prepared.format c.args.x = λ p r e h. h ∙ ap (λ (p : Place). place_number p c.args.prepared.format c.args.x) (sym e) in
    told _ _ c.in-Least.is c.least_place.ensures
