-- `units::places::least_place` meets its contract.
use Rattle.theory.proofs.Prelude.{ℕ, ◌<◌, ◌+◌, ◌^◌, false, ◌∙◌, ap, ◌≡◌, refl, ap₂, arith}
use Rattle.theory.specs.Units.{uls, zeros}
use Rattle.number.proofs.Prelude.{place_of, number, highest_most}
use Rattle.number.proofs.Membership.{members, known, usable_scaled}
use Rattle.units.proofs.Written.{zero_place, least_power, least_room}
use Rattle.units.proofs.places.least_place.Goals as goal

pub returns-then-x-eq0 : goal.returns-then-x-eq0
unfolding uls
returns-then-x-eq0 c =
    let k = known c.requires.usable in
    c.with_sign.ensures ∙ zero_place k.admits (members _ k.admits c.requires.number) (uls c.args.prepared.format.base) refl c.if-x-eq0.true

pub trailing_zeros-requires : goal.trailing_zeros-requires
trailing_zeros-requires c = ((usable_scaled c.requires.usable).base_least, omega (arith, c.if-x-eq0.false))

pub overflow_add-place : goal.overflow_add-place
overflow_add-place c =
    let exponent : c.place_of-place.result + c.trailing_zeros.result
    ≡ place_of c.args.prepared.format c.args.x + zeros c.args.prepared.format.base c.args.x.significand = ap₂ (λ (i j : ℕ). i + j) c.place_of-place.ensures
    (c.trailing_zeros.ensures ∙ ap (λ (b : ℕ). zeros b c.args.x.significand) (known c.requires.usable).base) in
    let room : c.place_of-place.result + c.trailing_zeros.result < c.args.prepared.format.digits + c.args.prepared.highest = let k = known c.requires.usable in
    omega (arith, exponent, k.highest, least_room k.admits (members _ k.admits c.requires.number) (omega (arith, c.if-x-eq0.false))) in
    let k = known c.requires.usable in
    omega (arith, room, k.admits.digits_high, k.highest, highest_most k.admits)

pub returns : goal.returns
returns c =
    let exponent : c.place_of-place.result + c.trailing_zeros.result
    ≡ place_of c.args.prepared.format c.args.x + zeros c.args.prepared.format.base c.args.x.significand = ap₂ (λ (i j : ℕ). i + j) c.place_of-place.ensures
    (c.trailing_zeros.ensures ∙ ap (λ (b : ℕ). zeros b c.args.x.significand) (known c.requires.usable).base) in
    let k = known c.requires.usable in
    c.power_number.ensures
    ∙ ap (number c.args.prepared.format false)
    (ap (λ (i : ℕ). c.args.prepared.format.base ^ i) exponent
    ∙ least_power k.admits (members _ k.admits c.requires.number) (omega (arith, c.if-x-eq0.false)))

pub power_number-requires : goal.power_number-requires
power_number-requires c =
    let exponent : c.place_of-place.result + c.trailing_zeros.result
    ≡ place_of c.args.prepared.format c.args.x + zeros c.args.prepared.format.base c.args.x.significand = ap₂ (λ (i j : ℕ). i + j) c.place_of-place.ensures
    (c.trailing_zeros.ensures ∙ ap (λ (b : ℕ). zeros b c.args.x.significand) (known c.requires.usable).base) in
    let room : c.place_of-place.result + c.trailing_zeros.result < c.args.prepared.format.digits + c.args.prepared.highest = let k = known c.requires.usable in
    omega (arith, exponent, k.highest, least_room k.admits (members _ k.admits c.requires.number) (omega (arith, c.if-x-eq0.false))) in
    (c.requires.usable, room)
