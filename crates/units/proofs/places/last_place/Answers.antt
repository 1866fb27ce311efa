-- `units::places::last_place` meets its contract.
use Rattle.theory.proofs.Prelude.{ℕ, ◌^◌, false, ◌∙◌, ap, refl, arith}
use Rattle.theory.specs.Units.{ulp}
use Rattle.number.proofs.Prelude.{number, members, known, member_highest}
use Rattle.units.proofs.Written.{zero_place, last_power}
use Rattle.units.proofs.places.last_place.Goals as goal

pub returns-then-x-eq0 : goal.returns-then-x-eq0
unfolding ulp
returns-then-x-eq0 c =
    let k = known c.requires.usable in
    c.with_sign.ensures ∙ zero_place k.admits (members _ k.admits c.requires.number) (ulp c.args.prepared.format.base c.args.prepared.format.digits) refl c.if-x-eq0.true

pub power_number-requires : goal.power_number-requires
power_number-requires c =
    let k = known c.requires.usable in
    (c.requires.usable, omega (arith, c.place_of.ensures, k.highest, k.admits.digits_low, member_highest k.admits (members _ k.admits c.requires.number)))

pub returns : goal.returns
returns c =
    let k = known c.requires.usable in
    c.power_number.ensures
    ∙ ap (number c.args.prepared.format false)
    (ap (λ (i : ℕ). c.args.prepared.format.base ^ i) c.place_of.ensures
    ∙ last_power k.admits (members _ k.admits c.requires.number) (omega (arith, c.if-x-eq0.false)))
