-- `units::places::first_place` meets its contract.
use Rattle.theory.proofs.Prelude.{ℕ, ◌∙◌, ap, sym, refl, arith, w32, SFits, rules}
use Rattle.theory.specs.Units.{ufp}
use Rattle.format.proofs.Signed.{back}
use Rattle.number.proofs.Values.{same_number}
use Rattle.number.proofs.Membership.{members, known, usable_scaled}
use Rattle.units.proofs.Written.{first_written}
use Rattle.units.proofs.places.first_place.Goals as goal

pub leading_power-requires : goal.leading_power-requires
leading_power-requires c =
    let k = known c.requires.usable in
    (usable_scaled c.requires.usable, omega (arith, k.bound, (members _ k.admits c.requires.number).significand_high))

pub returns : goal.returns
returns c =
    let e_fits : SFits w32 c.args.x.exponent = search rules in
    let k = known c.requires.usable in
    same_number refl (c.leading_power.ensures ∙ ap (λ (b : ℕ). ufp b c.args.x.significand) k.base)
    (back e_fits)
    ∙ sym (first_written k.admits (members _ k.admits c.requires.number))
