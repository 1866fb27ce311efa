-- `number::exponents::place_of` meets its contract.
use Rattle.theory.proofs.Prelude.{◌∙◌, w32, SFits, rules}
use Rattle.number.proofs.Prelude.{back, members, known}
use Rattle.number.proofs.Values.{member_exponents}
use Rattle.number.proofs.exponents.place_of.Goals as goal

pub distance-requires : goal.distance-requires
distance-requires c =
    let emin_fits : SFits w32 c.args.prepared.format.emin = search rules in
    let e_fits : SFits w32 c.args.x.exponent = search rules in
    let k = known c.requires.usable in
    rw (back emin_fits, back e_fits) (member_exponents k.admits (members _ k.admits c.requires.number))

pub returns : goal.returns
returns c =
    let emin_fits : SFits w32 c.args.prepared.format.emin = search rules in
    let e_fits : SFits w32 c.args.x.exponent = search rules in
    c.distance.ensures ∙ rw (back emin_fits, back e_fits)
