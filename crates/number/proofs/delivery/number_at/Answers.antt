-- `number::delivery::number_at` meets its contract.
use Rattle.theory.proofs.Prelude.{◌∙◌, ap, sym, arith, ℤ, pos, ◌+ℤ◌, w32, SFits, rules}
use Rattle.number.proofs.Prelude.{back, known}
use Rattle.number.proofs.Values.{emin_admitted, highest_most, number_canonical}
use Rattle.number.proofs.delivery.number_at.Goals as goal

pub exponent_at-exponent-requires : goal.exponent_at-exponent-requires
exponent_at-exponent-requires c =
    let emin_fits : SFits w32 c.args.prepared.format.emin = search rules in
    let k = known c.requires.0 in
    rw (back emin_fits) (emin_admitted k.admits, omega (arith, c.requires.2, k.highest, highest_most k.admits))

pub returns : goal.returns
returns c =
    let emin_fits : SFits w32 c.args.prepared.format.emin = search rules in
    let k = known c.requires.0 in
    ap (λ (e : ℤ). record { negative = c.args.negative; significand = c.args.significand; exponent = e })
    (back (record { sfits = c.exponent_at-exponent.type_inv }) ∙ c.exponent_at-exponent.ensures ∙ ap (λ (e : ℤ). e +ℤ pos c.args.place) (back emin_fits))
    ∙ sym (number_canonical k.admits c.requires.1 c.args.negative)
