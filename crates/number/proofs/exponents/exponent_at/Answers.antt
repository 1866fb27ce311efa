-- `number::exponents::exponent_at` meets its contract: the sum is from -1200 to 3600.
use Rattle.theory.proofs.Prelude.{◌≡◌, arith, pos, ◌+ℤ◌, w32, SFits, to_z}
use mir.Facts.{to_z_pos}
use Rattle.theory.proofs.Integers.{sum_parts}
use Rattle.format.proofs.Signed.{apart, fits, back}
use Rattle.format.proofs.Formats.{exponents}
use Rattle.number.proofs.exponents.exponent_at.Goals as goal

pub overflow_add-result : goal.overflow_add-result
overflow_add-result c =
    let small : to_z w32 c.args.place ≡ pos c.args.place = to_z_pos w32 (omega (arith, c.requires)) in
    let fit : SFits w32 (c.args.emin +ℤ pos c.args.place) = let e = exponents _ _ c.requires.0 in
    let z = c.args.emin +ℤ pos c.args.place in
    let s = sum_parts c.args.emin (pos c.args.place) in
    fits z (omega (arith, c.requires.1, apart z, apart c.args.emin)) (omega (arith, c.requires.1, apart z, apart c.args.emin)) in
    rw (back c.ranges.emin, small) fit

pub returns : goal.returns
returns c =
    let small : to_z w32 c.args.place ≡ pos c.args.place = to_z_pos w32 (omega (arith, c.requires)) in
    let fit : SFits w32 (c.args.emin +ℤ pos c.args.place) = let e = exponents _ _ c.requires.0 in
    let z = c.args.emin +ℤ pos c.args.place in
    let s = sum_parts c.args.emin (pos c.args.place) in
    fits z (omega (arith, c.requires.1, apart z, apart c.args.emin)) (omega (arith, c.requires.1, apart z, apart c.args.emin)) in
    rw (back c.ranges.emin, small) (back fit)
