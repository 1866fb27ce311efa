-- `decimal32::writing::pattern_of` meets its contract: the place is at most 191.
use Rattle.theory.proofs.Prelude.{◌∙◌, ap, ◌≡◌, arith, ℤ, nat_abs, ◌-ℤ◌, negsuc, w32, SFits, rules}
use Rattle.format.specs.Published.{decimal32}
use Rattle.format.proofs.Signed.{back}
use Rattle.number.specs.Numbers.{place_of}
use Rattle.number.proofs.Membership.{Member, members}
use Rattle.number.proofs.Values.{member_highest, member_exponents}
use Rattle.decimal32.specs.Patterns.{pattern_at, pattern_of}
use Rattle.decimal32.proofs.Fields.{decimal32_limits}
use Rattle.decimal32.proofs.writing.pattern_of.Goals as goal

pub distance-place-requires : goal.distance-place-requires
distance-place-requires c =
    let exponent_fits : SFits w32 c.args.x.exponent = search rules in
    let inside : Member decimal32 c.args.x = members c.args.x decimal32_limits c.requires in
    rw (back exponent_fits) (member_exponents decimal32_limits inside)

pub pattern_at-requires : goal.pattern_at-requires
pattern_at-requires c =
    let exponent_fits : SFits w32 c.args.x.exponent = search rules in
    let inside : Member decimal32 c.args.x = members c.args.x decimal32_limits c.requires in
    let place_is : c.distance-place.result ≡ place_of decimal32 c.args.x = c.distance-place.ensures ∙ ap (λ (e : ℤ). nat_abs (e -ℤ negsuc 100)) (back exponent_fits) in
    let i = inside in
    (i.significand_high, omega (arith, place_is, member_highest decimal32_limits i))

pub returns : goal.returns
unfolding pattern_of
returns c =
    let exponent_fits : SFits w32 c.args.x.exponent = search rules in
    let place_is : c.distance-place.result ≡ place_of decimal32 c.args.x = c.distance-place.ensures ∙ ap (λ (e : ℤ). nat_abs (e -ℤ negsuc 100)) (back exponent_fits) in
    let x = c.args.x in
    c.pattern_at.ensures ∙ ap (pattern_at x.negative x.significand) place_is

pub overflow_cast-significand : goal.overflow_cast-significand
overflow_cast-significand c =
    let inside : Member decimal32 c.args.x = members c.args.x decimal32_limits c.requires in
    omega (arith, inside.significand_high)
