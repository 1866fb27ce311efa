-- `binary32::patterns::pattern_of` meets its contract: the parts fit, since the pattern has 32 bits.
use Rattle.theory.proofs.Prelude.{ℕ, ◌<◌, ◌+◌, ◌^◌, ◌*◌, true, ◌∙◌, ap, ◌≡◌, arith, ℤ, nat_abs, ◌-ℤ◌, negsuc, w32, SFits, to_z, of_z, rules}
use Rattle.format.specs.Published.{binary32}
use Rattle.format.proofs.Signed.{back}
use Rattle.number.specs.declared.Number.{Number}
use Rattle.number.specs.Numbers.{member, place_of}
use Rattle.number.specs.Patterns.{weight_above}
use Rattle.number.proofs.Membership.{Member, members}
use Rattle.number.proofs.Values.{member_exponents}
use Rattle.binary32.specs.Patterns.{pattern_of}
use Rattle.binary32.proofs.Fields.{binary32_limits}
use Rattle.binary32.proofs.RoundTrips.{pattern_less}
use Rattle.binary32.proofs.patterns.pattern_of.Goals as goal

inside : (x : Number) → member binary32 x ≡ true → Member binary32 x
inside x h = members x binary32_limits h

-- the place and the weight of the sign, as the code finds them
module _ (x : Number) (e : SFits w32 x.exponent) {place weight : ℕ} (p : place ≡ nat_abs (to_z w32 (of_z w32 x.exponent) -ℤ negsuc 148)) (s : weight ≡ weight_above 31 x.negative) where
  sum_is : weight + place * 2 ^ 23 + x.significand ≡ pattern_of x
  unfolding pattern_of
  sum_is =
      let place_is : place ≡ place_of binary32 x = p ∙ ap (λ (k : ℤ). nat_abs (k -ℤ negsuc 148)) (back e) in
      omega (arith, s, place_is)

  sum_fits : member binary32 x ≡ true → weight + place * 2 ^ 23 + x.significand < 2 ^ 32
  sum_fits h = omega (arith, sum_is, pattern_less x (inside x h))

pub returns : goal.returns
returns c = sum_is c.args.x (search rules) c.distance-place.ensures c.sign_weight.ensures

-- the parts fit
pub distance-place-requires : goal.distance-place-requires
distance-place-requires c =
    let exponent_fits : SFits w32 c.args.x.exponent = search rules in
    rw (back exponent_fits) (member_exponents binary32_limits (inside _ c.requires))

pub overflow_cast-significand : goal.overflow_cast-significand
overflow_cast-significand c =
    let m : Member binary32 c.args.x = inside _ c.requires in
    omega (arith, m.significand_high)

pub overflow_mul-result : goal.overflow_mul-result
overflow_mul-result c = record { fits = omega (arith, sum_fits c.args.x (search rules) c.distance-place.ensures c.sign_weight.ensures c.requires) }

pub overflow_add-result : goal.overflow_add-result
overflow_add-result c = record { fits = omega (arith, sum_fits c.args.x (search rules) c.distance-place.ensures c.sign_weight.ensures c.requires) }

pub overflow_add-result-2 : goal.overflow_add-result-2
overflow_add-result-2 c = record { fits = omega (arith, sum_fits c.args.x (search rules) c.distance-place.ensures c.sign_weight.ensures c.requires) }
