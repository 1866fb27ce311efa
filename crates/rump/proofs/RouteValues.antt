-- Figure 1 with β = 10, p = 3, Emin = -1, Emax = 3 and 1: Theorem 1.1 of source 000 allows it, and the operations give 10.1. Figure 6 gives 1
-- there, in each direction; and with Emin = p - 1, where 1 is no number of the format, but not with Emin = p.
use Rattle.theory.proofs.Prelude.{ℕ, true, false, xor, ◌≡◌, refl, ℤ, pos, negsuc}
use Rattle.theory.proofs.Words.{◌and◌, ◌or◌, all, unless, place, step, round_z, successor}
use Rattle.theory.specs.declared.Direction.{Direction}
use Rattle.theory.specs.declared.Direction.TheVariants.{NearestEven, NearestAway, TowardZero, Upward, Downward}
use Rattle.units.specs.Neighbours.{successor_of}
use Rattle.format.specs.Formats.{exponents_admitted}
use Rattle.number.specs.Numbers.{equal_z, normal, small, is_zero}
use Rattle.theory.specs.Neighbours.{floor_to, ceil_to, lower, upper, lower_q, upper_q}
use Rattle.theory.specs.Round.{location, chosen, takes_upper, round}
use Rattle.number.proofs.Prelude.{Format, gives, admitted, member, checked, magnitude, value, greatest, number, delivered}
use Rattle.number.specs.declared.Number.{Number}
use Rattle.arithmetic.specs.Operations.{rounded, rounded_z, rounded_product}
use Rattle.rump.specs.Figures.{gap_above, figure1, figure6}
use Rattle.rump.specs.Premises.{lead_premise, scaled_premise}

abbrev decimal : (emin : ℤ) → Format
decimal emin = record { base = 10; digits = 3; emin = emin; emax = pos 3 }

abbrev plus : (m : ℕ) (e : ℤ) → Number
plus m e = record { negative = false; significand = m; exponent = e }

-- 1 is 10 × 10 ^ -1: p1 = 0.9, phi = 101, q = 101, p1 q = 90.9, S = 10.1
by_operations : figure1 (decimal (negsuc 0)) (plus 10 (negsuc 0)) ≡ gives (plus 101 (negsuc 0))
unfolding xor place step lower upper lower_q upper_q floor_to ceil_to location chosen takes_upper round round_z magnitude value greatest number delivered unless rounded rounded_z rounded_product figure1
by_operations = refl

-- y = 100, s = 101, S = 1
by_successor : (d : Direction) → figure6 (decimal (negsuc 0)) d (plus 10 (negsuc 0)) ≡ gives (plus 10 (negsuc 0))
unfolding xor ◌and◌ ◌or◌ all equal_z normal small is_zero exponents_admitted checked successor successor_of place step lower upper lower_q upper_q floor_to ceil_to location chosen takes_upper round round_z magnitude value greatest number delivered unless rounded rounded_z rounded_product gap_above figure6 admitted member
by_successor NearestEven = refl
by_successor NearestAway = refl
by_successor TowardZero = refl
by_successor Upward = refl
by_successor Downward = refl

-- and its premise holds, as it does not for figure 1
premise_holds : scaled_premise (decimal (negsuc 0)) (plus 10 (negsuc 0)) ≡ true
unfolding lead_premise scaled_premise ◌and◌ magnitude greatest
premise_holds = refl

-- with Emin = 2 the numbers are multiples of 100, and the factor is the least of them: y = 250,000, s = 251,000, S = 1,000 for 2,500
by_least_factor : (d : Direction) → figure6 (decimal (pos 2)) d (plus 25 (pos 2)) ≡ gives (plus 10 (pos 2))
unfolding xor ◌and◌ ◌or◌ all equal_z normal small is_zero exponents_admitted checked successor successor_of place step lower upper lower_q upper_q floor_to ceil_to location chosen takes_upper round round_z magnitude value greatest number delivered unless rounded rounded_z rounded_product gap_above figure6 admitted member
by_least_factor NearestEven = refl
by_least_factor NearestAway = refl
by_least_factor TowardZero = refl
by_least_factor Upward = refl
by_least_factor Downward = refl

-- with Emin = 3 it is no number of the format
no_factor : lead_premise (decimal (pos 3)) ≡ false
unfolding lead_premise ◌and◌
no_factor = refl
