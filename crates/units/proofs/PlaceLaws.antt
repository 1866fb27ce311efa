-- The places of a number of the format are numbers of the format, plus at either zero too, with the magnitudes that the theory's laws describe: ufp is the
-- greatest power of β not above |x| (ufp-le, ufp-greatest), ulp is β ^ e (ulp-canonical), uls divides x and is the greatest power
-- that does (uls-multiple, uls-greatest).
use Rattle.theory.proofs.Prelude.{ℕ, ◌≤◌, ◌*◌, suc, zero, false, ◌≡◌, le_trans, zero-mul, arith}
use Rattle.theory.proofs.Words.{Wide, ufp, ulp, uls, zeros}
use Rattle.theory.proofs.Wide.{wide_zero, wide_pow}
use Rattle.theory.proofs.Units.{ufp_le, ufp_wide, ulp_le, ulp_wide}
use Rattle.theory.proofs.LeastPlace.{uls_multiple}
use Rattle.number.proofs.Prelude.{Format, Given, gives, Admitted, positional, magnitude, number, Member, one_checked}
use Rattle.number.specs.declared.Number.{Number}
use Rattle.number.specs.Signs.{GivesNumber}
use Rattle.number.proofs.Values.{member_greatest}
use Rattle.number.proofs.Negation.{gives_number}
use Rattle.units.specs.Places.{first_place, last_place, least_place}

module _ {f : Format} {x : Number} (a : Admitted f) (i : Member f x) where
  place_number_law : {answer : Given Number} (n : ℕ) → answer ≡ gives (number f false n) → Wide f.base f.digits n → n ≤ magnitude f x → GivesNumber f answer false n
  place_number_law n e w h = gives_number a false e w (le_trans h (member_greatest a i))

  pub ufp_answers : GivesNumber f (first_place f x) false (ufp f.base (magnitude f x))
  unfolding first_place
  ufp_answers = place_number_law _ (one_checked a i) (ufp_wide (positional a) (magnitude f x)) (ufp_le a.base_low (magnitude f x))

  pub ulp_answers : GivesNumber f (last_place f x) false (ulp f.base f.digits (magnitude f x))
  unfolding last_place
  ulp_answers = place_number_law _ (one_checked a i) (ulp_wide (positional a) (magnitude f x)) (ulp_le (positional a) (magnitude f x))

  uls_wide : (n : ℕ) → Wide f.base f.digits (uls f.base n)
  unfolding uls
  uls_wide zero = wide_zero (positional a)
  uls_wide (suc n) = wide_pow (positional a) (zeros f.base (suc n))

  uls_le : (n : ℕ) → uls f.base n ≤ n
  unfolding uls
  uls_le zero = omega arith
  uls_le (suc n) = by (uls_multiple a.base_low n).times (uls_multiple a.base_low n).is
    where
      by : (t : ℕ) → suc n ≡ t * uls f.base (suc n) → uls f.base (suc n) ≤ suc n
      by zero e = absurd (omega (arith, zero-mul (uls f.base (suc n))))
      by (suc t) e = omega arith

  pub uls_answers : GivesNumber f (least_place f x) false (uls f.base (magnitude f x))
  unfolding least_place
  uls_answers = place_number_law _ (one_checked a i) (uls_wide (magnitude f x)) (uls_le (magnitude f x))
