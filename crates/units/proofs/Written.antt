-- The places of a number of the format, as the code writes them.
use Rattle.theory.proofs.Prelude.{ℕ, ◌≤◌, ◌<◌, ◌+◌, ◌^◌, ◌*◌, suc, zero, false, ◌∙◌, ap, ◌≡◌, sym, zero-mul, lt_of_not-le, arith, ℤ}
use Rattle.theory.proofs.Words.{Canonical, ufp, ulp, uls, zeros}
use Rattle.theory.proofs.Powers.{pow_mono}
use Rattle.theory.proofs.Units.{ufp_shift, ulp_canonical}
use Rattle.theory.proofs.LeastPlace.{uls_shift, zeros_found}
use Rattle.number.proofs.Prelude.{Format, highest_place, Admitted, positional, place_of, magnitude, number, Member}
use Rattle.number.specs.declared.Number.{Number}
use Rattle.number.specs.Signs.{with_sign}
use Rattle.number.proofs.Values.{place_back, number_canonical, number_of, member_canonical, member_highest}
use Rattle.units.proofs.Forms.{first_canonical}

-- fewer zeros than digits
zeros_below : {β p m : ℕ} → 2 ≤ β → 1 ≤ m → m < β ^ p → zeros β m < p
zeros_below {β} {p} {m} hβ hm h = lt_of_not-le (λ (l : p ≤ zeros β m). go (zeros_found hβ m hm).multiple.times (zeros_found hβ m hm).multiple.is l)
  where
    go : (t : ℕ) → m ≡ t * β ^ zeros β m → p ≤ zeros β m → ⊥
    go zero e l = omega (arith, zero-mul (β ^ zeros β m))
    go (suc t) e l = omega (arith, pow_mono hβ l)

module _ {f : Format} {x : Number} (a : Admitted f) (i : Member f x) where
  own : Canonical f.base f.digits x.significand (place_of f x)
  own = member_canonical a i

  -- either zero has plus zero for a place
  pub zero_place : (place : ℕ → ℕ) → place 0 ≡ 0 → x.significand ≡ 0 → with_sign x false ≡ number f false (place (magnitude f x))
  unfolding magnitude
  zero_place place none e =
      let size : magnitude f x ≡ 0 = ap (λ (m : ℕ). m * f.base ^ place_of f x) e ∙ zero-mul (f.base ^ place_of f x) in
      sym (number_of a i false) ∙ ap (number f false) (size ∙ sym none ∙ ap place (sym size))

  pub first_written : number f false (ufp f.base (magnitude f x)) ≡ record { negative = false; significand = ufp f.base x.significand; exponent = x.exponent }
  unfolding magnitude
  first_written =
      ap (number f false) (ufp_shift a.base_low x.significand (place_of f x))
      ∙ number_canonical a (first_canonical (positional a) own) false
      ∙ ap (λ (e : ℤ). record { negative = false; significand = ufp f.base x.significand; exponent = e })
      (place_back f.emin x.exponent i.exponent_low)

  module _ (some : 1 ≤ x.significand) where
    pub last_power : f.base ^ place_of f x ≡ ulp f.base f.digits (magnitude f x)
    unfolding magnitude
    last_power = sym (ulp_canonical (positional a) own some)

    pub least_power : f.base ^ (place_of f x + zeros f.base x.significand) ≡ uls f.base (magnitude f x)
    unfolding magnitude
    least_power = sym (uls_shift a.base_low x.significand (place_of f x) some)

    pub least_room : place_of f x + zeros f.base x.significand < f.digits + highest_place f
    least_room = omega (arith, member_highest a i, zeros_below a.base_low some i.significand_high)
