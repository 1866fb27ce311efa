-- Figure 1, line by line: under its premise no line passes the greatest number, so each gives the theory's value.
use Rattle.theory.proofs.Prelude.{ℕ, ◌≤◌, ◌<◌, ◌+◌, ◌^◌, ◌*◌, ◌-◌, suc, zero, ◌∙◌, ap, ◌≡◌, sym, refl, dec_le, mul-le-mul_right, mul-le-mul_left, mul-pos, le_trans, false, arith, ℤ, pos, nat_abs}
use Rattle.theory.proofs.Words.{Positional, place, lower, ufp}
use Rattle.theory.specs.declared.Direction.TheVariants.{TowardZero}
use Rattle.theory.proofs.Rump.{sum, difference, product, below_one, scaled_up, ufp_by_figure1}
use Rattle.theory.proofs.Powers.{pow-add, pow_pos, pow_mono, pow_pred, pow_lt}
use Rattle.theory.proofs.Wide.{wide_phi}
use Rattle.theory.proofs.Neighbours.{lower_exact}
use Rattle.theory.proofs.Units.{ufp_le, ufp_power}
use Rattle.theory.proofs.Operations.{sum_toward_zero}
use Rattle.theory.proofs.FirstPlace.{scaled, below_one_is, scaled_up_is, scaled_up_most, shrunk_is, ufp_toward_zero_is}
use Rattle.number.proofs.Prelude.{Format, gives, highest_place, positional, below_zero, Member, magnitude, greatest}
use Rattle.number.specs.declared.Number.{Number}
use Rattle.arithmetic.specs.Operations.{rounded_sum, rounded_difference, rounded_product}
use Rattle.rump.specs.Figures.{one, power, subrealmin, figure1}
use Rattle.rump.proofs.Reach.{First, one_positive, power_most, constant_most}
use Rattle.rump.proofs.Lines.{Has, has_plus, product_zero, difference_zero, Line, sum_line, difference_line, product_line, subrealmin_has, power_has, one_has}

-- the values of its lines, in units
abbrev p1 : Format → ℤ
p1 f = below_one f.base f.digits (one f)

abbrev phi : Format → ℕ
phi f = (f.base ^ (f.digits - 1) + 1) * one f

abbrev q : Format → ℕ → ℤ
q f n = scaled_up f.base f.digits (one f) n

abbrev shrunk : Format → ℕ → ℤ
shrunk f n = product f.base f.digits TowardZero (one f) (p1 f) (q f n)

module _ {f : Format} {n : ℕ} (k : First f n) where
  ok : Positional f.base f.digits
  ok = positional k.admits

  -- 1 is β ^ p times a power of β, in units
  abbrev spare : ℕ
  spare = below_zero f.emin - f.digits

  one_is : one f ≡ f.base ^ (f.digits + spare)
  one_is = ap (λ (j : ℕ). f.base ^ j) (omega (arith, k.reach.low))

  -- ---- line 2, p1 = 1 - subrealmin
  p1_most : nat_abs (p1 f) ≤ greatest f
  p1_most =
      let digits : f.base ^ f.digits - 1 ≤ f.base ^ f.digits = omega arith in
      let within = power_most k.admits (f.digits + spare) (omega (arith, k.reach.low, k.reach.span)) in
      rw (one_is, below_one_is ok spare) (omega (arith, mul-le-mul_right (f.base ^ spare) digits, pow-add f.base f.digits spare, within))

  p1_line : Line f (rounded_difference f TowardZero (power f 0) (subrealmin f)) (p1 f)
  unfolding below_one
  p1_line = difference_line k.admits TowardZero (one_has k.admits k.reach) (subrealmin_has k.admits) refl p1_most

  -- ---- line 3, φ = β ^ (p - 1) + 1
  phi_most : phi f ≤ greatest f
  phi_most =
      let j : ℕ = f.digits - 1 in
      let bound : f.base ^ j + 1 ≤ f.base ^ f.digits =
      omega (arith, pow_pred f.base k.admits.digits_low, mul-le-mul_right (f.base ^ j) k.admits.base_low, pow_pos k.admits.base_low j) in
      le_trans (mul-le-mul_right (one f) bound) (constant_most k.admits k.reach f.digits (omega arith))

  phi_is : sum f.base f.digits TowardZero (pos (f.base ^ (f.digits - 1) * one f)) (pos (one f)) ≡ pos (phi f)
  phi_is =
      sum_toward_zero ok (f.base ^ (f.digits - 1) * one f) (one f)
      ∙ ap pos (ap (lower f.base f.digits) (omega arith) ∙ lower_exact ok (phi f) (wide_phi ok (below_zero f.emin)))

  phi_line : Line f (rounded_sum f TowardZero (power f (f.digits - 1)) (power f 0)) (pos (phi f))
  phi_line =
      sum_line k.admits TowardZero (power_has k.admits k.reach (f.digits - 1) (omega arith)) (one_has k.admits k.reach) phi_is phi_most

  -- ---- line 4, q = φ f
  ufp_most : ufp f.base n ≤ f.base ^ (highest_place f - f.digits)
  ufp_most = by n k.bound
    where
      by : (m : ℕ) → m < f.base ^ (highest_place f + 1 - f.digits) → ufp f.base m ≤ f.base ^ (highest_place f - f.digits)
      by zero h = omega (arith, ufp_le k.admits.base_low 0)
      by (suc m) h = rw (ufp_power k.admits.base_low m) (pow_mono k.admits.base_low (low (dec_le (place f.base 1 (suc m)) (highest_place f - f.digits))))
        where
          low : Dec (place f.base 1 (suc m) ≤ highest_place f - f.digits) → place f.base 1 (suc m) ≤ highest_place f - f.digits
          low (yes l) = l
          low (no l) =
              absurd
              (omega (
                arith,
                ufp_le k.admits.base_low (suc m),
                ufp_power k.admits.base_low m,
                pow_mono k.admits.base_low {i = highest_place f + 1 - f.digits} {j = place f.base 1 (suc m)} (omega arith),
              ))

  scaled_most : scaled f.base f.digits n ≤ greatest f
  scaled_most =
      let split : f.base ^ f.digits * f.base ^ (highest_place f - f.digits) ≡ f.base ^ highest_place f =
      sym (pow-add f.base f.digits (highest_place f - f.digits)) ∙ ap (λ (j : ℕ). f.base ^ j) (omega (arith, k.reach.low, k.reach.span)) in
      omega (arith, scaled_up_most ok n, mul-le-mul_left (f.base ^ f.digits) ufp_most, power_most k.admits (highest_place f) (omega arith))

  first_is : difference f.base f.digits TowardZero (q f n) (shrunk f n) ≡ pos (ufp f.base n)
  unfolding ufp_by_figure1
  first_is = rw one_is (ufp_toward_zero_is ok spare n)

  module _ {x : Number} (h : Has f x (pos n)) where
    q_line : Line f (rounded_product f TowardZero phi_line.number x) (q f n)
    unfolding scaled_up
    q_line =
        product_line k.admits TowardZero phi_line.has h k.reach.not_above refl
        (rw (scaled_up_is ok (one f) n (one_positive k.admits)) scaled_most)

    -- ---- line 5, p1 q and S = q - p1 q
    shrunk_line : Line f (rounded_product f TowardZero p1_line.number q_line.number) (shrunk f n)
    shrunk_line =
        product_line k.admits TowardZero p1_line.has q_line.has k.reach.not_above refl
        (rw (one_is, shrunk_is ok spare n) (omega (arith, scaled_most)))

    pub figure1_line : Line f (figure1 f x) (pos (ufp f.base n))
    unfolding figure1
    figure1_line =
        let within = power_most k.admits (highest_place f - f.digits) (omega arith) in
        rw (p1_line.is, phi_line.is, q_line.is, shrunk_line.is)
        (difference_line k.admits TowardZero q_line.has shrunk_line.has first_is (omega (arith, ufp_most, within)))

  -- ---- of plus zero, which each line gives
  p1_plus : p1_line.number.negative ≡ false
  p1_plus =
      let size : ℕ = (f.base ^ f.digits - 1) * f.base ^ spare in
      let same : p1 f ≡ pos size = rw (one_is, below_one_is ok spare) in
      has_plus k.admits {n = size} (record { number = p1_line.has.number; is = p1_line.has.is ∙ same })
      (mul-pos (omega (arith, pow_lt k.admits.base_low k.admits.digits_low, pow_pos k.admits.base_low 0)) (pow_pos k.admits.base_low spare))

  phi_plus : phi_line.number.negative ≡ false
  phi_plus = has_plus k.admits phi_line.has (mul-pos (omega arith) (one_positive k.admits))

  pub figure1_zero : {x : Number} → Member f x → magnitude f x ≡ 0 → x.negative ≡ false → figure1 f x ≡ gives x
  unfolding figure1
  figure1_zero {x} i z s =
      let a = k.admits in
      rw (p1_line.is, phi_line.is, product_zero a i z s phi_line.number phi_plus, product_zero a i z s p1_line.number p1_plus) (difference_zero a i z s)
