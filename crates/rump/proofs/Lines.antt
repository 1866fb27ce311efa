-- Lines of the figures whose values are known: what an operation on two of them gives where the rounded value is at most the greatest
-- number of the format, and the constants.
use Rattle.theory.proofs.Prelude.{ℕ, ◌≤◌, ◌^◌, ◌*◌, true, false, xor, ◌∙◌, ap, ◌≡◌, sym, refl, ap₂, subst, pow-zero, mul-one, zero-mul, arith, ℤ, pos, ◌+ℤ◌, nat_abs, ◌-ℤ◌, ◌*ℤ◌}
use native.Mathlib.Nat.{one-mul, mul-zero}
use Rattle.theory.proofs.Words.{Wide, signed, round_z}
use Rattle.theory.specs.declared.Direction.{Direction}
use Rattle.theory.specs.declared.Direction.TheVariants.{TowardZero}
use Rattle.theory.proofs.Rump.{sum, difference, product}
use Rattle.theory.proofs.Integers.{size_signed, plus_sign}
use Rattle.theory.proofs.Powers.{pow-add, pow_pos}
use Rattle.theory.proofs.Wide.{wide_pow}
use Rattle.number.proofs.Prelude.{Format, Given, gives, Admitted, positional, above_zero, below_zero, member, magnitude, value, greatest, number, Member, members, member_made}
use Rattle.number.specs.declared.Number.{Number}
use Rattle.number.proofs.Values.{number_same, number_of, number_member, number_value, one_greatest}
use Rattle.wide.proofs.Signs.{signed_times}
use Rattle.arithmetic.specs.Operations.{rounded_sum, rounded_difference, rounded_product}
use Rattle.arithmetic.specs.Outcomes.{Outcome, given, too_large}
use Rattle.arithmetic.proofs.Outcome.{rounded_outcome, rounded_z_outcome, rounded_exact, rounded_z_exact}
use Rattle.arithmetic.proofs.Algebra.{xor_plus, xor_swap}
use Rattle.rump.specs.Figures.{one, power, subrealmin}
use Rattle.rump.proofs.Reach.{Reach, first_power, constant_most}

-- ---- numbers
-- x is a number of the format with the value v
pub record Has (f : Format) (x : Number) (v : ℤ) : Type 0 where
  pub number : member f x ≡ true
  pub is : value f x ≡ v

pub has_size : {f : Format} {x : Number} {n : ℕ} → Has f x (pos n) → magnitude f x ≡ n
unfolding value
has_size {f} {x} h = sym (size_signed x.negative (magnitude f x)) ∙ ap nat_abs h.is

module _ {f : Format} (a : Admitted f) where
  -- a magnitude of the wide format, up to the greatest number
  pub number_has : {n : ℕ} → Wide f.base f.digits n → n ≤ greatest f → {x : Number} → x ≡ number f false n → Has f x (pos n)
  number_has w l e = rw e (record { number = member_made _ a (number_member a w false l); is = number_value a w false })

  -- a number other than zero is known by its value
  pub has_plus : {x : Number} {n : ℕ} → Has f x (pos n) → 1 ≤ n → x.negative ≡ false
  unfolding value
  has_plus {x} {n} h l = plus_sign x.negative (magnitude f x) n h.is l

  pub has_number : {x : Number} {n : ℕ} → Has f x (pos n) → 1 ≤ n → x ≡ number f false n
  unfolding value
  has_number {x} {n} h l =
      let i = members x a h.number in
      sym (number_of a i x.negative) ∙ number_same f x.negative false (magnitude f x) n h.is (λ _. has_plus h l)

-- ---- lines
-- what is given is a number with the value v
pub record Line (f : Format) (given : Given Number) (v : ℤ) : Type 0 where
  pub number : Number
  pub is : given ≡ gives number
  pub has : Has f number v

settled : {f : Format} {d : Direction} {N : ℤ} {D : ℕ} {r : Given Number} {v : ℤ} → Outcome f d N D r → round_z f.base f.digits d N D ≡ v → nat_abs v ≤ greatest f → Line f r v
settled (given {x} g) e h = record { number = x; is = refl; has = record { number = g.member; is = g.value ∙ e } }
settled (too_large l) e h = absurd (omega (arith, ap nat_abs e))

module _ {f : Format} (a : Admitted f) (d : Direction) {x y : Number} {v w : ℤ} (h : Has f x v) (k : Has f y w) {u : ℤ} where
  pub sum_line : sum f.base f.digits d v w ≡ u → nat_abs u ≤ greatest f → Line f (rounded_sum f d x y) u
  unfolding sum
  sum_line e l =
      settled (rounded_z_outcome a d _ (value f x +ℤ value f y))
      (ap₂ (λ (i j : ℤ). round_z f.base f.digits d (i +ℤ j) 1) h.is k.is ∙ e) l

  pub difference_line : difference f.base f.digits d v w ≡ u → nat_abs u ≤ greatest f → Line f (rounded_difference f d x y) u
  unfolding difference
  difference_line e l =
      settled (rounded_z_outcome a d _ (value f x -ℤ value f y))
      (ap₂ (λ (i j : ℤ). round_z f.base f.digits d (i -ℤ j) 1) h.is k.is ∙ e) l

  pub product_line : above_zero f.emin ≡ 0 → product f.base f.digits d (one f) v w ≡ u → nat_abs u ≤ greatest f → Line f (rounded_product f d x y) u
  unfolding product rounded_product value
  product_line low e l =
      let same : signed (xor x.negative y.negative) (magnitude f x * magnitude f y * f.base ^ above_zero f.emin) ≡ value f x *ℤ value f y =
      rw (low, pow-zero f.base, mul-one (magnitude f x * magnitude f y)) (sym (signed_times _ _ _ _)) in
      settled (rounded_outcome a d _ _ (pow_pos a.base_low (below_zero f.emin)))
      (ap (λ (i : ℤ). round_z f.base f.digits d i (one f)) (same ∙ ap₂ ◌*ℤ◌ h.is k.is) ∙ e) l

-- ---- lines of plus zero, in the directions of the figures
module _ {f : Format} (a : Admitted f) {x : Number} (i : Member f x) (z : magnitude f x ≡ 0) (s : x.negative ≡ false) where
  pub product_zero : (y : Number) → y.negative ≡ false → rounded_product f TowardZero y x ≡ gives x
  unfolding rounded_product value
  product_zero y t =
      let signs : xor y.negative x.negative ≡ x.negative = rw t (xor_swap false x.negative ∙ xor_plus x.negative false refl) in
      rounded_exact a TowardZero i _ _ (pow_pos a.base_low (below_zero f.emin))
      (rw (z, zero-mul (f.base ^ below_zero f.emin), mul-zero (magnitude f y), zero-mul (f.base ^ above_zero f.emin))) (rw signs) (λ _. signs)

  pub difference_zero : rounded_difference f TowardZero x x ≡ gives x
  unfolding value
  difference_zero = rounded_z_exact a TowardZero i _ _ (rw (z, s)) (λ _. rw s)

-- ---- the constants
module _ {f : Format} (a : Admitted f) where
  pub subrealmin_has : Has f (subrealmin f) (pos 1)
  subrealmin_has = number_has a (subst (Wide f.base f.digits) (pow-zero f.base) (wide_pow (positional a) 0)) (one_greatest a) refl

  pub power_has : Reach f → (k : ℕ) → k ≤ f.digits → Has f (power f k) (pos (f.base ^ k * one f))
  power_has r k h =
      let split = pow-add f.base k (below_zero f.emin) in
      number_has a (subst (Wide f.base f.digits) split (wide_pow (positional a) _)) (constant_most a r k h) refl

  pub one_has : Reach f → Has f (power f 0) (pos (one f))
  one_has r =
      let same : f.base ^ 0 * one f ≡ one f = ap (λ (t : ℕ). t * one f) (pow-zero f.base) ∙ one-mul (one f) in
      subst (λ (n : ℕ). Has f (power f 0) (pos n)) same (power_has r 0 (omega arith))

  pub base_has : Reach f → Has f (power f 1) (pos (f.base * one f))
  base_has r = subst (λ (n : ℕ). Has f (power f 1) (pos (n * one f))) (first_power f.base) (power_has r 1 a.digits_low)
