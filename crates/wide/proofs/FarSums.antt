-- The cut of a sum of two numbers that are far apart: where the smaller one lies decides.
use Rattle.theory.proofs.Prelude.{ℕ, ◌≤◌, ◌<◌, ◌+◌, ◌^◌, ◌*◌, ◌-◌, true, false, Bool, cond, not, Bool·beq, inr, ◌≢◌, ◌∙◌, ap, ◌≡◌, sym, refl, ap₂, mul-le-mul_right, mul-le-mul_left, mul-pos, mul-lt-mul_of_pos_right, le_antisymm, add-zero, arith, ◌+ℤ◌, bool_byte}
use native.Mathlib.Nat.{sub-zero}
use Rattle.rounding.proofs.Prelude.{Canonical, signed, pow-add, pow_pos, pow_pred, pow_mono, pow_half, Scale, ScaledWithin, Location, Exact, Below, Above, located, located_exact, located_below, located_above, located_scaled, positional, power_at, least_bound}
use Rattle.rounding.specs.declared.Wide.{Wide}
use Rattle.wide.specs.Operand.{Bounded, size_of, value_of}
use Rattle.wide.specs.Sum.{SumCut, below_power}
use Rattle.rounding.proofs.Normals.{canonical_cut, least_pos, normal_least}
use Rattle.wide.proofs.Sums.{sum_cut_made}
use Rattle.wide.proofs.Signs.{sum_agree, sum_differ, sum_none, sub_times}

-- y = 0
pub far_none : {limit : ℕ} {s : Scale} → ScaledWithin limit s → {x : Wide} (y : Wide) → Bounded s x → y.significand ≡ 0
    → SumCut s (value_of s.base x +ℤ value_of s.base y) x.negative (record { steps = x.significand; place = x.place; location = Exact })
far_none {s} h {x} y hx e =
    let none : size_of s.base y ≡ 0 = rw e (omega arith) in
    sum_cut_made s (size_of s.base x)
    (ap (λ (v : ℕ). value_of s.base x +ℤ signed y.negative v) none ∙ sum_none x.negative y.negative (size_of s.base x))
    (sym (rw (add-zero, located_exact 0 (s.base ^ x.place) refl) at (canonical_cut (positional h) hx.canonical 0 (pow_pos h.base_least x.place))))

module _ {limit : ℕ} {s : Scale} (h : ScaledWithin limit s) {x y : Wide} (hx : Bounded s x) (hy : Bounded s y) (gap : ℕ)
    (at : x.place ≡ y.place + gap) (far : s.digits < gap) (some : 1 ≤ y.significand) where
  y_below : size_of s.base y < s.base ^ (x.place - 1)
  y_below =
      omega (
        arith,
        pow-add s.base s.digits y.place,
        mul-lt-mul_of_pos_right hy.canonical.small (pow_pos h.base_least y.place),
        pow_mono h.base_least {i = s.digits + y.place} {j = x.place - 1} (omega arith),
      )

  y_half : 2 * size_of s.base y < s.base ^ x.place
  y_half = omega (arith, y_below, pow_half h.base_least {i = x.place - 1} {j = x.place} (omega arith))

  y_some : size_of s.base y ≢ 0
  y_some e = omega (arith, mul-pos some (pow_pos h.base_least y.place))

  x_least : x.significand ≤ s.least → x.significand ≡ s.least
  x_least l = le_antisymm l (normal_least h hx.canonical (omega (arith, at, far)))

  bound_two : 2 ≤ s.bound
  bound_two = omega (arith, least_bound h, h.base_least, mul-le-mul_left s.base (least_pos h))

  same_location : located (s.base ^ (x.place - 1) - size_of s.base y) (s.base ^ (x.place - 1)) ≡ below_power s.base y.significand gap
  unfolding below_power
  same_location =
      let unit : s.base ^ (x.place - 1) ≡ s.base ^ (gap - 1) * s.base ^ y.place =
      power_at s.base (omega arith) ∙ pow-add s.base (gap - 1) y.place in
      let m_most : y.significand ≤ s.base ^ (gap - 1) =
      omega (arith, hy.canonical.small, pow_mono h.base_least {i = s.digits} {j = gap - 1} (omega arith)) in
      located_scaled _ _ _ _ 1 (s.base ^ y.place) (omega arith) (pow_pos h.base_least y.place)
      (omega (arith, unit, sub_times (s.base ^ (gap - 1)) y.significand (s.base ^ y.place) m_most)) (omega (arith, unit))

  pub far_agree : Bool·beq x.negative y.negative ≡ true
      → SumCut s (value_of s.base x +ℤ value_of s.base y) x.negative (record { steps = x.significand; place = x.place; location = Below })
  far_agree e =
      sum_cut_made s (size_of s.base x + size_of s.base y) (sum_agree x.negative y.negative e (size_of s.base x) (size_of s.base y))
      (sym (canonical_cut (positional h) hx.canonical (size_of s.base y) (omega (arith, y_half))
      ∙ ap (λ (l : Location). record { steps = x.significand; place = x.place; location = l }) (located_below _ _ y_some y_half)))

  -- x leads with more than the power: the number before it is a step away
  pub far_differ : Bool·beq x.negative y.negative ≡ false → s.least < x.significand
      → SumCut s (value_of s.base x +ℤ value_of s.base y) x.negative (record { steps = x.significand - 1; place = x.place; location = Above })
  far_differ e l =
      let n : ℕ = x.significand - 1 in
      let B : ℕ = s.base ^ x.place in
      let split : size_of s.base x ≡ (n + 1) * B = ap (λ (m : ℕ). m * B) (omega arith) in
      let leads : s.base * s.least ≤ s.base * n = mul-le-mul_left s.base (omega arith) in
      let before : Canonical s.base s.digits n x.place =
      record { small = omega (arith, hx.canonical.small); normal = inr (omega (arith, least_bound h, h.bound_power)) } in
      sum_cut_made s (n * B + (B - size_of s.base y))
      (sum_differ x.negative y.negative e (size_of s.base x) (size_of s.base y) (omega (arith, y_half)) ∙ ap (signed x.negative) (omega (arith, y_half)))
      (sym (canonical_cut (positional h) before (B - size_of s.base y) (omega (arith, y_some, y_half))
      ∙ ap (λ (l : Location). record { steps = n; place = x.place; location = l }) (located_above _ _ (omega (arith, y_half)))))

  -- x is a power: the numbers before it are nearer together
  pub far_power : Bool·beq x.negative y.negative ≡ false → x.significand ≤ s.least → {l : Location} → l ≡ below_power s.base y.significand gap
      → SumCut s (value_of s.base x +ℤ value_of s.base y) x.negative (record { steps = s.bound - 1; place = x.place - 1; location = l })
  far_power e l f =
      let k : ℕ = x.place - 1 in
      let B : ℕ = s.base ^ k in
      let unit : s.base ^ x.place ≡ s.base * B = pow_pred s.base (omega arith) in
      let split : size_of s.base x ≡ s.bound * B = ap₂ ◌*◌ (x_least l) unit ∙ omega (arith, ap (λ (v : ℕ). v * B) (least_bound h)) in
      let steps : s.bound * B ≡ (s.bound - 1 + 1) * B = ap (λ (v : ℕ). v * B) (omega (arith, bound_two)) in
      let before : Canonical s.base s.digits (s.bound - 1) k =
      record { small = omega (arith, bound_two, h.bound_power); normal = inr (omega (arith, bound_two, h.bound_power, mul-le-mul_right (s.bound - 1) h.base_least)) } in
      sum_cut_made s ((s.bound - 1) * B + (B - size_of s.base y))
      (sum_differ x.negative y.negative e (size_of s.base x) (size_of s.base y) (omega (arith, y_below)) ∙ ap (signed x.negative) (omega (arith, y_below)))
      (sym (canonical_cut (positional h) before (B - size_of s.base y) (omega (arith, y_some, y_below))
      ∙ ap (λ (l : Location). record { steps = s.bound - 1; place = k; location = l }) (same_location ∙ sym f)))

  -- both cases in which x keeps its place, selected by the signs
  pub far_selected : (t : Bool) → Bool·beq x.negative y.negative ≡ t → (t ≡ false → s.least < x.significand) → {l : Location} → l ≡ cond t Below Above
      → SumCut s (value_of s.base x +ℤ value_of s.base y) x.negative (record { steps = x.significand - bool_byte (not t); place = x.place; location = l })
  far_selected true e m f = rw (f, sub-zero x.significand) (far_agree e)
  far_selected false e m f = rw f (far_differ e (m refl))
