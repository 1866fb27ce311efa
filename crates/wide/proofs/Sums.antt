-- The cut of a sum, where the numbers overlap.
use Rattle.theory.proofs.Prelude.{ℕ, ◌≤◌, ◌<◌, ◌+◌, ◌^◌, ◌*◌, ◌-◌, ◌/◌, ◌%◌, true, false, Bool, not, Bool·beq, inr, ◌∙◌, ap, ◌≡◌, sym, refl, ap₂, subst, mul-le-mul_right, mul-le-mul_left, pow-zero, mul-lt-mul_of_pos_right, lt_of_mul-lt-mul_right, div-add-mod', mod-lt, le_of_mul-le-mul_left, arith, ℤ, ◌+ℤ◌, nat_abs}
use native.Mathlib.Nat.{sub-zero}
use lib.Arith.{digits_div}
use Rattle.rounding.proofs.Prelude.{Direction, signed, pow-add, pow_pos, pow_pred, pow_mono, Scale, ScaledWithin, Unit, power_one, cut_of, Rounds, located, cut_is, positional, least_bound, bound_pos}
use Rattle.theory.proofs.Tests.{never}
use Rattle.theory.proofs.Integers.{size_signed}
use Rattle.rounding.specs.declared.Cut.{Cut}
use Rattle.rounding.specs.declared.Wide.{Wide}
use Rattle.rounding.specs.declared.Rounding.{Rounding}
use Rattle.wide.specs.Operand.{Bounded, size_of, value_of}
use Rattle.wide.specs.declared.sum.UnitSum.{UnitSum}
use Rattle.wide.specs.Sum.{InUnits, Short, Sized, above, below, SumCut, RoundsZ}
use Rattle.wide.proofs.Sizes.{sum_size}
use Rattle.wide.proofs.Finishes.{finishes}
use Rattle.rounding.proofs.Normals.{normal_least}
use Rattle.wide.proofs.Signs.{Adds, sub_times, adds_agree, adds_differ, adds_exchanged}

-- two signs that differ
other : (a b : Bool) → Bool·beq a b ≡ false → not a ≡ b
other true true e = absurd (never e)
other true false e = refl
other false true e = refl
other false false e = absurd (never e)

-- a sign and a magnitude of z make its cut
pub sum_cut_made : (s : Scale) {z : ℤ} {a : Bool} {c : Cut} (n : ℕ) → z ≡ signed a n → c ≡ cut_of s.base s.digits n 1 → SumCut s z a c
sum_cut_made s {z} {a} n e f =
    let size : nat_abs z ≡ n = ap nat_abs e ∙ size_signed a n in
    record {
      sign = e ∙ ap (signed a) (sym size);
      size = f ∙ ap (λ (k : ℕ). cut_of s.base s.digits k 1) (sym size);
    }

-- ---- the numbers overlap: w is the power that brings x to the place of y
module _ {limit : ℕ} {s : Scale} (h : ScaledWithin limit s) {x y : Wide} (hx : Bounded s x) (hy : Bounded s y) (gap : ℕ) {w : ℕ}
    (at : x.place ≡ y.place + gap) (pw : w ≡ s.base ^ gap) where
  near_scaled : size_of s.base x ≡ x.significand * w * s.base ^ y.place
  near_scaled = rw (at, pow-add, pw) (omega arith)

  pub near_sum_cut : {a : Bool} {n : ℕ} {c : Cut} → Adds x.negative (x.significand * w) y.negative y.significand a n
      → c ≡ cut_of s.base s.digits (n * s.base ^ y.place) (s.base ^ 0)
      → SumCut s (value_of s.base x +ℤ value_of s.base y) a c
  near_sum_cut {n = n} add e =
      sum_cut_made s (n * s.base ^ y.place)
      (ap (λ (v : ℕ). signed x.negative v +ℤ value_of s.base y) near_scaled ∙ add.sum (s.base ^ y.place))
      (e ∙ ap (cut_of s.base s.digits (n * s.base ^ y.place)) (pow-zero s.base))

-- ---- the lower number in units of the higher place
-- q steps of w = base ^ j and a rest of w, where q has all its digits
pub unit_cut : {limit : ℕ} {s : Scale} → ScaledWithin limit s → {q r w : ℕ} (j place : ℕ) → w ≡ s.base ^ j → s.least ≤ q → q < s.bound → r < w
    → cut_of s.base s.digits ((q * w + r) * s.base ^ place) (s.base ^ 0) ≡ record { steps = q; place = place + j; location = located r w }
unit_cut {s} h {q} {r} {w} j place e l m k =
    let B : ℕ = s.base ^ place in
    let some : 1 ≤ B = pow_pos h.base_least place in
    let unit : s.base ^ (place + j) ≡ B * w = pow-add s.base place j ∙ ap (λ (v : ℕ). B * v) (sym e) in
    let power : s.base ^ (s.digits + (place + j)) ≡ s.bound * (B * w) = pow-add s.base s.digits (place + j) ∙ ap₂ ◌*◌ (sym h.bound_power) unit in
    let below : (q * w + r) * B < s.bound * w * B = mul-lt-mul_of_pos_right (omega (arith, mul-le-mul_right w m)) some in
    let above : s.base * (s.least * w * B) ≤ s.base * ((q * w + r) * B) =
    mul-le-mul_left s.base (mul-le-mul_right B (omega (arith, mul-le-mul_right w l))) in
    cut_is (positional h) (pow_pos h.base_least 0) q r w 1 B
    (record {
      below = rw (pow-zero, power) (omega (arith, below));
      normal = inr (rw (pow-zero, power) (omega (arith, above, ap (λ (v : ℕ). v * (w * B)) (least_bound h))));
    })
    (omega arith) some (omega arith) (rw (pow-zero, unit) (omega arith)) k

module _ {m v unit given taken rest : ℕ} {t : Bool} (u : InUnits m v unit t given taken rest) where
  -- so many units and the rest are the sum
  pub units_sum : {n : ℕ} {c : Bool} (a b : Bool) → not (Bool·beq a b) ≡ t → Sized a given taken rest unit c n → Adds a (m * unit) b v c n
  units_sum a b e (above l f g) = rw (f, g) (by (Bool·beq a b) refl)
    where
      by : (x : Bool) → Bool·beq a b ≡ x → Adds a (m * unit) b v a ((given - taken) * unit + rest)
      by true h =
          let k = u.more (sym e ∙ ap not h) in
          rw (k.1, sub-zero given, k.0) (adds_agree a b h (m * unit) v)
      by false h =
          let k = u.less (sym e ∙ ap not h) in
          let size : (given - taken) * unit + rest ≡ m * unit - v =
          omega (arith, sub_times given taken unit l, mul-le-mul_right unit l, ap (λ (i : ℕ). i * unit) k.1, k.0) in
          rw size (adds_differ a b h (m * unit) v (omega (arith, mul-le-mul_right unit l, ap (λ (i : ℕ). i * unit) k.1, k.0)))
  units_sum a b e (below l f g) = rw (f, g) (by (Bool·beq a b) refl)
    where
      within : given ≤ taken
      within = omega arith

      by : (x : Bool) → Bool·beq a b ≡ x → Adds a (m * unit) b v (not a) ((taken - given) * unit - rest)
      by true h = absurd (omega (arith, (u.more (sym e ∙ ap not h)).1, l))
      by false h =
          let k = u.less (sym e ∙ ap not h) in
          let next : (given + 1) * unit ≤ taken * unit = mul-le-mul_right unit (omega arith) in
          let size : (taken - given) * unit - rest ≡ v - m * unit =
          omega (arith, sub_times taken given unit within, mul-le-mul_right unit within, ap (λ (i : ℕ). i * unit) k.1, k.0) in
          rw (size, other a b h) (adds_exchanged a b h (m * unit) v (omega (arith, next, u.small, ap (λ (i : ℕ). i * unit) k.1, k.0)))

  -- they are few
  pub units_most : {bound : ℕ} → m < bound → v < bound → given < 2 * bound
  units_most {bound} h k = by t refl
    where
      by : (c : Bool) → t ≡ c → given < 2 * bound
      by true e = omega (arith, (u.less e).1)
      by false e =
          let some : 1 ≤ unit = omega (arith, u.small) in
          lt_of_mul-lt-mul_right unit {m = given} {n = 2 * bound}
          (omega (arith, (u.more e).0, mul-le-mul_right unit h, mul-le-mul_left bound some))

-- ---- digits cancel, or there are few
-- `least` units are `bound` at most one place apart, and `bound` of the place below further apart
module _ {limit : ℕ} {s : Scale} (h : ScaledWithin limit s) {unit gap : ℕ} (u : Unit s unit gap) where
  pub least_near : gap ≤ 1 → s.least * unit ≤ s.bound
  least_near l = omega (arith, mul-le-mul_left s.least (pow_mono h.base_least l), ap (λ (i : ℕ). s.least * i) u.is, ap (λ (i : ℕ). s.least * i) (power_one s.base), least_bound h)

  module _ (apart : 2 ≤ gap) where
    pub lower_power : unit / s.base ≡ s.base ^ (gap - 1)
    lower_power =
        let whole : unit ≡ s.base ^ (gap - 1) * s.base + 0 = u.is ∙ pow_pred s.base {k = gap} (omega arith) ∙ omega arith in
        ap (λ (i : ℕ). i / s.base) whole ∙ digits_div (s.base ^ (gap - 1)) (omega (arith, h.base_least))

    pub unit_lower : unit ≡ s.base * (unit / s.base)
    unit_lower = u.is ∙ pow_pred s.base {k = gap} (omega arith) ∙ ap (λ (i : ℕ). s.base * i) (sym lower_power)

    pub least_lower : s.least * unit ≡ s.bound * (unit / s.base)
    least_lower = omega (arith, ap (λ (i : ℕ). s.least * i) unit_lower, ap (λ (i : ℕ). i * (unit / s.base)) (least_bound h))

    pub lower_some : 2 ≤ unit / s.base
    lower_some = omega (arith, lower_power, pow_mono h.base_least {i = 1} {j = gap - 1} (omega arith), power_one s.base, h.base_least)

  -- y in units, added to x, where that gives too few digits
  module _ {x y : Wide} (hx : Bounded s x) (hy : Bounded s y) (at : x.place ≡ y.place + gap) {t : Bool} {r : UnitSum}
      (v : InUnits x.significand y.significand unit t r.given r.taken r.rest) (few : r.given < s.least + r.taken) where
    y_most : y.significand < s.bound
    y_most = omega (arith, hy.canonical.small, h.bound_power)

    within : (c : Bool) → t ≡ c → r.taken * unit < s.bound + r.rest
    within true e = omega (arith, (v.less e).0, y_most)
    within false e = omega (arith, ap (λ (i : ℕ). i * unit) (v.more e).1, y_most)

    enough : 2 ≤ gap → (c : Bool) → t ≡ c → (r.taken ≤ r.given) × (s.least * unit ≤ s.base * ((r.given - r.taken) * unit + r.rest))
    enough apart false e =
        let leads = mul-le-mul_right unit (normal_least h hx.canonical (omega (arith, at, apart))) in
        let next : (r.given + 1) * unit ≤ s.least * unit = mul-le-mul_right unit (omega (arith, few, (v.more e).1)) in
        absurd (omega (arith, leads, next, (v.more e).0, v.small))
    enough apart true e =
        let lower : ℕ = unit / s.base in
        let k = v.less e in
        let units : r.given * unit ≡ x.significand * unit = ap (λ (i : ℕ). i * unit) k.1 in
        let leads = mul-le-mul_right unit (normal_least h hx.canonical (omega (arith, at, apart))) in
        let two = lower_some apart in
        let some : s.bound ≤ s.bound * lower = omega (arith, mul-le-mul_left s.bound two) in
        let less : r.taken < r.given + 1 =
        lt_of_mul-lt-mul_right unit {m = r.taken} {n = r.given + 1} (omega (arith, k.0, v.small, y_most, some, least_lower apart, leads, units)) in
        let order : r.taken ≤ r.given = omega (arith, less) in
        let size : (r.given - r.taken) * unit + r.rest + y.significand ≡ x.significand * unit =
        omega (arith, sub_times r.given r.taken unit order, mul-le-mul_right unit order, units, k.0) in
        let room : lower + s.base ≤ s.base * lower = omega (arith, mul-le-mul_right lower h.base_least, mul-le-mul_left s.base two) in
        (order, omega (arith, ap (λ (i : ℕ). s.base * i) size, mul-le-mul_left s.base leads, mul-le-mul_left s.base y_most, ap (λ (i : ℕ). s.base * i) (least_lower apart), least_lower apart, mul-le-mul_left s.bound room))

    pub units_short : Short s r unit gap
    units_short = record { few = few; within = within t refl; small = v.small; enough = λ apart. enough apart t refl }

-- the magnitudes that the code works out from them
module _ {limit : ℕ} {s : Scale} (h : ScaledWithin limit s) {unit gap : ℕ} (u : Unit s unit gap) {r : UnitSum} (k : Short s r unit gap) where
  steps_few : r.taken ≤ r.given → (r.given - r.taken) * unit + r.rest < s.least * unit
  steps_few l =
      let next : (r.given - r.taken + 1) * unit ≤ s.least * unit = mul-le-mul_right unit (omega (arith, k.few)) in
      omega (arith, next, k.small)

  pub above_most : gap ≤ 1 → r.taken ≤ r.given → (r.given - r.taken) * unit + r.rest < s.bound
  above_most near l = omega (arith, steps_few l, least_near h u near)

  pub below_most : r.given < r.taken → ((r.taken - r.given) * unit < s.bound + r.rest) × (r.rest ≤ (r.taken - r.given) * unit)
  below_most l =
      let first : (r.taken - r.given) * unit ≤ r.taken * unit = mul-le-mul_right unit (omega arith) in
      let one : 1 * unit ≤ (r.taken - r.given) * unit = mul-le-mul_right unit (omega arith) in
      (omega (arith, first, k.within), omega (arith, one, k.small))

  pub sized_most : gap ≤ 1 → {a c : Bool} {n : ℕ} → Sized a r.given r.taken r.rest unit c n → n < s.bound
  sized_most near (above l f g) = omega (arith, g, above_most near l)
  sized_most near (below l f g) = omega (arith, g, (below_most l).0, bound_pos h)

  -- in units of the place below
  module _ (apart : 2 ≤ gap) where
    abbrev lower : ℕ
    lower = unit / s.base

    abbrev steps : ℕ
    steps = (r.given - r.taken) * s.base + r.rest / lower

    pub lower_value : steps * lower + r.rest % lower ≡ (r.given - r.taken) * unit + r.rest
    lower_value = omega (arith, ap (λ (i : ℕ). (r.given - r.taken) * i) (unit_lower h u apart), div-add-mod' r.rest lower)

    pub steps_most : steps < s.bound
    steps_most =
        lt_of_mul-lt-mul_right lower {m = steps} {n = s.bound} (omega (arith, lower_value, steps_few (k.enough apart).0, least_lower h u apart))

    pub steps_least : s.least ≤ steps
    steps_least =
        let rest : r.rest % lower < lower = mod-lt r.rest (omega (arith, lower_some h u apart)) in
        let least : s.base * (s.least * lower) ≤ s.base * (steps * lower + r.rest % lower) =
        omega (arith, (k.enough apart).1, ap (λ (i : ℕ). s.base * i) lower_value, ap (λ (i : ℕ). s.least * i) (unit_lower h u apart)) in
        let less : s.least < steps + 1 =
        lt_of_mul-lt-mul_right lower {m = s.least} {n = steps + 1} (omega (arith, rest, le_of_mul-le-mul_left {k = s.base} least (omega (arith, h.base_least)))) in
        omega (arith, less)

-- ---- from the cut to the result
module _ {limit : ℕ} {s : Scale} (h : ScaledWithin limit s) {x y : Wide} (hx : Bounded s x) (hy : Bounded s y) {negative : Bool} {c : Cut}
    (k : SumCut s (value_of s.base x +ℤ value_of s.base y) negative c) where
  -- what `finish` asks of it
  pub sum_finishes : ScaledWithin limit s × (c.steps < s.bound) × (c.place ≤ 2 ^ 30)
  sum_finishes =
      let n : ℕ = nat_abs (value_of s.base x +ℤ value_of s.base y) in
      finishes h n 1 (omega arith) k.size (2 ^ 28 + 1) (omega arith)
      (sum_size (positional h) x y hx.canonical hy.canonical (2 ^ 28) (omega (arith, hx.place_most)) (omega (arith, hy.place_most)))

pub sum_rounds : {s : Scale} {d : Direction} (z : ℤ) {negative : Bool} {c : Cut} {r : Rounding} → SumCut s z negative c
    → ((N D : ℕ) → 1 ≤ D → c ≡ cut_of s.base s.digits N D → Rounds s.base s.digits d negative N D r) → RoundsZ s.base s.digits d z r
sum_rounds {s} {d} z {negative} {c} {r} k finished =
    let h = finished (nat_abs z) 1 (omega arith) k.size in
    record {
      sign = rw h.sign k.sign;
      rounds = subst (λ (a : Bool). Rounds s.base s.digits d a (nat_abs z) 1 r) (sym h.sign) h;
    }
