-- The quotient's exact value and its cut.
use Rattle.theory.proofs.Prelude.{ℕ, ◌≤◌, ◌<◌, ◌+◌, ◌^◌, ◌*◌, ◌-◌, ◌%◌, ◌/◌, ⊎_elim, inl, inr, ◌⊎◌, ◌≢◌, ◌∙◌, ap, ◌≡◌, sym, ap₂, subst, dec_le, ℕ_discrete, mul-le-mul_right, mul-le-mul_left, pow-zero, mul-pos, mul-lt-mul_of_pos_right, lt_of_mul-lt-mul_right, div-add-mod', mod-lt, le_of_mul-le-mul_left, le-div_iff_mul-le, le-ltb, eq-eqb, ne_eqb, arith}
use Rattle.rounding.proofs.Prelude.{pow-add, pow_pos, pow_mono, pow_half, Scale, ScaledWithin, Below, cut_of, dropped, Location, dropped_made, located, located_below, positional, power_at, least_bound, power_one}
use Rattle.rounding.proofs.Places.{Placed, cut_is}
use Rattle.theory.specs.Units.{zeros}
use Rattle.theory.specs.QuotientDigits.{digits_taken, lacking, brought}
use Rattle.theory.proofs.QuotientDigits.{Leads, Reach, leads_below, lacking_is, quotient_some, zeros_within, taken_is, reach_rest, reach_exact}
use Rattle.rounding.proofs.Normals.{cut_common, least_pos, leading_pos, leads}
use Rattle.rounding.specs.Digits.{Leading, Shifted}
use Rattle.wide.specs.Quotient.{CutShifted, digits_from, digits_of, digits_worked}

module _ {limit : ℕ} {s : Scale} (h : ScaledWithin limit s) where
  -- i digits more bring a to p digits before the point of a / b
  pub record Kept (a b i : ℕ) : Type 0 where
    pub below : a * s.base ^ i < b * s.bound
    pub above : b * s.bound ≤ s.base * (a * s.base ^ i)

  module _ {a b : ℕ} (la : Leading s a) (lb : Leading s b) where
    pub kept_less : b ≤ a → Kept a b (s.digits - 1)
    kept_less l =
        let unit : a * s.base ^ (s.digits - 1) ≡ a * s.least = ap (λ (v : ℕ). a * v) (sym h.least_power) in
        let a_below : a < s.base * b = omega (arith, la.most, leads h lb) in
        record {
          below = omega (arith, unit, ap (λ (v : ℕ). b * v) (least_bound h), mul-lt-mul_of_pos_right a_below (least_pos h));
          above = omega (arith, ap (λ (v : ℕ). s.base * v) unit, ap (λ (v : ℕ). a * v) (least_bound h), mul-le-mul_right s.bound l);
        }

    pub kept_more : a < b → Kept a b s.digits
    kept_more l =
        let unit : a * s.base ^ s.digits ≡ a * s.bound = ap (λ (v : ℕ). a * v) (sym h.bound_power) in
        let b_most : b ≤ s.base * a = omega (arith, lb.most, leads h la) in
        record {
          below = omega (arith, unit, mul-lt-mul_of_pos_right {k = s.bound} l (omega (arith, la.most)));
          above = omega (arith, ap (λ (v : ℕ). s.base * v) unit, mul-le-mul_right s.bound b_most);
        }

    base_times : b * s.base ^ 1 ≡ b * s.base
    base_times = ap (λ (v : ℕ). b * v) (power_one s.base)

    under_most : (e : ℕ) → 1 ≤ e → a < b * s.base ^ e
    under_most e l =
        omega (arith, la.most, leads h lb, base_times, mul-le-mul_left b (pow_mono h.base_least {i = 1} {j = e} l))

    -- two powers less: below half
    pub under_below : (e : ℕ) → 2 ≤ e → located a (b * s.base ^ e) ≡ Below
    under_below e l = located_below a (b * s.base ^ e) (λ z. omega (arith, least_pos h, la.least)) (omega (arith, la.most, leads h lb, base_times, mul-le-mul_left b (pow_half h.base_least {i = 1} {j = e} l)))

    module _ (i : ℕ) (kept : Kept a b i) (high low : ℕ) where
      quotient_placed : (k : ℕ) → high - (low + i) ≡ k → Placed s.base s.digits (a * s.base ^ high) (b * s.base ^ low) k
      quotient_placed k e =
          record { below = lt_of_mul-lt-mul_right (β ^ i) (omega (arith, under, reach, split)); normal = by (dec_le (low + i) high) }
        where
          β : ℕ
          β = s.base

          split : β ^ (s.digits + k) * (b * β ^ low) * β ^ i ≡ b * s.bound * β ^ (low + i + k)
          split = rw (pow-add β s.digits k, pow-add β (low + i) k, pow-add β low i, h.bound_power) (omega arith)

          under : a * β ^ i * β ^ high < b * s.bound * β ^ high
          under = mul-lt-mul_of_pos_right kept.below (pow_pos h.base_least high)

          reach : b * s.bound * β ^ high ≤ b * s.bound * β ^ (low + i + k)
          reach = mul-le-mul_left (b * s.bound) (pow_mono h.base_least (omega arith))

          by : Dec (low + i ≤ high) → (k ≡ 0) ⊎ (β ^ (s.digits + k) * (b * β ^ low) ≤ β * (a * β ^ high))
          by (no l) = inl (omega arith)
          by (yes l) =
              let unit : β ^ high ≡ β ^ i * β ^ (low + k) = ap (λ (j : ℕ). β ^ j) (omega arith) ∙ pow-add β i (low + k) in
              let front : β ^ (s.digits + k) * (b * β ^ low) ≡ b * s.bound * β ^ (low + k) =
              rw (pow-add β s.digits k, pow-add β low k, h.bound_power) (omega arith) in
              inr (omega (arith, front, ap (λ (v : ℕ). β * (a * v)) unit, mul-le-mul_right (β ^ (low + k)) kept.above))

      -- j digits more, at place k
      pub quotient_drop : (j k : ℕ) → high - (low + i) ≡ k → j + (low + k) ≡ high
          → cut_of s.base s.digits (a * s.base ^ high) (b * s.base ^ low) ≡ dropped (a * s.base ^ j) b k
      unfolding dropped
      quotient_drop j k e f =
          let n : ℕ = a * s.base ^ j in
          let unit : s.base ^ high ≡ s.base ^ j * s.base ^ (low + k) = power_at s.base (sym f) ∙ pow-add s.base j (low + k) in
          let b_pos : 1 ≤ b = leading_pos h lb in
          cut_is (positional h) (mul-pos b_pos (pow_pos h.base_least low)) (n / b) (n % b) b 1 (s.base ^ (low + k))
          (quotient_placed k e) (omega arith) (pow_pos h.base_least (low + k))
          (omega (arith, ap (λ (v : ℕ). a * v) unit, ap (λ (v : ℕ). v * s.base ^ (low + k)) (div-add-mod' n b)))
          (rw (pow-add s.base low k) (omega arith)) (mod-lt n b_pos)

      -- no whole step: a in b * β ^ e
      pub quotient_under : (e : ℕ) → 1 ≤ e → high + e ≡ low
          → cut_of s.base s.digits (a * s.base ^ high) (b * s.base ^ low) ≡ record { steps = 0; place = 0; location = located a (b * s.base ^ e) }
      quotient_under e l f =
          let unit : s.base ^ low ≡ s.base ^ high * s.base ^ e = power_at s.base (sym f) ∙ pow-add s.base high e in
          let b_pos : 1 ≤ b = leading_pos h lb in
          cut_is (positional h) (mul-pos b_pos (pow_pos h.base_least low)) 0 a (b * s.base ^ e) 1 (s.base ^ high)
          (quotient_placed 0 (omega arith)) (omega arith) (pow_pos h.base_least high) (omega arith)
          (rw (pow-zero, unit) (omega arith)) (under_most e l)

-- the shifts go to the other side
pub quotient_exact : {limit : ℕ} {s : Scale} → ScaledWithin limit s → {m n a b i j : ℕ} (up down : ℕ) → Shifted s m a i → Shifted s n b j → 1 ≤ n
    → cut_of s.base s.digits (a * s.base ^ (up + j)) (b * s.base ^ (down + i)) ≡ cut_of s.base s.digits (m * s.base ^ up) (n * s.base ^ down)
quotient_exact {s} h {m} {n} {a} {b} {i} {j} up down sa sb some =
    ap₂ (cut_of β s.digits) numerator denominator
    ∙ cut_common (positional h) (m * β ^ up) (n * β ^ down) (β ^ (i + j)) (mul-pos some (pow_pos h.base_least down)) (pow_pos h.base_least (i + j))
  where
    β : ℕ
    β = s.base

    numerator : a * β ^ (up + j) ≡ m * β ^ up * β ^ (i + j)
    numerator = rw (sa.is, pow-add β up j, pow-add β i j) (omega arith)

    denominator : b * β ^ (down + i) ≡ n * β ^ down * β ^ (i + j)
    denominator = rw (sb.is, pow-add β down i, pow-add β i j) (omega arith)

-- ---- the digits that are worked out
module _ {limit : ℕ} {s : Scale} (h : ScaledWithin limit s) where
  pub leading_leads : {a : ℕ} → Leading s a → Leads s.base s.digits a
  leading_leads l = record { least = omega (arith, h.least_power, l.least); most = omega (arith, h.bound_power, l.most) }

  -- the shift is what the significand lacks
  pub shifted_lacking : {m a shift : ℕ} → 1 ≤ m → Shifted s m a shift → (shift ≡ lacking s.base s.digits m) × (a ≡ brought s.base s.digits m)
  unfolding brought
  shifted_lacking {m} {a} {shift} some t =
      let e : shift ≡ lacking s.base s.digits m =
      lacking_is (positional h) some shift t.shift_most (subst (Leads s.base s.digits) t.is (leading_leads t.leading)) in
      (e, t.is ∙ ap (λ (i : ℕ). m * s.base ^ i) e)

  module _ {a b : ℕ} (la : Leading s a) (lb : Leading s b) where
    below_base : a < s.base * b
    below_base = leads_below (positional h) (leading_leads la) (leading_leads lb)

    -- where nothing remains, there is a quotient, and its zeros are not more than the digits behind the first
    pub quotient_ends : (after : ℕ) {n q r : ℕ} → n ≡ a * s.base ^ after → q ≡ n / b → r ≡ n % b → r ≡ 0 → (1 ≤ q) × (zeros s.base q ≤ after)
    quotient_ends after {n} e f g z =
        let none : a * s.base ^ after % b ≡ 0 = ap (λ (x : ℕ). x % b) (sym e) ∙ sym g ∙ z in
        rw (f, e) (quotient_some (positional h) (leading_pos h lb) a after (leading_pos h la) none, zeros_within (positional h) (leading_pos h lb) after below_base (leading_pos h la) none)

    -- the digits that the code has are those of the definition
    pub digits_are : (high low after : ℕ) → low ≤ high → Reach s.base s.digits a b (high - low) after
        → digits_worked s.base (a * s.base ^ after / b) (a * s.base ^ after % b) after ≡ digits_from s.base s.digits a b high low
    digits_are high low after l reach = rw (le-ltb high low l) (by (ℕ_discrete (a * s.base ^ after % b) 0))
      where
        q : ℕ
        q = a * s.base ^ after / b

        r : ℕ
        r = a * s.base ^ after % b

        by : Dec (r ≡ 0) → digits_worked s.base q r after ≡ digits_taken s.base s.digits b a 0 (high - low)
        by (yes z) =
            let zs = zeros_within (positional h) (leading_pos h lb) after below_base (leading_pos h la) z in
            rw (eq-eqb r 0 z) (omega (arith, taken_is (positional h) (leading_pos h lb) below_base (high - low) (reach_exact (positional h) (leading_pos h lb) below_base (high - low) reach (leading_pos h la) z)))
        by (no n) = rw (ne_eqb r 0 n) (omega (arith, taken_is (positional h) (leading_pos h lb) below_base (high - low) (reach_rest (positional h) (leading_pos h lb) below_base (high - low) reach n)))

    -- all the digits that the format keeps, or all down to the lowest place
    pub kept_reach : {i after place : ℕ} → Kept h a b i → after ≤ i → (after ≡ place) ⊎ (after ≡ i) → after ≤ place
        → Reach s.base s.digits a b place after
    kept_reach {i} k m e w =
        record {
          within = w;
          below = omega (arith, k.below, ap (λ (x : ℕ). b * x) h.bound_power, mul-le-mul_left a (pow_mono h.base_least m));
          stop = ⊎_elim inl (λ g. inr (rw g stand)) e;
        }
      where
        stand : s.base ^ (s.digits - 1) ≤ a * s.base ^ i / b
        stand =
            (le-div_iff_mul-le (leading_pos h lb)).1
            (le_of_mul-le-mul_left {k = s.base} (omega (arith, k.above, ap (λ (x : ℕ). b * x) (least_bound h), ap (λ (x : ℕ). s.base * (b * x)) h.least_power)) (omega (arith, h.base_least)))

-- as the code has them from one division: the zeros at the end, where nothing remains, or all
pub worked_exact : (β q after : ℕ) {r z : ℕ} → r ≡ 0 → z ≡ zeros β q → after + 1 - z ≡ digits_worked β q r after
worked_exact β q after {r = r} e f = rw (eq-eqb r 0 e, f)

pub worked_rest : (β q after : ℕ) {r : ℕ} → r ≢ 0 → after + 1 ≡ digits_worked β q r after
worked_rest β q after {r = r} n = rw (ne_eqb r 0 n) (omega arith)

pub cut_shifted : {β a b n q r place digits : ℕ} {location : Location} (after : ℕ) → n ≡ a * β ^ after → q ≡ n / b → location ≡ located r b → r ≡ n % b
    → digits ≡ digits_worked β q r after → CutShifted β a b after place (record { steps = q; place = place; location = location }) digits
cut_shifted {β} {a} {b} {n} {q} {r} after e f k g d =
    record { is = dropped_made (a * β ^ after) b (rw e at f) (k ∙ ap (λ (x : ℕ). located x b) (rw e at g)); count = rw (← e, ← f, ← g) d }

-- both significands as they were brought to all their digits
pub digits_of_law : {limit : ℕ} {s : Scale} → ScaledWithin limit s → {m n a b i j : ℕ} (up down : ℕ) → 1 ≤ m → 1 ≤ n → Shifted s m a i → Shifted s n b j
    → digits_from s.base s.digits a b (up + j) (down + i) ≡ digits_of s.base s.digits m n up down
digits_of_law {s} h {m} up down some some' sa sb =
    let la = shifted_lacking h some sa in
    let lb = shifted_lacking h some' sb in
    rw (ne_eqb m 0 (λ e. omega arith), la.0, la.1, lb.0, lb.1)
