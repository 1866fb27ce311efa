-- Significands that are brought to all their digits, their cuts, and values that share a factor.
use Rattle.theory.proofs.Prelude.{ℕ, ◌≤◌, ◌<◌, ◌+◌, ◌^◌, ◌*◌, ◌-◌, ◌%◌, ◌/◌, false, ⊎_elim, inl, inr, ◌⊎◌, ◌∙◌, ap, ap₂, ◌≡◌, sym, refl, lt_of_not-le, ltb, ltb-false, mul-le-mul_right, mul-le-mul_left, pow-zero, mul-one, mul-pos, mul-lt-mul_of_pos_right, div-add-mod', mod-lt, le_of_mul-le-mul_left, arith}
use mathlib.Core.Bool.{◌||◌}
use Rattle.std.specs.Prelude.{min}
use Rattle.std.proofs.lemmas.Bool.{cases_lt}
use native.Mathlib.Nat.{mul-div-mul_right, mul_right_comm}
use lib.Arith.{digits_mod}
use Rattle.theory.proofs.Tests.{neither}
use Rattle.theory.proofs.Place.{step_pos}
use Rattle.rounding.proofs.Prelude.{Positional, Canonical, step, pow-add, pow_pos, pow_mono, Scale, ScaledWithin, Location, Exact, cut_of, Digits, located, located_exact, located_scaled, cut_is, positional, power_at, count_le, least_bound, extend_small}
use Rattle.rounding.specs.Digits.{Leading, Extended, Shifted}

-- a factor that numerator and denominator share changes nothing
pub cut_common : {β p : ℕ} → Positional β p → (N D t : ℕ) → 1 ≤ D → 1 ≤ t → cut_of β p (N * t) (D * t) ≡ cut_of β p N D
unfolding cut_of
cut_common {β} {p} ok N D t h_d ht =
    let size : ℕ = D * step β p (N / D) in
    let rest : N * t % (size * t) ≡ N % size * t =
    ap (λ (n : ℕ). n % (size * t)) (omega (arith, ap (λ (n : ℕ). n * t) (div-add-mod' N size)))
    ∙ digits_mod (N / size) (mul-lt-mul_of_pos_right (mod-lt N (mul-pos h_d (step_pos ok (N / D)))) ht) in
    rw (mul-div-mul_right N D ht, mul_right_comm D t (step β p (N / D)), mul-div-mul_right N size ht, rest, located_scaled (N % size * t) (size * t) (N % size) size 1 t (omega arith) ht (omega arith) (omega arith))

-- a value is m steps and a rest, where m at k is in canonical form
pub canonical_cut : {β p m k : ℕ} → Positional β p → Canonical β p m k → (r : ℕ) → r < β ^ k
    → cut_of β p (m * β ^ k + r) 1 ≡ record { steps = m; place = k; location = located r (β ^ k) }
canonical_cut {β} {p} {m} {k} ok c r l =
    cut_is ok (omega arith) m r (β ^ k) 1 1
    (record {
      below = rw pow-add (omega (arith, mul-le-mul_right (β ^ k) c.small));
      normal = ⊎_elim inl (λ (f : β ^ p ≤ β * m). inr (rw pow-add (omega (arith, mul-le-mul_right (β ^ k) f)))) c.normal;
    })
    (omega arith) (omega arith) (omega arith) (omega arith) l

module _ {limit : ℕ} {s : Scale} (h : ScaledWithin limit s) where
  pub least_pos : 1 ≤ s.least
  least_pos = omega (arith, h.least_power, pow_pos h.base_least (s.digits - 1))

  pub leading_pos : {a : ℕ} → Leading s a → 1 ≤ a
  leading_pos l = omega (arith, least_pos, l.least)

  -- a significand with all its digits leads with a digit that is not 0
  pub leads : {a : ℕ} → Leading s a → s.bound ≤ s.base * a
  leads l = omega (arith, least_bound h, mul-le-mul_left s.base l.least)

  -- and so does one at a place above the lowest
  pub normal_least : {m k : ℕ} → Canonical s.base s.digits m k → 1 ≤ k → s.least ≤ m
  normal_least c l =
      ⊎_elim (λ z. absurd (omega (arith, l, z)))
      (λ f. le_of_mul-le-mul_left {k = s.base} (omega (arith, f, least_bound h, h.bound_power)) (omega (arith, h.base_least))) c.normal

  pub digits_fit : {m c : ℕ} → Digits s.base m c → m < s.bound → c ≤ s.digits
  digits_fit {m} {c} d small = count_le h.base_least c s.digits d.above (omega (arith, h.bound_power))

  -- m has c digits, and the shift is `most` or what m lacks, whichever is less
  pub extended : {m c : ℕ} → Digits s.base m c → m < s.bound → {shift most w : ℕ} → shift ≡ min (s.digits - c) most → w ≡ s.base ^ shift
      → Extended s m most (m * w) shift
  extended {m} {c} d small {shift} {most} least is =
      let room : c ≤ s.digits = digits_fit d small in
      let fits : c + shift ≤ s.digits = omega (arith, room, least) in
      let split : s.base ^ (c + shift) ≡ s.base ^ c * s.base ^ shift = pow-add s.base c shift in
      let all : c + shift ≡ s.digits → s.least ≤ m * s.base ^ shift = λ f.
      le_of_mul-le-mul_left {k = s.base} (omega (arith, least_bound h, h.bound_power, power_at s.base f, split, mul-le-mul_right (s.base ^ shift) d.above)) (omega (arith, h.base_least)) in
      let which : (shift ≡ most) ⊎ (c + shift ≡ s.digits) = ⊎_elim (λ (l : most < s.digits - c). inl (omega (arith, l, least))) (λ (l : s.digits - c ≤ most). inr (omega (arith, l, least, room))) (cases_lt most (s.digits - c)) in
      rw is
      (record {
        is = refl;
        within = omega (arith, least);
        small = omega (arith, extend_small (positional h) d shift fits, h.bound_power);
        full = ⊎_elim inl (λ f. inr (all f)) which;
      })

  -- a number above 0 never takes as many as the format has
  pub extended_shifted : {m a shift : ℕ} → 1 ≤ m → Extended s m s.digits a shift → Shifted s m a shift
  extended_shifted {m} {a} {shift} some t =
      let few : shift < s.digits = lt_of_not-le (λ (l : s.digits ≤ shift). omega (arith, t.is, t.small, h.bound_power, pow_mono h.base_least l, mul-le-mul_right (s.base ^ shift) some)) in
      record { is = t.is; leading = record { least = ⊎_elim (λ e. absurd (omega (arith, few, e))) (λ l. l) t.full; most = t.small }; shift_most = few }

  -- n at a place is what it is extended to, at a lower one
  pub extended_cut : {n a shift : ℕ} (place : ℕ) → Extended s n place a shift
      → cut_of s.base s.digits (n * s.base ^ place) (s.base ^ 0) ≡ record { steps = a; place = place - shift; location = Exact }
  extended_cut {n} {a} {shift} place t =
      let k : ℕ = place - shift in
      let split : s.base ^ place ≡ s.base ^ shift * s.base ^ k = power_at s.base (omega (arith, t.within)) ∙ pow-add s.base shift k in
      let value : n * s.base ^ place ≡ a * s.base ^ k + 0 = omega (arith, ap (λ (v : ℕ). n * v) split, ap (λ (v : ℕ). v * s.base ^ k) t.is) in
      let form : Canonical s.base s.digits a k =
      record { small = omega (arith, t.small, h.bound_power); normal = ⊎_elim (λ e. inl (omega (arith, e))) (λ l. inr (omega (arith, least_bound h, h.bound_power, mul-le-mul_left s.base l))) t.full } in
      ap₂ (cut_of s.base s.digits) value (pow-zero s.base) ∙ canonical_cut (positional h) form 0 (pow_pos h.base_least k)
      ∙ ap (λ (l : Location). record { steps = a; place = k; location = l }) (located_exact 0 (s.base ^ k) refl)

-- a significand that is not below the least normal one lacks no digit
pub shifted_none : {limit : ℕ} {s : Scale} → ScaledWithin limit s → {m : ℕ} → s.least ≤ m → m < s.bound → Shifted s m m 0
shifted_none h {m} l k = record { is = sym (rw pow-zero (mul-one m)); leading = record { least = l; most = k }; shift_most = h.digits_least }

pub shifted_at : {s : Scale} {m a a' shift : ℕ} → a ≡ a' → Shifted s m a' shift → Shifted s m a shift
shifted_at e h = rw e h

-- neither of two significands lacks a digit
pub neither_lacks : (m n least : ℕ) → ltb m least || ltb n least ≡ false → (least ≤ m) × (least ≤ n)
neither_lacks m n least e = let t = neither (ltb m least) (ltb n least) e in (ltb-false m least t.0, ltb-false n least t.1)
