-- Numbers and their exact values: a number of the format is the canonical number of its value, and the canonical number of a
-- magnitude of the wide format up to the greatest is in the format and has that value.
use Rattle.theory.proofs.Prelude.{ℕ, ◌≤◌, ◌<◌, ◌+◌, ◌^◌, ◌*◌, ◌-◌, suc, zero, ◌/◌, true, false, Bool, ⊎_elim, inl, inr, ◌⊎◌, ◌∙◌, ap, ◌≡◌, sym, refl, ap₂, subst, ℕ_discrete, pow-zero, mul-pos, mul-lt-mul_of_pos_right, mul-le-mul, mul-div_cancel, le_refl, arith, leb, ℤ, pos, ◌+ℤ◌, nat_abs, ◌-ℤ◌, leb-true, leb-false}
use native.Mathlib.Nat.{mul-lt-mul_of_pos_left}
use Rattle.theory.proofs.Words.{place, step, Wide, Canonical, signed}
use Rattle.theory.proofs.Integers.{above, below, neg_above, sum_parts, diff_parts, size_parts, parts_eq, size_signed}
use Rattle.theory.proofs.Powers.{pow-add, pow_pos, pow_pred, pow_mono, pow_half}
use Rattle.theory.proofs.Place.{place_le}
use Rattle.theory.proofs.Wide.{wide_pow}
use Rattle.theory.proofs.Canonical.{canonical_place, canonical_wide, canonical_of, canonical_value}
use Rattle.format.specs.declared.Format.{Format}
use Rattle.format.specs.Formats.{exponents_admitted, highest_place}
use Rattle.format.proofs.Signed.{Upto, apart}
use Rattle.format.proofs.Formats.{Admitted, positional, exponents_made, distances}
use Rattle.number.specs.declared.Number.{Number}
use Rattle.number.specs.Numbers.{place_of, magnitude, value, greatest, number, delivered}
use Rattle.number.specs.Signs.{with_sign}
use Rattle.number.proofs.Membership.{Member}

-- ---- exponents and places
-- emin + (e - emin) is e
pub place_back : (emin e : ℤ) → Upto emin e → emin +ℤ pos (nat_abs (e -ℤ emin)) ≡ e
place_back emin e h =
    let d = diff_parts e emin in
    let n = size_parts (e -ℤ emin) in
    let s = sum_parts emin (pos (nat_abs (e -ℤ emin))) in
    parts_eq (emin +ℤ pos (nat_abs (e -ℤ emin))) e (omega (arith, apart (e -ℤ emin)))

-- (emin + k) - emin is k
pub place_there : (emin : ℤ) (k : ℕ) → nat_abs ((emin +ℤ pos k) -ℤ emin) ≡ k
place_there emin k =
    let z = (emin +ℤ pos k) -ℤ emin in
    let s = sum_parts emin (pos k) in
    let d = diff_parts (emin +ℤ pos k) emin in
    omega (arith, size_parts z, apart z)

-- a place up to the highest is an exponent of the format
pub place_within : {f : Format} → Admitted f → (k : ℕ) → k ≤ highest_place f → Upto f.emin (f.emin +ℤ pos k) × Upto (f.emin +ℤ pos k) f.emax
place_within {f} a k h =
    let s = sum_parts f.emin (pos k) in
    let d = distances a.range in
    let n = size_parts (f.emax -ℤ f.emin) in
    (omega arith, omega arith)

-- emin by itself
pub emin_admitted : {f : Format} → Admitted f → exponents_admitted f.emin f.emin ≡ true
emin_admitted a =
    let r = a.range in
    exponents_made (record { emin_low = r.emin_low; emin_emax = omega arith; emax_high = omega arith })

pub highest_most : {f : Format} → Admitted f → highest_place f ≤ 2400
highest_most {f} a = let d = distances a.range in omega (arith, size_parts (f.emax -ℤ f.emin))

-- ---- records
pub same_number : {s t : Bool} {m n : ℕ} {d e : ℤ} → s ≡ t → m ≡ n → d ≡ e
    → ◌≡◌ {A = Number} (record { negative = s; significand = m; exponent = d }) (record { negative = t; significand = n; exponent = e })
same_number p q r = rw (p, q, r)

-- a significand at a place, with a sign
abbrev pub written : Format → (negative : Bool) (m k : ℕ) → Number
written f negative m k = record { negative = negative; significand = m; exponent = f.emin +ℤ pos k }

-- two signs of one value, zero apart
same_sign : (s t : Bool) (m n : ℕ) → signed s m ≡ signed t n → (m ≡ 0 → s ≡ t) → s ≡ t
same_sign s t zero n e z = z refl
same_sign true true (suc m) n e z = refl
same_sign false false (suc m) n e z = refl
same_sign true false (suc m) n e z = absurd (omega (arith, ap below e))
same_sign false true (suc m) n e z = absurd (omega (arith, ap above e, neg_above (pos n)))

-- the number depends on the value alone, but for the sign of zero
pub number_same : (f : Format) (s t : Bool) (m n : ℕ) → signed s m ≡ signed t n → (m ≡ 0 → s ≡ t) → number f s m ≡ number f t n
number_same f s t m n e z = ap₂ (number f) (same_sign s t m n e z) (sym (size_signed s m) ∙ ap nat_abs e ∙ size_signed t n)

-- and so does what is delivered
pub delivered_same : (f : Format) (s t : Bool) (m n : ℕ) → signed s m ≡ signed t n → (m ≡ 0 → s ≡ t) → delivered f s m ≡ delivered f t n
delivered_same f s t m n e z = ap₂ (delivered f) (same_sign s t m n e z) (sym (size_signed s m) ∙ ap nat_abs e ∙ size_signed t n)

module _ {f : Format} (a : Admitted f) where
  greatest_below : greatest f < f.base ^ (f.digits + highest_place f)
  unfolding greatest
  greatest_below =
      rw pow-add
      (mul-lt-mul_of_pos_right (omega (arith, pow_pos a.base_low f.digits)) (pow_pos a.base_low (highest_place f)))

  -- ---- a significand at a place, as it is written
  module _ {m k : ℕ} (c : Canonical f.base f.digits m k) where
    pub number_canonical : (negative : Bool) → number f negative (m * f.base ^ k) ≡ written f negative m k
    unfolding number step
    number_canonical negative =
        same_number refl
        (ap (λ (i : ℕ). m * f.base ^ k / f.base ^ i) (canonical_place (positional a) c) ∙ mul-div_cancel m (pow_pos a.base_low k))
        (ap (λ (i : ℕ). f.emin +ℤ pos i) (canonical_place (positional a) c))

    -- it is at most the greatest number exactly when its place is at most the highest
    pub canonical_within : k ≤ highest_place f → m * f.base ^ k ≤ greatest f
    unfolding greatest
    canonical_within h = mul-le-mul (omega (arith, c.small)) (pow_mono a.base_low h)

    pub canonical_beyond : highest_place f < k → greatest f < m * f.base ^ k
    canonical_beyond h = ⊎_elim (λ e. absurd (omega arith)) (λ least. beyond least) c.normal
      where
        beyond : f.base ^ f.digits ≤ f.base * m → greatest f < m * f.base ^ k
        beyond least =
            let one : f.base ^ f.digits * f.base ^ highest_place f ≤ f.base * m * f.base ^ (k - 1) = mul-le-mul least (pow_mono a.base_low (omega arith)) in
            omega (arith, greatest_below, pow-add f.base f.digits (highest_place f), ap (λ (q : ℕ). m * q) (pow_pred f.base {k = k} (omega arith)))

  -- ---- a number of the format
  module _ {x : Number} (i : Member f x) where
    pub member_canonical : Canonical f.base f.digits x.significand (place_of f x)
    member_canonical = record { small = i.significand_high; normal = by (leb (f.base ^ (f.digits - 1)) x.significand) refl }
      where
        by : (t : Bool) → leb (f.base ^ (f.digits - 1)) x.significand ≡ t → (place_of f x ≡ 0) ⊎ (f.base ^ f.digits ≤ f.base * x.significand)
        by true l =
            let h = leb-true _ _ l in
            inr (rw (pow_pred f.base a.digits_low) (mul-le-mul (omega arith) h))
        by false l =
            let h = i.small_place (leb-false _ _ l) in
            inl (omega (arith, size_parts (x.exponent -ℤ f.emin), diff_parts x.exponent f.emin, apart (x.exponent -ℤ f.emin), i.exponent_low))

    pub member_exponents : exponents_admitted f.emin x.exponent ≡ true
    member_exponents =
        let r = a.range in
        exponents_made (record { emin_low = r.emin_low; emin_emax = i.exponent_low; emax_high = omega (arith, i.exponent_high) })

    pub member_wide : Wide f.base f.digits (magnitude f x)
    unfolding magnitude
    member_wide = canonical_wide (positional a) member_canonical

    pub member_highest : place_of f x ≤ highest_place f
    member_highest =
        let d = diff_parts x.exponent f.emin in
        let g = diff_parts f.emax f.emin in
        omega (arith, size_parts (x.exponent -ℤ f.emin), size_parts (f.emax -ℤ f.emin), apart (x.exponent -ℤ f.emin), i.exponent_low, i.exponent_high)

    pub member_greatest : magnitude f x ≤ greatest f
    unfolding magnitude greatest
    member_greatest = mul-le-mul (omega (arith, i.significand_high)) (pow_mono a.base_low member_highest)

    -- it is the canonical number of its value
    pub number_of : (negative : Bool) → number f negative (magnitude f x) ≡ with_sign x negative
    unfolding magnitude
    number_of negative =
        number_canonical member_canonical negative ∙ same_number refl refl (place_back f.emin x.exponent i.exponent_low)

  -- ---- the canonical number of a magnitude of the wide format
  pub place_highest : {n : ℕ} → n ≤ greatest f → place f.base f.digits n ≤ highest_place f
  place_highest h = place_le (positional a) (omega (arith, greatest_below))

  module _ {n : ℕ} (w : Wide f.base f.digits n) (negative : Bool) where
    pub number_magnitude : magnitude f (number f negative n) ≡ n
    unfolding magnitude number step
    number_magnitude =
        ap (λ (k : ℕ). n / f.base ^ place f.base f.digits n * f.base ^ k) (place_there f.emin (place f.base f.digits n))
        ∙ canonical_value (positional a) w

    -- it has that value
    pub number_value : value f (number f negative n) ≡ signed negative n
    unfolding value number
    number_value = ap (signed negative) number_magnitude

    -- and is in the format, up to the greatest number
    pub number_member : n ≤ greatest f → Member f (number f negative n)
    unfolding number
    number_member h =
        let c = canonical_of (positional a) n in
        let within = place_within a (place f.base f.digits n) (place_highest h) in
        record {
          significand_high = c.small;
          exponent_low = within.0;
          exponent_high = within.1;
          small_place = λ s. at_least c.normal s;
        }
      where
        at_least : (place f.base f.digits n ≡ 0) ⊎ (f.base ^ f.digits ≤ f.base * (n / step f.base f.digits n))
            → n / step f.base f.digits n < f.base ^ (f.digits - 1) → Upto (f.emin +ℤ pos (place f.base f.digits n)) f.emin
        at_least (inl e) s = omega (arith, sum_parts f.emin (pos (place f.base f.digits n)))
        at_least (inr l) s =
            absurd (omega (arith, pow_pred f.base a.digits_low, mul-lt-mul_of_pos_left {k = f.base} s (omega (arith, a.base_low))))

  -- two numbers of the format with one value are the same record, or both zeros
  pub member_unique : {x y : Number} → Member f x → Member f y → value f x ≡ value f y → (magnitude f x ≡ 0 → x.negative ≡ y.negative) → x ≡ y
  unfolding value
  member_unique {x} {y} i j e z =
      sym (number_of i x.negative) ∙ number_same f x.negative y.negative (magnitude f x) (magnitude f y) e z ∙ number_of j y.negative

  pub member_zeros : {x y : Number} → Member f x → Member f y → value f x ≡ value f y → (x ≡ y) ⊎ ((magnitude f x ≡ 0) × (magnitude f y ≡ 0))
  unfolding value
  member_zeros {x} {y} i j e = by (ℕ_discrete (magnitude f x) 0)
    where
      by : Dec (magnitude f x ≡ 0) → (x ≡ y) ⊎ ((magnitude f x ≡ 0) × (magnitude f y ≡ 0))
      by (yes z) = inr (z, sym (size_signed y.negative (magnitude f y)) ∙ ap nat_abs (sym e) ∙ size_signed x.negative (magnitude f x) ∙ z)
      by (no h) = inl (member_unique i j e (λ z. absurd (h z)))

  -- the greatest number, and the smallest positive one
  pub greatest_wide : Wide f.base f.digits (greatest f)
  unfolding greatest
  greatest_wide =
      record {
        significand = f.base ^ f.digits - 1;
        exponent = highest_place f;
        small = omega (arith, pow_pos a.base_low f.digits);
        is = refl;
      }

  pub greatest_member : (negative : Bool) → Member f (number f negative (greatest f))
  greatest_member negative = number_member greatest_wide negative (le_refl (greatest f))

  pub one_greatest : 1 ≤ greatest f
  unfolding greatest
  one_greatest = mul-pos (omega (arith, pow-zero f.base, pow_half a.base_low {i = 0} {j = f.digits} a.digits_low)) (pow_pos a.base_low (highest_place f))

  pub one_member : (negative : Bool) → Member f (number f negative 1)
  one_member negative = number_member (subst (Wide f.base f.digits) (pow-zero f.base) (wide_pow (positional a) 0)) negative one_greatest
