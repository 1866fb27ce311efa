-- The number of quotient digits, for every admitted format: none exactly where the dividend is zero or the first digit's place lies below
-- Emin; at most p + 1, and p + 1 only where the first digit is 0; 1 for a number over itself; the digits counted, with what remains, are
-- the quotient; and the mark is exact exactly where nothing remains.
use Rattle.theory.proofs.Prelude.{ℕ, ◌≤◌, ◌<◌, ◌+◌, ◌^◌, ◌*◌, ◌-◌, ◌%◌, ◌/◌, true, false, Bool, xor, [], ◌∷◌, inl, inr, ◌⊎◌, ◌∙◌, ap, ◌≡◌, sym, refl, mul-pos, eq_of_mul-eq-mul_right, cond, eqb, eqb-true, eqb-false, eq-eqb, lt_z, pos, nat_abs, ◌-ℤ◌, arith}
use native.Mathlib.Nat.{mod_self}
use Rattle.theory.specs.QuotientDigits.{digits_taken, lacking, brought}
use Rattle.theory.specs.declared.Mark.TheVariants.{Exact}
use Rattle.theory.proofs.Words.{Wide, ◌or◌}
use Rattle.theory.proofs.Integers.{size_scale, scale_signed}
use Rattle.theory.specs.Signed.{signed}
use Rattle.theory.proofs.Tests.{or_right}
use Rattle.theory.proofs.QuotientDigits.{Leads, Counted, brought_leads, leads_below, taken_counted, taken_most, taken_leading_zero, taken_whole, taken_exact, taken_ends}
use Rattle.format.proofs.Signed.{Upto, Under, lt_true, lt_false, make_lt}
use Rattle.format.proofs.GivenLaws.{gives_same, gives_not_refused, gives_not_refused_at}
use Rattle.arithmetic.specs.declared.CountedQuotient.{CountedQuotient}
use Rattle.arithmetic.specs.Marked.{marked_quotient}
use Rattle.arithmetic.specs.Quotients.{with_digits, without_digits, full_significand, full_exponent, first_digit_place, quotient_digits, quotient_answer}
use Rattle.arithmetic.specs.Outcomes.{MarkedNumber}
use Rattle.arithmetic.proofs.Prelude.{Format, Given, gives, refused, refused_at, direction, checked, Number, Member, Admitted, positional, Rounded, above_zero, below_zero, place_of, magnitude, value, pow-add, pow_pos, diff_parts, size_signed}
use Rattle.number.proofs.CheckLaws.{then_checked}
use Rattle.arithmetic.proofs.QuotientPlaces.{high_place, low_place, places_apart}
use Rattle.arithmetic.proofs.Calls.{Checked, quotient_some, quotient_rounds}
use Rattle.arithmetic.proofs.MarkLaws.{exact_where_wide, wide_where_exact}

-- how many places above Emin the first digit stands
abbrev pub places_above : Format → (a b : Number) → ℕ
places_above f a b = nat_abs (first_digit_place f a b -ℤ f.emin)

abbrev lacks : Format → Number → ℕ
lacks f x = lacking f.base f.digits x.significand

-- the quotient is a number of the wide format
record WholeUnits (f : Format) (a b : Number) : Type 0 where
  units : ℕ
  wide : Wide f.base f.digits units
  is : units * (magnitude f b * f.base ^ above_zero f.emin) ≡ magnitude f a * f.base ^ below_zero f.emin

abbrev taken : Format → (a b : Number) → ℕ
taken f a b = digits_taken f.base f.digits (full_significand f b) (full_significand f a) 0 (places_above f a b)

-- ---- the cases of the definition
data Cases (f : Format) (a b : Number) : ℕ → Type 0 where
  zero_dividend : a.significand ≡ 0 → Cases f a b 0
  below_emin : Under (first_digit_place f a b) f.emin → Cases f a b 0
  some_taken : 1 ≤ a.significand → Upto f.emin (first_digit_place f a b) → Cases f a b (taken f a b)

digits_cases : (f : Format) (a b : Number) → Cases f a b (quotient_digits f a b)
unfolding quotient_digits ◌or◌
digits_cases f a b = by (eqb a.significand 0) (lt_z (first_digit_place f a b) f.emin) refl refl
  where
    by : (s t : Bool) → eqb a.significand 0 ≡ s → lt_z (first_digit_place f a b) f.emin ≡ t → Cases f a b (cond (s or t) 0 (taken f a b))
    by true t e l = zero_dividend (eqb-true a.significand 0 e)
    by false true e l = below_emin (lt_true (first_digit_place f a b) f.emin l)
    by false false e l = some_taken (omega (arith, eqb-false a.significand 0 e)) (lt_false (first_digit_place f a b) f.emin l)

-- none in the two cases
module _ (f : Format) (a b : Number) where
  pub digits_zero_dividend : a.significand ≡ 0 → quotient_digits f a b ≡ 0
  unfolding quotient_digits ◌or◌
  digits_zero_dividend e = rw (eq-eqb a.significand 0 e)

  pub digits_below_emin : Under (first_digit_place f a b) f.emin → quotient_digits f a b ≡ 0
  unfolding quotient_digits
  digits_below_emin l = rw (or_right (eqb a.significand 0) (make_lt (first_digit_place f a b) f.emin l))

module _ {f : Format} (ok : Admitted f) {a b : Number} (i : Member f a) (j : Member f b) (some : 1 ≤ b.significand) where
  divisor : Leads f.base f.digits (full_significand f b)
  divisor = brought_leads (positional ok) some j.significand_high

  divisor_some : 1 ≤ full_significand f b
  divisor_some = omega (arith, divisor.least, pow_pos ok.base_low (f.digits - 1))

  dividend : 1 ≤ a.significand → Leads f.base f.digits (full_significand f a)
  dividend h = brought_leads (positional ok) h i.significand_high

  one_digit : 1 ≤ a.significand → full_significand f a < f.base * full_significand f b
  one_digit h = leads_below (positional ok) (dividend h) divisor

  counted : 1 ≤ a.significand → Counted f.base f.digits (full_significand f a) (full_significand f b) (places_above f a b) (taken f a b)
  counted h = taken_counted (positional ok) divisor_some (one_digit h) (places_above f a b)

  -- and in no other case
  pub digits_none : quotient_digits f a b ≡ 0 → (a.significand ≡ 0) ⊎ Under (first_digit_place f a b) f.emin
  digits_none = by (digits_cases f a b)
    where
      by : {n : ℕ} → Cases f a b n → n ≡ 0 → (a.significand ≡ 0) ⊎ Under (first_digit_place f a b) f.emin
      by (zero_dividend h) e = inl h
      by (below_emin l) e = inr l
      by (some_taken h l) e = absurd (omega (arith, (counted h).is))

  -- never more than p + 1
  pub digits_most : quotient_digits f a b ≤ f.digits + 1
  digits_most = by (digits_cases f a b)
    where
      by : {n : ℕ} → Cases f a b n → n ≤ f.digits + 1
      by (zero_dividend h) = omega arith
      by (below_emin l) = omega arith
      by (some_taken h l) =
          let less = leads_below (positional ok) divisor (dividend h) in
          taken_most (positional ok) divisor_some (one_digit h) (places_above f a b) (omega arith)

  -- p + 1 only where the first digit is 0
  pub digits_leading_zero : f.digits < quotient_digits f a b → full_significand f a / full_significand f b ≡ 0
  digits_leading_zero = by (digits_cases f a b)
    where
      by : {n : ℕ} → Cases f a b n → f.digits < n → full_significand f a / full_significand f b ≡ 0
      by (zero_dividend h) e = absurd (omega arith)
      by (below_emin l) e = absurd (omega arith)
      by (some_taken h l) e = taken_leading_zero (positional ok) divisor_some (one_digit h) (places_above f a b) e

  -- the digits counted are those of the quotient, up to the first end of the three
  pub digits_counted : 1 ≤ quotient_digits f a b
      → Counted f.base f.digits (full_significand f a) (full_significand f b) (places_above f a b) (quotient_digits f a b)
  digits_counted = by (digits_cases f a b)
    where
      by : {n : ℕ} → Cases f a b n → 1 ≤ n → Counted f.base f.digits (full_significand f a) (full_significand f b) (places_above f a b) n
      by (zero_dividend h) e = absurd (omega arith)
      by (below_emin l) e = absurd (omega arith)
      by (some_taken h l) e = counted h

-- one for a number over itself, where place 0 is not below Emin
pub digits_self : {f : Format} → Admitted f → {a : Number} → Member f a → 1 ≤ a.significand → Upto f.emin (pos 0) → quotient_digits f a a ≡ 1
digits_self {f} ok {a} i some l = by (digits_cases f a a)
  where
    by : {n : ℕ} → Cases f a a n → n ≡ 1
    by (zero_dividend h) = absurd (omega arith)
    by (below_emin k) = absurd (omega (arith, diff_parts (full_exponent f a) (full_exponent f a)))
    by (some_taken h k) = taken_whole (positional ok) (divisor_some ok i i some) (one_digit ok i i some h) (places_above f a a) (mod_self (full_significand f a))

-- ---- an exact quotient
-- w units are the quotient exactly where w times the divisor is the dividend, at the first digit's place
module _ {f : Format} (ok : Admitted f) {a b : Number} (i : Member f a) (j : Member f b) where
  -- both sides are brought up by the digits that both significands lack
  added : ℕ
  added = f.base ^ lacks f a * f.base ^ lacks f b

  added_some : 1 ≤ added
  unfolding added
  added_some = mul-pos (pow_pos ok.base_low (lacks f a)) (pow_pos ok.base_low (lacks f b))

  divisor_side : (w : ℕ) → w * (magnitude f b * f.base ^ above_zero f.emin) * added ≡ w * full_significand f b * f.base ^ low_place f a b
  unfolding added magnitude brought
  divisor_side w =
      rw (pow-add f.base (place_of f b + above_zero f.emin) (lacks f a), pow-add f.base (place_of f b) (above_zero f.emin)) (omega arith)

  module _ (l : Upto f.emin (first_digit_place f a b)) where
    dividend_side : magnitude f a * f.base ^ below_zero f.emin * added ≡ full_significand f a * f.base ^ places_above f a b * f.base ^ low_place f a b
    unfolding added magnitude brought
    dividend_side =
        let high : f.base ^ high_place f a b ≡ f.base ^ place_of f a * f.base ^ below_zero f.emin * f.base ^ lacks f b =
        rw (pow-add f.base (place_of f a + below_zero f.emin) (lacks f b), pow-add f.base (place_of f a) (below_zero f.emin)) in
        let whole : f.base ^ low_place f a b * f.base ^ places_above f a b ≡ f.base ^ place_of f a * f.base ^ below_zero f.emin * f.base ^ lacks f b =
        sym (pow-add f.base (low_place f a b) (places_above f a b)) ∙ ap (λ (k : ℕ). f.base ^ k) (places_apart i j l) ∙ high in
        omega (arith, ap (λ (x : ℕ). a.significand * f.base ^ lacks f a * x) whole)

    units_divide : (w : ℕ) → w * (magnitude f b * f.base ^ above_zero f.emin) ≡ magnitude f a * f.base ^ below_zero f.emin
        → w * full_significand f b ≡ full_significand f a * f.base ^ places_above f a b
    units_divide w e =
        eq_of_mul-eq-mul_right (f.base ^ low_place f a b) (pow_pos ok.base_low (low_place f a b)) _ _ (sym (divisor_side w) ∙ ap (λ (x : ℕ). x * added) e ∙ dividend_side)

    divide_units : (w : ℕ) → w * full_significand f b ≡ full_significand f a * f.base ^ places_above f a b
        → w * (magnitude f b * f.base ^ above_zero f.emin) ≡ magnitude f a * f.base ^ below_zero f.emin
    divide_units w e = eq_of_mul-eq-mul_right added added_some _ _ (divisor_side w ∙ ap (λ (x : ℕ). x * f.base ^ low_place f a b) e ∙ sym dividend_side)

  module _ (some : 1 ≤ b.significand) where
    -- nothing remains of a quotient in the wide format
    whole_ends : {w : ℕ} → Wide f.base f.digits w → w * (magnitude f b * f.base ^ above_zero f.emin) ≡ magnitude f a * f.base ^ below_zero f.emin
        → 1 ≤ quotient_digits f a b → full_significand f a * f.base ^ (quotient_digits f a b - 1) % full_significand f b ≡ 0
    whole_ends {w} h e = by (digits_cases f a b)
      where
        by : {n : ℕ} → Cases f a b n → 1 ≤ n → full_significand f a * f.base ^ (n - 1) % full_significand f b ≡ 0
        by (zero_dividend k) l = absurd (omega arith)
        by (below_emin k) l = absurd (omega arith)
        by (some_taken k u) l = taken_exact (positional ok) (divisor_some ok i j some) (one_digit ok i j some k) (places_above f a b) h (units_divide u w e)

    -- and where nothing remains, it is in the wide format
    ends_whole : 1 ≤ quotient_digits f a b → full_significand f a * f.base ^ (quotient_digits f a b - 1) % full_significand f b ≡ 0 → WholeUnits f a b
    ends_whole = by (digits_cases f a b)
      where
        by : {n : ℕ} → Cases f a b n → 1 ≤ n → full_significand f a * f.base ^ (n - 1) % full_significand f b ≡ 0 → WholeUnits f a b
        by (zero_dividend k) l e = absurd (omega arith)
        by (below_emin k) l e = absurd (omega arith)
        by (some_taken k u) l e =
            let t = taken_ends (positional ok) (divisor_some ok i j some) (one_digit ok i j some k) (places_above f a b) e in
            record { units = t.units; wide = t.wide; is = divide_units u t.units t.is }

-- ---- what a call gives
digits_given : (n : ℕ) (g : Given Rounded) {q : CountedQuotient} → with_digits n g ≡ gives q → q.digits ≡ n
digits_given n (gives r) e = ap (λ (q : CountedQuotient). q.digits) (sym (gives_same e))
digits_given n (refused k) e = absurd (gives_not_refused (sym e))
digits_given n (refused_at k i) e = absurd (gives_not_refused_at (sym e))

module _ (f : Format) (d : ℕ) (a b : Number) {q : CountedQuotient} (e : quotient_answer f d a b ≡ gives q) where
  pub quotient_digits_law : q.digits ≡ quotient_digits f a b
  unfolding quotient_answer
  quotient_digits_law =
      let g = marked_quotient f (direction d) a b in
      let n = quotient_digits f a b in
      digits_given n (checked f (d ∷ []) (a ∷ b ∷ []) g) (then_checked f (d ∷ []) (a ∷ b ∷ []) g _ ∙ e)

  some_divisor : 1 ≤ b.significand
  some_divisor = quotient_some f d a b e

  passed : Checked f d a b
  passed = (quotient_rounds f d a b some_divisor).passed (ap without_digits e)

  pub quotient_digits_most : q.digits ≤ f.digits + 1
  quotient_digits_most = rw quotient_digits_law (digits_most passed.admits passed.first passed.second some_divisor)

  given : MarkedNumber f (direction d) (signed (xor a.negative b.negative) (magnitude f a * f.base ^ below_zero f.emin)) (magnitude f b * f.base ^ above_zero f.emin) (record { number = q.number; mark = q.mark })
  given = (quotient_rounds f d a b some_divisor).given (ap without_digits e)

  -- where digits were taken, the mark is exact exactly where nothing remains after the last of them
  pub exact_ends : 1 ≤ q.digits → q.mark ≡ Exact → full_significand f a * f.base ^ (q.digits - 1) % full_significand f b ≡ 0
  exact_ends l h =
      let x = wide_where_exact passed.admits given.rounded (sym given.marked ∙ h) in
      let same = sym (size_scale (value f q.number) (magnitude f b * f.base ^ above_zero f.emin)) ∙ ap nat_abs x.1 ∙ size_signed (xor a.negative b.negative) (magnitude f a * f.base ^ below_zero f.emin) in
      rw quotient_digits_law (whole_ends passed.admits passed.first passed.second some_divisor x.0 same (omega (arith, quotient_digits_law)))

  pub ends_exact : 1 ≤ q.digits → full_significand f a * f.base ^ (q.digits - 1) % full_significand f b ≡ 0 → q.mark ≡ Exact
  ends_exact l h =
      let w = ends_whole passed.admits passed.first passed.second some_divisor (omega (arith, quotient_digits_law)) (rw quotient_digits_law at h) in
      let t = xor a.negative b.negative in
      given.marked
      ∙ exact_where_wide passed.admits given.rounded (signed t w.units) (rw (size_signed t w.units) w.wide)
      (scale_signed t w.units (magnitude f b * f.base ^ above_zero f.emin) ∙ ap (signed t) w.is)
