-- What the answer of the fraction says: n over m is ± N / D units, rounded; which refusal comes where; equal fractions are answered
-- alike, and as the quotient of two numbers; a whole number over 1 comes out unchanged where it is a number of the format.
use Rattle.theory.proofs.Prelude.{ℕ, ◌≤◌, ◌<◌, ◌+◌, ◌^◌, ◌*◌, ◌-◌, suc, zero, true, false, Bool, xor, [], ◌∷◌, ◌∙◌, ap, ◌≡◌, sym, refl, pow-zero, mul-pos, mul-lt-mul_of_pos_right, mul-le-mul, zero-mul, eq_of_mul-eq-mul_right, arith, ℤ, pos, nat_abs, negsuc, ◌*ℤ◌, le-leb, lt-leb}
use Rattle.arithmetic.proofs.Prelude.{all, ◌and◌, unless, signed, is_negative, Direction, pow-add, pow_pos, pow_mono, pow_half, Format, admitted, highest_place, Given, gives, refused, is_direction, direction, Admitted, admits, admitted_made, positional, Number, above_zero, below_zero, member, place_of, magnitude, value, greatest, number, delivered, checked, Checks, checked_passed, checks_end, Member, member_made, rounded, rounded_fraction, Rounded, refused_at, wide_pow, never, and_left, and_made, unless_passed, unless_failed}
use Rattle.theory.specs.Wide.{Wide}
use Rattle.theory.proofs.Round.{round_exact}
use Rattle.theory.proofs.Monotone.{Same, round_same}
use Rattle.theory.specs.declared.Mark.{Mark}
use Rattle.theory.specs.Marks.{mark}
use Rattle.theory.proofs.Marks.{mark_same}
use Rattle.theory.proofs.Integers.{times_one, below, parts_eq, scale_above, scale_below, size_scale, size_signed, own_sign, scale_signed}
use Rattle.number.specs.Checks as checks
use Rattle.number.proofs.Values.{number_magnitude, number_value, number_member}
use Rattle.arithmetic.specs.Marked.{marked, marked_fraction, fraction_answer}
use Rattle.arithmetic.specs.Quotients.{without_digits, quotient_answer}
use Rattle.arithmetic.specs.Outcomes.{MarkedOutcome}
use Rattle.arithmetic.proofs.Prepared.{parts_above, parts_below, no_magnitude, no_significand_law, divisor_positive, divisor_some, denominator_some, denominator_none, fraction_signed}
use Rattle.arithmetic.proofs.Outcome.{marked_outcome, rounded_outcome}
use Rattle.arithmetic.proofs.Fractions.{at_place}
use Rattle.arithmetic.proofs.Calls.{quotient_call}
use Rattle.arithmetic.proofs.Algebra.{exactly, exactly_marked, xor_plus, reach}

-- ---- N and D
abbrev pub over : Format → ℤ → ℕ
over f n = nat_abs n * f.base ^ below_zero f.emin

abbrev pub under : Format → ℕ → ℕ
under f m = m * f.base ^ above_zero f.emin

-- ± N / D units make n / m: ± N × m × β ^ Emin = n × D, with the power on the side where its exponent is not negative
pub fraction_times_denominator : (f : Format) (n : ℤ) (m : ℕ)
    → signed (is_negative n) (over f n) *ℤ pos m *ℤ pos (f.base ^ above_zero f.emin) ≡ n *ℤ pos (f.base ^ below_zero f.emin) *ℤ pos (under f m)
fraction_times_denominator f n m =
    let s : Bool = is_negative n in
    let u : ℕ = f.base ^ above_zero f.emin in
    let w : ℕ = f.base ^ below_zero f.emin in
    let left : signed s (over f n) *ℤ pos m *ℤ pos u ≡ signed s (over f n * m * u) = rw (scale_signed s (over f n) m) (scale_signed s (over f n * m) u) in
    let right : signed s (nat_abs n) *ℤ pos w *ℤ pos (under f m) ≡ signed s (over f n * under f m) =
    rw (scale_signed s (nat_abs n) w) (scale_signed s (nat_abs n * w) (under f m)) in
    left ∙ ap (signed s) (omega arith) ∙ sym right ∙ ap (λ (z : ℤ). z *ℤ pos w *ℤ pos (under f m)) (own_sign n)

under_some : {f : Format} → Admitted f → {m : ℕ} → 1 ≤ m → 1 ≤ under f m
under_some {f} ok h = mul-pos h (pow_pos ok.base_low (above_zero f.emin))

-- ---- which answer comes where: 1, 2, 4 (for 0 over 0 too), then the rounded fraction, or 5 where it is too large
pub data FractionEnds (f : Format) (d : ℕ) (n : ℤ) (m : ℕ) : Given Rounded → Type 0 where
  not_admitted : admitted f ≡ false → FractionEnds f d n m (refused 1)
  no_direction : Admitted f → is_direction d ≡ false → FractionEnds f d n m (refused 2)
  zero_denominator : Admitted f → is_direction d ≡ true → m ≡ 0 → FractionEnds f d n m (refused 4)
  rounds : {r : Given Rounded} → Admitted f → is_direction d ≡ true → 1 ≤ m → MarkedOutcome f (direction d) (n *ℤ pos (f.base ^ below_zero f.emin)) (under f m) r
      → FractionEnds f d n m r

pub only : (t : Bool) → t and true ≡ false → t ≡ false
unfolding ◌and◌
only true e = e
only false e = e

module _ (f : Format) (d : ℕ) (n : ℤ) where
  passes : Admitted f → is_direction d ≡ true → (m : ℕ) → fraction_answer f d n m ≡ marked_fraction f (direction d) n m
  unfolding fraction_answer all
  passes ok k m = checked_passed f (d ∷ []) [] _ (admitted_made ok) (and_made k refl) refl

  pub fraction_ends : (m : ℕ) → FractionEnds f d n m (fraction_answer f d n m)
  unfolding fraction_answer all marked
  fraction_ends m = by m (checks_end f (d ∷ []) [] (marked_fraction f (direction d) n m))
    where
      by : (m : ℕ) {g : Given Rounded} → Checks f (d ∷ []) [] (marked_fraction f (direction d) n m) g → FractionEnds f d n m g
      by m (checks.not_admitted h) = not_admitted h
      by m (checks.no_direction h k) = no_direction (admits f h) (only _ k)
      by m (checks.not_member h k l) = absurd (never l)
      by zero (checks.all_passed h k l) = rw (denominator_none f (direction d) n refl) (zero_denominator (admits f h) (and_left _ _ k) refl)
      by (suc m) (checks.all_passed h k l) =
          let ok = admits f h in
          let some : 1 ≤ suc m = omega arith in
          rw (denominator_some f (direction d) n some)
          (rounds ok (and_left _ _ k) some (marked_outcome (rw (fraction_signed f n) at (rounded_outcome ok (direction d) (is_negative n) (over f n) (under_some ok some)))))

-- ---- equal fractions are answered alike
same_sign : (n k : ℤ) (m j : ℕ) → 1 ≤ m → 1 ≤ j → n *ℤ pos j ≡ k *ℤ pos m → is_negative n ≡ is_negative k
same_sign (pos a) (pos b) m j hm hj e = refl
same_sign (pos a) (negsuc b) m j hm hj e = absurd (omega (arith, ap below e, scale_below (pos a) j, scale_below (negsuc b) m, mul-pos {m = suc b} {n = m} (omega arith) hm))
same_sign (negsuc a) (pos b) m j hm hj e = absurd (omega (arith, ap below e, scale_below (negsuc a) j, scale_below (pos b) m, mul-pos {m = suc a} {n = j} (omega arith) hj))
same_sign (negsuc a) (negsuc b) m j hm hj e = refl

pub rounded_same : {f : Format} → Admitted f → (d : Direction) {s t : Bool} {N D N' D' : ℕ} → s ≡ t → Same N D N' D' → rounded f d s N D ≡ rounded f d t N' D'
unfolding rounded
rounded_same {f} ok d {t = t} e h = rw e (ap (delivered f t) (round_same (positional ok) d t h))

-- with their marks
pub marked_same : {f : Format} → Admitted f → (d : Direction) {s t : Bool} {N D N' D' : ℕ} → s ≡ t → Same N D N' D'
    → marked f (signed s N) D (rounded f d s N D) ≡ marked f (signed t N') D' (rounded f d t N' D')
unfolding marked
marked_same {f} ok d {s} {t} {N} {D} {N'} {D'} e h = ap (marked f (signed s N) D) (rounded_same ok d e h) ∙ by (rounded f d t N' D')
  where
    by : (g : Given Number) → marked f (signed s N) D g ≡ marked f (signed t N') D' g
    by (gives x) =
        ap (λ (m : Mark). gives (record { number = x; mark = m })) (ap (λ (s : Bool). mark (value f x) (signed s N) D) e ∙ mark_same (value f x) t h)
    by (refused n) = refl
    by (refused_at n i) = refl

module _ (f : Format) (d : ℕ) where
  -- what holds after passed checks holds of what is given
  pub checked_same : {A : Type 0} {x y : Given A} → (Admitted f → x ≡ y) → checked f (d ∷ []) [] x ≡ checked f (d ∷ []) [] y
  unfolding checked
  checked_same {x = x} {y = y} h = by (admitted f) refl
    where
      by : (t : Bool) → admitted f ≡ t → unless t (refused 1) (unless (all is_direction (d ∷ [])) (refused 2) (unless (all (member f) []) (refused 3) x))
          ≡ unless t (refused 1) (unless (all is_direction (d ∷ [])) (refused 2) (unless (all (member f) []) (refused 3) y))
      by true a = rw (h (admits f a))
      by false a = unless_failed _ _ refl ∙ sym (unless_failed _ _ refl)

  -- a fraction whose denominator is not zero, or is
  fraction_some : (n : ℤ) {m : ℕ} → 1 ≤ m
      → marked_fraction f (direction d) n m ≡ marked f (signed (is_negative n) (over f n)) (under f m) (rounded f (direction d) (is_negative n) (over f n) (under f m))
  fraction_some n {m} h =
      ap (λ (z : ℤ). marked f z (under f m) (rounded_fraction f (direction d) n m)) (sym (fraction_signed f n)) ∙ ap (marked f _ (under f m)) (denominator_some f (direction d) n h)

  fraction_none : (n : ℤ) {m : ℕ} → m ≡ 0 → marked_fraction f (direction d) n m ≡ refused 4
  unfolding marked
  fraction_none n {m} h = ap (marked f _ (under f m)) (denominator_none f (direction d) n h)

  pub fraction_same : (n k : ℤ) {m j : ℕ} → 1 ≤ m → 1 ≤ j → n *ℤ pos j ≡ k *ℤ pos m → fraction_answer f d n m ≡ fraction_answer f d k j
  unfolding fraction_answer
  fraction_same n k {m} {j} hm hj e =
      checked_same
      (λ ok.
      let sizes : nat_abs n * j ≡ nat_abs k * m = sym (size_scale n j) ∙ ap nat_abs e ∙ size_scale k m in
      let cross : Same (over f n) (under f m) (over f k) (under f j) =
      record {
        divisor = under_some ok hm;
        divisor' = under_some ok hj;
        cross = omega (arith, ap (λ (x : ℕ). x * (f.base ^ below_zero f.emin * f.base ^ above_zero f.emin)) sizes);
      } in
      fraction_some n hm ∙ marked_same ok (direction d) (same_sign n k m j hm hj e) cross ∙ sym (fraction_some k hj))

  -- both parts multiplied
  pub fraction_multiplied : (n : ℤ) (m c : ℕ) → 1 ≤ c → fraction_answer f d (n *ℤ pos c) (m * c) ≡ fraction_answer f d n m
  unfolding fraction_answer
  fraction_multiplied n zero c h = checked_same (λ ok. fraction_none (n *ℤ pos c) (zero-mul c) ∙ sym (fraction_none n refl))
  fraction_multiplied n (suc m) c h =
      fraction_same (n *ℤ pos c) n (mul-pos {m = suc m} {n = c} (omega arith) h) (omega arith)
      (parts_eq (n *ℤ pos c *ℤ pos (suc m)) (n *ℤ pos (suc m * c))
      (omega (
        arith,
        scale_above (n *ℤ pos c) (suc m),
        scale_below (n *ℤ pos c) (suc m),
        ap (λ (x : ℕ). x * suc m) (scale_above n c),
        ap (λ (x : ℕ). x * suc m) (scale_below n c),
        scale_above n (suc m * c),
        scale_below n (suc m * c),
      )))

-- ---- n over m is the quotient of n and m, where both are numbers of the format
-- x is the whole number z: x units are z / β ^ Emin, and 0 is plus zero
pub record Whole (f : Format) (x : Number) (z : ℤ) : Type 0 where
  pub member : member f x ≡ true
  pub value : value f x *ℤ pos (f.base ^ above_zero f.emin) ≡ z *ℤ pos (f.base ^ below_zero f.emin)
  pub zero_plus : x.significand ≡ 0 → x.negative ≡ false

module _ {f : Format} (ok : Admitted f) where
  unit_above : 1 ≤ f.base ^ above_zero f.emin
  unit_above = pow_pos ok.base_low (above_zero f.emin)

  unit_below : 1 ≤ f.base ^ below_zero f.emin
  unit_below = pow_pos ok.base_low (below_zero f.emin)

  whole_size : {x : Number} {z : ℤ} → Whole f x z → magnitude f x * f.base ^ above_zero f.emin ≡ over f z
  unfolding value
  whole_size {x} {z} w =
      ap (λ (n : ℕ). n * f.base ^ above_zero f.emin) (sym (size_signed x.negative (magnitude f x)))
      ∙ sym (size_scale (value f x) (f.base ^ above_zero f.emin)) ∙ ap nat_abs w.value ∙ size_scale z (f.base ^ below_zero f.emin)

  -- a number has the sign of its value
  signed_sign : (s : Bool) (n : ℕ) → (n ≡ 0 → s ≡ false) → is_negative (signed s n) ≡ s
  signed_sign true zero h = sym (h refl)
  signed_sign true (suc n) h = refl
  signed_sign false n h = refl

  whole_sign : {x : Number} {z : ℤ} → Whole f x z → is_negative z ≡ x.negative
  unfolding value
  whole_sign {x} {z} w =
      sym (same_sign (value f x) z (f.base ^ below_zero f.emin) (f.base ^ above_zero f.emin) unit_below unit_above w.value)
      ∙ signed_sign x.negative (magnitude f x) (λ e. w.zero_plus (no_significand_law ok x e))

  whole_some : {x : Number} {m : ℕ} → Whole f x (pos m) → 1 ≤ m → 1 ≤ x.significand
  whole_some {x} {m} w h = by x.significand refl
    where
      by : (n : ℕ) → x.significand ≡ n → 1 ≤ n
      by zero e =
          absurd (omega (arith, ap (λ (n : ℕ). n * f.base ^ above_zero f.emin) (no_magnitude f x e), whole_size w, mul-pos h unit_below))
      by (suc n) e = omega arith

module _ (f : Format) (d : ℕ) (a b : Number) where
  checked_whole : {A : Type 0} → member f a ≡ true → member f b ≡ true → (g : Given A) → checked f (d ∷ []) (a ∷ b ∷ []) g ≡ checked f (d ∷ []) [] g
  unfolding checked all ◌and◌
  checked_whole h k g = rw (h, k, ◌and◌)

  pub fraction_quotient : {n : ℤ} {m : ℕ} → Whole f a n → Whole f b (pos m) → 1 ≤ m → fraction_answer f d n m ≡ without_digits (quotient_answer f d a b)
  unfolding fraction_answer
  fraction_quotient {n} {m} u v h =
      checked_same f d
      (λ ok.
      let size_a = whole_size ok u in
      let size_b = whole_size ok v in
      let some = whole_some ok v h in
      let signs : is_negative n ≡ xor a.negative b.negative = rw (← whole_sign ok v) (whole_sign ok u ∙ sym (xor_plus a.negative false refl)) in
      let cross : Same (over f n) (under f m) (magnitude f a * f.base ^ below_zero f.emin) (magnitude f b * f.base ^ above_zero f.emin) =
      record {
        divisor = under_some ok h;
        divisor' = divisor_positive ok b some;
        cross = omega (
          arith,
          ap (λ (x : ℕ). over f n * x) size_b,
          ap (λ (x : ℕ). x * (m * f.base ^ below_zero f.emin)) size_a,
        );
      } in
      fraction_some f d n h ∙ marked_same ok (direction d) signs cross ∙ ap (marked f _ _) (sym (divisor_some ok (direction d) a b some)))
      ∙ sym (checked_whole u.member v.member _) ∙ sym (quotient_call f d a b)

-- ---- a whole number over 1, in a format with Emin ≤ 0
-- r is the number n, exact, by its value (n / β ^ Emin units) and by its record (the sign of n, and m × β ^ e = |n|)
pub record Unchanged (f : Format) (n : ℤ) (r : Given Rounded) : Type 0 where
  pub number : Number
  pub is : r ≡ gives (exactly number)
  pub member : member f number ≡ true
  pub value : value f number ≡ n *ℤ pos (f.base ^ below_zero f.emin)
  pub sign : number.negative ≡ is_negative n
  pub size : number.significand * f.base ^ above_zero number.exponent ≡ nat_abs n * f.base ^ below_zero number.exponent

module _ {f : Format} (ok : Admitted f) (low : above_zero f.emin ≡ 0) (d : ℕ) (k : is_direction d ≡ true) where
  under_one : under f 1 ≡ 1
  under_one = rw (low, pow-zero) (omega arith)

  -- a number of |n| / β ^ Emin units is |n|, without the unit
  plain_size : {x : Number} (n : ℤ) → Member f x → magnitude f x ≡ over f n
      → x.significand * f.base ^ above_zero x.exponent ≡ nat_abs n * f.base ^ below_zero x.exponent
  unfolding magnitude
  plain_size {x} n i e =
      let B : ℕ = f.base in
      let unit : ℕ = B ^ below_zero f.emin in
      let exponents : above_zero x.exponent + below_zero f.emin ≡ below_zero x.exponent + place_of f x =
      omega (arith, at_place i, parts_above f.emin, parts_below f.emin, parts_above x.exponent, parts_below x.exponent) in
      let powers : B ^ above_zero x.exponent * unit ≡ B ^ below_zero x.exponent * B ^ place_of f x =
      sym (pow-add B (above_zero x.exponent) (below_zero f.emin)) ∙ ap (λ (h : ℕ). B ^ h) exponents ∙ pow-add B (below_zero x.exponent) (place_of f x) in
      eq_of_mul-eq-mul_right unit (unit_below ok) _ _
      (omega (arith, ap (λ (v : ℕ). x.significand * v) powers, ap (λ (v : ℕ). v * B ^ below_zero x.exponent) e))

  -- a magnitude of the wide format is not rounded
  whole_rounded : (n : ℤ) → Wide f.base f.digits (over f n) → rounded_fraction f (direction d) n 1 ≡ delivered f (is_negative n) (over f n)
  unfolding rounded
  whole_rounded n w =
      denominator_some f (direction d) n (omega arith)
      ∙ ap (delivered f (is_negative n))
      (round_exact (positional ok) (over f n) (under_some ok (omega arith)) (direction d) (is_negative n) (over f n) w (rw under_one (omega arith)))

  too_large : (n : ℤ) → Wide f.base f.digits (over f n) → greatest f < over f n → fraction_answer f d n 1 ≡ refused 5
  unfolding delivered marked
  too_large n w l = passes f d n ok k 1 ∙ ap (marked f _ (under f 1)) (whole_rounded n w ∙ unless_failed _ _ (lt-leb _ _ l))

  pub unchanged : (n : ℤ) → Wide f.base f.digits (over f n) → over f n ≤ greatest f → Unchanged f n (fraction_answer f d n 1)
  unfolding delivered number
  unchanged n w l =
      let x : Number = number f (is_negative n) (over f n) in
      let unit : ℕ = f.base ^ below_zero f.emin in
      let i : Member f x = number_member ok w (is_negative n) l in
      let units : value f x ≡ n *ℤ pos unit =
      number_value ok w (is_negative n) ∙ sym (scale_signed (is_negative n) (nat_abs n) unit) ∙ ap (λ (z : ℤ). z *ℤ pos unit) (own_sign n) in
      record {
        number = x;
        is = passes f d n ok k 1
            ∙ exactly_marked f x (n *ℤ pos unit) (under f 1) (rw under_one (times_one (value f x) ∙ units)) (whole_rounded n w ∙ unless_passed _ _ (le-leb _ _ l));
        member = member_made x ok i;
        value = units;
        sign = refl;
        size = plain_size n i (number_magnitude ok w (is_negative n));
      }

-- ---- binary with 31 digits, Emin ≤ 0 ≤ Emax
pub record Binary31 (f : Format) : Type 0 where
  pub admits : Admitted f
  pub base : f.base ≡ 2
  pub digits : f.digits ≡ 31
  pub low : above_zero f.emin ≡ 0
  pub high : below_zero f.emax ≡ 0

-- -2 ^ 31, the least of the signed numbers of 32 bits
abbrev pub least : ℤ
least = negsuc (2 ^ 31 - 1)

module _ {f : Format} (b : Binary31 f) where
  -- the highest place is -Emin + Emax
  highest : highest_place f ≡ above_zero f.emax + below_zero f.emin
  highest = omega (arith, reach b.admits b.low, b.high)

  over_is : (n : ℤ) → over f n ≡ nat_abs n * 2 ^ below_zero f.emin
  over_is n = rw b.base

  greatest_is : greatest f ≡ (2 ^ 31 - 1) * 2 ^ highest_place f
  unfolding greatest
  greatest_is = rw (b.base, b.digits)

  -- every numerator but -2 ^ 31
  small_wide : (n : ℤ) → nat_abs n < 2 ^ 31 → Wide f.base f.digits (over f n)
  small_wide n l = record { significand = nat_abs n; exponent = below_zero f.emin; small = rw (b.base, b.digits) l; is = refl }

  small_within : (n : ℤ) → nat_abs n < 2 ^ 31 → over f n ≤ greatest f
  small_within n l =
      rw (over_is n, greatest_is)
      (mul-le-mul (omega arith) (pow_mono {β = 2} (omega arith) {i = below_zero f.emin} {j = highest_place f} (omega (arith, highest))))

  -- and -2 ^ 31 itself
  least_wide : Wide f.base f.digits (over f least)
  least_wide =
      let power : 2 ^ (31 + below_zero f.emin) ≡ 2 ^ 31 * 2 ^ below_zero f.emin = pow-add 2 31 (below_zero f.emin) in
      rw (over_is least, b.base) (rw power at (wide_pow {β = 2} (record { base = omega arith; digits = b.admits.digits_low }) (31 + below_zero f.emin)))

  module _ (d : ℕ) (k : is_direction d ≡ true) where
    pub numerator_unchanged : (n : ℤ) → nat_abs n < 2 ^ 31 → Unchanged f n (fraction_answer f d n 1)
    numerator_unchanged n l = unchanged b.admits b.low d k n (small_wide n l) (small_within n l)

    pub least_too_large : above_zero f.emax ≡ 0 → fraction_answer f d least 1 ≡ refused 5
    least_too_large e =
        let same : highest_place f ≡ below_zero f.emin = omega (arith, highest) in
        too_large b.admits b.low d k least least_wide
        (rw (over_is least, greatest_is, same) (mul-lt-mul_of_pos_right {k = 2 ^ below_zero f.emin} (omega arith) (pow_pos {β = 2} (omega arith) (below_zero f.emin))))

    pub least_unchanged : 1 ≤ above_zero f.emax → Unchanged f least (fraction_answer f d least 1)
    least_unchanged h =
        let twice : 2 * 2 ^ below_zero f.emin ≤ 2 ^ highest_place f =
        pow_half {β = 2} (omega arith) {i = below_zero f.emin} {j = highest_place f} (omega (arith, highest)) in
        unchanged b.admits b.low d k least least_wide (rw (over_is least, greatest_is) (omega (arith, twice)))
