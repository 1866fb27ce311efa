-- The figures with the successor, line by line: under their premises every line is exact, in each direction.
use Rattle.theory.proofs.Prelude.{ℕ, ◌≤◌, ◌<◌, ◌+◌, ◌^◌, ◌*◌, ◌-◌, suc, zero, true, false, Bool, xor, ⊎_elim, ◌∙◌, ap, ◌≡◌, sym, refl, ap₂, subst, mul-le-mul_right, le_of_mul-le-mul_right, le_antisymm, mul-pos, zero-mul, lt-ltb, add-one, arith, ℤ, pos, nat_abs, ◌*ℤ◌, le-leb, lt-leb}
use Rattle.theory.proofs.Words.{Positional, Wide, ufp, ulp, signed, round_z, upper, successor}
use Rattle.theory.specs.declared.Direction.{Direction}
use Rattle.theory.proofs.Rump.{product}
use Rattle.theory.proofs.Powers.{pow-add, pow_pos}
use Rattle.theory.proofs.Wide.{wide_pow}
use Rattle.theory.proofs.Neighbours.{le_upper, upper_wide, upper_exact}
use Rattle.theory.proofs.Units.{ufp_shift, ulp_ufp, ulp_wide, successor_ulp}
use Rattle.theory.proofs.Operations.{difference_exact, product_exact}
use Rattle.theory.proofs.LastPlace.{successor_most}
use Rattle.theory.proofs.Faithful.{successor_pos}
use Rattle.theory.proofs.Tests.{unless_passed, unless_failed, refuted}
use Rattle.theory.specs.Tests.{unless}
use Rattle.number.proofs.Prelude.{Format, Given, gives, refused, Admitted, positional, above_zero, below_zero, member, magnitude, value, greatest, number, delivered, Member, members, one_checked}
use Rattle.number.specs.declared.Number.{Number}
use Rattle.number.proofs.Values.{member_wide, greatest_wide, one_greatest}
use Rattle.wide.proofs.Signs.{signed_times}
use Rattle.arithmetic.specs.Operations.{rounded_product}
use Rattle.arithmetic.specs.Outcomes.{Outcome, given, too_large}
use Rattle.arithmetic.proofs.Outcome.{rounded_outcome}
use Rattle.units.specs.Neighbours.{delivered_z, successor_of}
use Rattle.units.proofs.Sides.{delivered_signed}
use Rattle.units.proofs.NeighbourLaws.{successor_cases}
use Rattle.rump.specs.Figures.{one, lead_place, lead, gap_above, figure6}
use Rattle.rump.specs.Premises.{next_premise, lead_premise, scaled_premise}
use Rattle.rump.proofs.Reach.{Lead, led, one_positive, lead_most, lead_unit, next_some, next_less, next_by, scaled_some, scaled_less, scaled_made}
use Rattle.rump.proofs.Lines.{Has, has_size, number_has, has_plus, Line, difference_line, subrealmin_has}

-- ---- in the wide format
wide_scaled : {β p n : ℕ} (k : ℕ) → Wide β p n → Wide β p (n * β ^ k)
wide_scaled {β} k w =
    record {
      significand = w.significand;
      exponent = w.exponent + k;
      small = w.small;
      is = omega (arith, ap (λ (m : ℕ). m * β ^ k) w.is, ap (λ (t : ℕ). w.significand * t) (pow-add β w.exponent k));
    }

-- the last place of n β ^ (p - 1) is the first place of n
pub ulp_scaled : {β p n : ℕ} → Positional β p → 1 ≤ n → ulp β p (n * β ^ (p - 1)) ≡ ufp β n
ulp_scaled {β} {p} {n} ok h =
    let lead : 1 ≤ β ^ (p - 1) = pow_pos ok.base (p - 1) in
    let same : ulp β p (n * β ^ (p - 1)) * β ^ (p - 1) ≡ ufp β n * β ^ (p - 1) =
    omega (arith, ulp_ufp ok (n * β ^ (p - 1)) (omega (arith, mul-le-mul_right (β ^ (p - 1)) h)), ufp_shift ok.base n (p - 1)) in
    le_antisymm (le_of_mul-le-mul_right (omega (arith, same)) lead) (le_of_mul-le-mul_right (omega (arith, same)) lead)

-- ---- the product with β ^ (p - 1): exact, or refused where it is above the greatest number
pub data Scaled (f : Format) (r : Given Number) (m : ℕ) : Type 0 where
  within : Line f r (pos m) → m ≤ greatest f → Scaled f r m
  beyond : r ≡ refused 5 → greatest f < m → Scaled f r m

scaled_by : {f : Format} {d : Direction} {N : ℤ} {D : ℕ} {r : Given Number} {m : ℕ} → Outcome f d N D r → round_z f.base f.digits d N D ≡ pos m → Scaled f r m
scaled_by (given {x} g) e = within (record { number = x; is = refl; has = record { number = g.member; is = g.value ∙ e } }) (omega (arith, g.within, ap nat_abs e))
scaled_by (too_large l) e = beyond refl (omega (arith, ap nat_abs e))

module _ {f : Format} (a : Admitted f) (o : Lead f) where
  pub lead_has : Has f (lead f) (pos (f.base ^ lead_place f))
  lead_has = number_has a (wide_pow (positional a) (lead_place f)) (lead_most a o) refl

  pub scaled : (d : Direction) {x : Number} {n : ℕ} → Has f x (pos n) → Wide f.base f.digits n
      → Scaled f (rounded_product f d x (lead f)) (n * f.base ^ (f.digits - 1))
  unfolding rounded_product value product
  scaled d {x} {n} h w =
      let unit : ℕ = f.base ^ above_zero f.emin in
      let plus : (lead f).negative ≡ false = has_plus a lead_has (pow_pos a.base_low (lead_place f)) in
      let size : magnitude f x * magnitude f (lead f) * unit ≡ magnitude f x * (f.base ^ (f.digits - 1) * one f) =
      omega (arith, ap (λ (m : ℕ). magnitude f x * m) (ap (λ (m : ℕ). m * unit) (has_size lead_has) ∙ lead_unit a o)) in
      let same : signed (xor x.negative (lead f).negative) (magnitude f x * magnitude f (lead f) * unit) ≡ value f x *ℤ pos (f.base ^ (f.digits - 1) * one f) =
      ap₂ (λ (s : Bool) (m : ℕ). signed (xor x.negative s) m) plus size ∙ sym (signed_times x.negative false _ _) in
      scaled_by (rounded_outcome a d _ _ (pow_pos a.base_low (below_zero f.emin)))
      (ap (λ (i : ℤ). round_z f.base f.digits d i (one f)) (same ∙ ap (λ (i : ℤ). i *ℤ pos (f.base ^ (f.digits - 1) * one f)) h.is)
      ∙ product_exact (positional a) d (one f) n (f.base ^ (f.digits - 1) * one f) (n * f.base ^ (f.digits - 1)) (one_positive a) (omega arith) (wide_scaled (f.digits - 1) w))

-- ---- the successor and the difference
has_wide : {f : Format} → Admitted f → {x : Number} {n : ℕ} → Has f x (pos n) → Wide f.base f.digits n
has_wide {f} a {x} h = subst (Wide f.base f.digits) (has_size h) (member_wide a (members x a h.number))

-- what is given is not refused
unlike : {y : Number} {k : ℕ} → gives y ≡ refused k → ⊥
unlike e = let z : ◌≡◌ {A = ℕ} 0 1 = cc in omega arith

same_given : {y z : Number} → gives y ≡ gives z → y ≡ z
same_given e = cc

positive : (n t : ℕ) → 1 ≤ n * t → 1 ≤ n
positive zero t h = absurd (omega (arith, zero-mul t))
positive (suc n) t h = omega arith

-- the successor of a number that is not below zero
successor_delivered : {f : Format} → Admitted f → {x : Number} {n : ℕ} → Has f x (pos n) → successor_of f x ≡ delivered f false (upper f.base f.digits (suc n))
unfolding successor_of
successor_delivered {f} a {x} {n} h =
    one_checked a (members x a h.number)
    ∙ ap (delivered_z f x.negative) (ap (successor f.base f.digits) h.is ∙ successor_pos (positional a) n)
    ∙ sym (delivered_signed f x.negative false _ (λ z. absurd (omega (arith, le_upper (positional a) (suc n)))))

module _ {f : Format} (a : Admitted f) {x : Number} {n : ℕ} (h : Has f x (pos n)) (some : 1 ≤ n) (less : n < greatest f) where
  own : Wide f.base f.digits n
  own = has_wide a h

  abbrev next : ℕ
  next = n + ulp f.base f.digits n

  next_is : upper f.base f.digits (suc n) ≡ next
  next_is = ap (upper f.base f.digits) (sym (add-one n)) ∙ successor_ulp (positional a) own some

  next_wide : Wide f.base f.digits next
  next_wide = subst (Wide f.base f.digits) next_is (upper_wide (positional a) (suc n))

  next_most : next ≤ greatest f
  next_most = successor_most (positional a) own some (greatest_wide a) less

  next_line : Line f (successor_of f x) (pos next)
  unfolding delivered
  next_line =
      record {
        number = number f false next;
        is = successor_delivered a h ∙ ap (delivered f false) next_is ∙ unless_passed _ _ (le-leb _ _ next_most);
        has = number_has a next_wide next_most refl;
      }

  pub gap_above_line : (d : Direction) → Line f (gap_above f d x) (pos (ulp f.base f.digits n))
  unfolding gap_above
  gap_above_line d =
      rw next_line.is
      (difference_line a d next_line.has h (difference_exact (positional a) d next n (ulp f.base f.digits n) refl (ulp_wide (positional a) n)) (omega (arith, next_most)))

-- ---- outside the premise: the greatest number has no successor, and that of zero is subrealmin, while ulp(0) is 0
module _ {f : Format} (a : Admitted f) {x : Number} (d : Direction) where
  pub greatest_refused : Has f x (pos (greatest f)) → gap_above f d x ≡ refused 5
  unfolding gap_above delivered
  greatest_refused h =
      rw (successor_delivered a h ∙ unless_failed _ _ (lt-leb (upper f.base f.digits (suc (greatest f))) (greatest f) (omega (arith, le_upper (positional a) (suc (greatest f))))))

  pub zero_gap : Has f x (pos 0) → Line f (gap_above f d x) (pos 1)
  unfolding gap_above delivered
  zero_gap h =
      let least = subrealmin_has a in
      let w = has_wide a least in
      rw (successor_delivered a h ∙ ap (delivered f false) (upper_exact (positional a) 1 w) ∙ unless_passed _ _ (le-leb _ _ (one_greatest a)))
      (difference_line a d least h (difference_exact (positional a) d 1 0 1 refl w) (one_greatest a))

-- ---- figure 6
pub figure6_line : {f : Format} → Admitted f → Lead f → (d : Direction) {x : Number} {n : ℕ} → Has f x (pos n) → 1 ≤ n → n * f.base ^ (f.digits - 1) < greatest f
    → Line f (figure6 f d x) (pos (ufp f.base n))
unfolding figure6
figure6_line {f} a o d {x} {n} h some less = by (scaled a o d h (has_wide a h))
  where
    by : Scaled f (rounded_product f d x (lead f)) (n * f.base ^ (f.digits - 1)) → Line f (figure6 f d x) (pos (ufp f.base n))
    by (within l m) =
        rw l.is
        (subst (λ (u : ℕ). Line f (gap_above f d l.number) (pos u)) (ulp_scaled (positional a) some)
        (gap_above_line a l.has (mul-pos some (pow_pos a.base_low (f.digits - 1))) less d))
    by (beyond e m) = absurd (omega arith)

-- ---- as the code joins their lines
module _ (f : Format) (x : Number) where
  pub successor_member : Admitted f → Member f x → {y : Number} → successor_of f x ≡ gives y → member f y ≡ true
  successor_member a i {y} e = ⊎_elim (λ g. subst (λ (z : Number). member f z ≡ true) (same_given (sym g.1 ∙ e)) g.2.number) (λ g. absurd (unlike (sym e ∙ g.0))) (successor_cases a i)

same_tests : (t u : Bool) → (t ≡ true → u ≡ true) → (u ≡ true → t ≡ true) → t ≡ u
same_tests true u h k = sym (h refl)
same_tests false true h k = k refl
same_tests false false h k = refl

module _ {f : Format} (a : Admitted f) (x : Number) (m : member f x ≡ true) (plus : x.negative ≡ false) (kept : lead_premise f ≡ true) (d : Direction) where
  size : Has f x (pos (magnitude f x))
  unfolding value
  size = record { number = m; is = ap (λ (s : Bool). signed s (magnitude f x)) plus }

  cases : Scaled f (rounded_product f d x (lead f)) (magnitude f x * f.base ^ (f.digits - 1))
  cases = scaled a (led a kept) d size (has_wide a size)

  -- a product that is refused is above the greatest number
  pub scaled_refused : {n : ℕ} → rounded_product f d x (lead f) ≡ refused n → (g : Given Number) → refused 8 ≡ unless (scaled_premise f x) (refused 8) g
  scaled_refused e g = sym (unless_failed _ _ (sym (refuted (λ t. by t cases))))
    where
      by : scaled_premise f x ≡ true → Scaled f (rounded_product f d x (lead f)) (magnitude f x * f.base ^ (f.digits - 1)) → ⊥
      by t (within l k) = unlike (sym l.is ∙ e)
      by t (beyond k l) = omega (arith, scaled_less f x t)

  module _ {y : Number} (e : rounded_product f d x (lead f) ≡ gives y) where
    record Inside : Type 0 where
      has : Has f y (pos (magnitude f x * f.base ^ (f.digits - 1)))
      most : magnitude f x * f.base ^ (f.digits - 1) ≤ greatest f

    inside : Inside
    inside = by cases
      where
        by : Scaled f (rounded_product f d x (lead f)) (magnitude f x * f.base ^ (f.digits - 1)) → Inside
        by (within l k) =
            record { has = subst (λ (z : Number). Has f z (pos (magnitude f x * f.base ^ (f.digits - 1)))) (same_given (sym l.is ∙ e)) l.has; most = k }
        by (beyond k l) = absurd (unlike (sym e ∙ k))

    -- the premise of figure 6 is that of figure 3 for the product
    premise_same : next_premise f y ≡ scaled_premise f x
    premise_same =
        let lead = pow_pos a.base_low (f.digits - 1) in
        same_tests _ _
        (λ t. scaled_made f x kept (positive (magnitude f x) (f.base ^ (f.digits - 1)) (omega (arith, next_some f y t, has_size inside.has)))
        (omega (arith, next_less f y (omega (arith, inside.most, has_size inside.has)) t, has_size inside.has)))
        (λ t.
        let some : 1 ≤ magnitude f y = subst (λ (n : ℕ). 1 ≤ n) (sym (has_size inside.has)) (mul-pos (scaled_some f x t) lead) in
        sym (next_by f y some (omega (arith, inside.most, has_size inside.has))) ∙ lt-ltb (magnitude f y) (greatest f) (omega (arith, scaled_less f x t, has_size inside.has)))

    pub scaled_answers : {r : Given Number} → r ≡ unless (next_premise f y) (refused 8) (gap_above f d y) → r ≡ unless (scaled_premise f x) (refused 8) (figure6 f d x)
    unfolding figure6
    scaled_answers h = h ∙ rw (premise_same, e)
