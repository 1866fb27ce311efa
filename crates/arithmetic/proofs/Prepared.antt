-- From a prepared format to the wide format and back: a number of the format is an operand there, and a result that comes back
-- is the exact value, rounded and delivered.
use Rattle.theory.proofs.Prelude.{w32, SFits, to_z, of_z, ℕ, ◌≤◌, ◌<◌, ◌^◌, ◌*◌, suc, zero, true, false, Bool, cond, not, xor, ◌∙◌, ap, ◌≡◌, sym, refl, ap₂, pow-zero, zero-mul, mul-pos, arith, eqb, ℤ, pos, ◌+ℤ◌, nat_abs, negsuc, neg_ℤ, ◌*ℤ◌, leb, ne_eqb, eq-eqb}
use Rattle.arithmetic.proofs.Prelude.{back, Direction, mark, unless, signed, is_negative, round_z, pow_pos, Format, Prepared, Given, gives, refused, refused_at, Number, Usable, above_zero, below_zero, member, place_of, magnitude, value, greatest, number, delivered, members, member_made, known, Wide, Rounding, rounded, rounded_z, rounded_product, rounded_quotient, rounded_fraction, Rounded, above, below, own_sign, scale_signed, member_canonical, member_highest, highest_most, delivered_same, number_of, number_value, signed_member, negated_value}
use Rattle.theory.specs.declared.Mark.{Mark}
use Rattle.theory.specs.Signed.{sign_or}
use Rattle.theory.specs.Round.{round}
use Rattle.theory.proofs.Integers.{no_sign, either_sign}
use Rattle.theory.proofs.Wide.{wide_pow}
use Rattle.theory.proofs.Round.{round_exact}
use Rattle.theory.proofs.Monotone.{round_mono}
use Rattle.theory.proofs.Signed.{round_z_signed}
use Rattle.theory.specs.Wide.{Canonical, Wide as WideN}
use Rattle.format.specs.declared.Scale.{Scale}
use Rattle.format.specs.Formats.{Scaled, scale_of}
use Rattle.format.proofs.Signed.{apart}
use Rattle.format.proofs.Formats.{Admitted, positional, scaled}
use Rattle.number.specs.Signs.{with_sign}
use Rattle.rounding.specs.Cut.{Rounds}
use Rattle.wide.specs.Operand.{Bounded, size_of, value_of}
use Rattle.wide.specs.Sum.{RoundsZ}
use Rattle.wide.proofs.Results.{sum_value}
use Rattle.wide.proofs.Signs.{signed_times}
use Rattle.wide.proofs.Products.{product_value, shifted_value}
use Rattle.arithmetic.specs.declared.operands.Powers.{Powers}
use Rattle.arithmetic.specs.Operands.{wide_of, product_powers, quotient_powers, record_powers, zero_signed}
use Rattle.arithmetic.specs.Operations.{zero_sign, rounded_record}
use Rattle.arithmetic.specs.Quotients.{without_digits, with_digits}
use Rattle.arithmetic.specs.Marked.{without_mark, with_mark, marked, marked_sum, marked_product, marked_quotient, marked_fraction, marked_record}

-- ---- the parts of Emin
pub parts_above : (z : ℤ) → above_zero z ≡ above z
parts_above (pos n) = refl
parts_above (negsuc n) = refl

pub parts_below : (z : ℤ) → below_zero z ≡ below z
parts_below (pos n) = refl
parts_below (negsuc n) = refl

pub no_magnitude : (f : Format) (x : Number) → x.significand ≡ 0 → magnitude f x ≡ 0
unfolding magnitude
no_magnitude f x h = rw h (omega arith)

module _ {f : Format} (a : Admitted f) where
  pub above_most : above_zero f.emin < 2 ^ 28
  above_most = let r = a.range in omega (arith, parts_above f.emin, apart f.emin)

  pub below_most : below_zero f.emin < 2 ^ 28
  below_most = let r = a.range in omega (arith, parts_below f.emin, apart f.emin)

-- as the code has them, in the bounds of the wide format
pub record Part (part n : ℕ) : Type 0 where
  pub is : n ≡ part
  pub small : n < 2 ^ 28

module _ {f : Format} (a : Admitted f) (h : SFits w32 f.emin) {n : ℕ} where
  pub above_part : n ≡ above_zero (to_z w32 (of_z w32 f.emin)) → Part (above_zero f.emin) n
  above_part k = let e : n ≡ above_zero f.emin = k ∙ rw (back h) in record { is = e; small = rw e (above_most a) }

  pub below_part : n ≡ below_zero (to_z w32 (of_z w32 f.emin)) → Part (below_zero f.emin) n
  below_part k = let e : n ≡ below_zero f.emin = k ∙ rw (back h) in record { is = e; small = rw e (below_most a) }

module _ {f : Format} (a : Admitted f) where
  -- ---- a divisor, zero or not
  some_magnitude : (b : Number) → 1 ≤ b.significand → 1 ≤ magnitude f b
  unfolding magnitude
  some_magnitude b h = mul-pos h (pow_pos a.base_low (place_of f b))

  pub no_significand_law : (b : Number) → magnitude f b ≡ 0 → b.significand ≡ 0
  no_significand_law b e = by b.significand refl
    where
      by : (m : ℕ) → b.significand ≡ m → b.significand ≡ 0
      by zero h = h
      by (suc m) h = absurd (omega (arith, some_magnitude b (omega arith)))

  pub divisor_positive : (b : Number) → 1 ≤ b.significand → 1 ≤ magnitude f b * f.base ^ above_zero f.emin
  divisor_positive b h = mul-pos (some_magnitude b h) (pow_pos a.base_low (above_zero f.emin))

  pub divisor_some : (d : Direction) (x y : Number) → 1 ≤ y.significand
      → rounded_quotient f d x y
      ≡ rounded f d (xor x.negative y.negative) (magnitude f x * f.base ^ below_zero f.emin) (magnitude f y * f.base ^ above_zero f.emin)
  unfolding rounded_quotient
  divisor_some d x y h = rw (ne_eqb (magnitude f y) 0 (λ e. omega (arith, some_magnitude y h)))

pub divisor_none : (f : Format) (d : Direction) (x y : Number) → y.significand ≡ 0 → rounded_quotient f d x y ≡ refused 4
unfolding rounded_quotient
divisor_none f d x y h = rw (eq-eqb (magnitude f y) 0 (no_magnitude f y h))

-- ---- a denominator, zero or not
pub denominator_some : (f : Format) (d : Direction) (n : ℤ) {m : ℕ} → 1 ≤ m
    → rounded_fraction f d n m ≡ rounded f d (is_negative n) (nat_abs n * f.base ^ below_zero f.emin) (m * f.base ^ above_zero f.emin)
unfolding rounded_fraction
denominator_some f d n {m} h = rw (ne_eqb m 0 (λ e. omega arith))

pub denominator_none : (f : Format) (d : Direction) (n : ℤ) {m : ℕ} → m ≡ 0 → rounded_fraction f d n m ≡ refused 4
unfolding rounded_fraction
denominator_none f d n {m} h = rw (eq-eqb m 0 h)

-- ---- a number with its sign turned
module _ {f : Format} (ok : Admitted f) (b : Number) {y : Number} (m : member f b ≡ true) (e : y ≡ with_sign b (not b.negative)) where
  turned : y ≡ number f (not b.negative) (magnitude f b)
  turned = e ∙ sym (number_of ok (members b ok m) (not b.negative))

  pub turned_member : member f y ≡ true
  turned_member = rw turned (member_made _ ok (signed_member ok (members b ok m) (not b.negative)))

  pub turned_value : value f y ≡ neg_ℤ (value f b)
  turned_value = rw turned (negated_value ok (members b ok m))

-- ---- exact results with their signs
-- a × b × β ^ Emin
pub product_signed : (f : Format) (a b : Number) → signed (xor a.negative b.negative) (magnitude f a * magnitude f b * f.base ^ above_zero f.emin)
    ≡ value f a *ℤ value f b *ℤ pos (f.base ^ above_zero f.emin)
unfolding value
product_signed f a b =
    sym
    (ap (λ (z : ℤ). z *ℤ pos (f.base ^ above_zero f.emin)) (signed_times a.negative b.negative (magnitude f a) (magnitude f b))
    ∙ scale_signed (xor a.negative b.negative) (magnitude f a * magnitude f b) (f.base ^ above_zero f.emin))

-- n / β ^ Emin
pub fraction_signed : (f : Format) (n : ℤ) → signed (is_negative n) (nat_abs n * f.base ^ below_zero f.emin) ≡ n *ℤ pos (f.base ^ below_zero f.emin)
fraction_signed f n =
    sym (scale_signed (is_negative n) (nat_abs n) (f.base ^ below_zero f.emin)) ∙ ap (λ (z : ℤ). z *ℤ pos (f.base ^ below_zero f.emin)) (own_sign n)

-- ---- what is delivered, with its mark
pub marked_number : (f : Format) (N : ℤ) (D : ℕ) (g : Given Number) → without_mark (marked f N D g) ≡ g
unfolding marked
marked_number f N D (gives x) = refl
marked_number f N D (refused n) = refl
marked_number f N D (refused_at n i) = refl

pub digits_left : (n : ℕ) (g : Given Rounded) → without_digits (with_digits n g) ≡ g
digits_left n (gives r) = refl
digits_left n (refused k) = refl
digits_left n (refused_at k i) = refl

-- a mark that is true of the magnitude is that of the number
mark_delivered : {f : Format} → Admitted f → (negative : Bool) {n : ℕ} → WideN f.base f.digits n → (N : ℤ) (D : ℕ) {t : Mark} → t ≡ mark (signed negative n) N D
    → with_mark t (delivered f negative n) ≡ marked f N D (delivered f negative n)
unfolding delivered marked unless
mark_delivered {f} a negative {n} w N D {t} e = by (leb n (greatest f))
  where
    by : (b : Bool) → with_mark t (unless b (refused 5) (gives (number f negative n))) ≡ marked f N D (unless b (refused 5) (gives (number f negative n)))
    by true = ap (λ (m : Mark). gives (record { number = number f negative n; mark = m })) (e ∙ ap (λ (v : ℤ). mark v N D) (sym (number_value a w negative)))
    by false = refl

-- the format delivers the wide result r as what is given
pub record Delivers (f : Format) (r : Rounding) (g : Given Rounded) : Type 0 where
  pub canonical : Canonical f.base f.digits r.wide.significand r.wide.place
  pub is : with_mark r.mark (delivered f r.wide.negative (size_of f.base r.wide)) ≡ g

delivers : {f : Format} → Admitted f → {r : Rounding} → Canonical f.base f.digits r.wide.significand r.wide.place
    → (N : ℤ) (D : ℕ) → r.mark ≡ mark (value_of f.base r.wide) N D → {g : Given Number} → delivered f r.wide.negative (size_of f.base r.wide) ≡ g
    → Delivers f r (marked f N D g)
delivers {f} a {r} c N D m e =
    record {
      canonical = c;
      is = mark_delivered a r.wide.negative (record { significand = r.wide.significand; exponent = r.wide.place; small = c.small; is = refl }) N D m
          ∙ ap (marked f N D) e;
    }

module _ {q : Prepared} (u : Usable q) where
  pub scale_is : q.scale ≡ scale_of q.format
  scale_is = ap (λ (r : Prepared). r.scale) u.is

  pub scale_scaled : Scaled q.scale
  scale_scaled = rw scale_is (scaled (known u).admits)

  pub bounded : (a : Number) {x : Wide} → member q.format a ≡ true → x ≡ wide_of q.format a → Bounded q.scale x
  bounded a m e =
      let ok = (known u).admits in
      let i = members a ok m in
      rw (e, scale_is) (record { canonical = member_canonical ok i; place_most = omega (arith, member_highest ok i, highest_most ok) })

  -- ---- a result of the wide format, delivered
  rounds_delivers : {d : Direction} {negative : Bool} {N D : ℕ} {r : Rounding} → Rounds q.format.base q.format.digits d negative N D r
      → Delivers q.format r (marked q.format (signed negative N) D (rounded q.format d negative N D))
  unfolding rounded
  rounds_delivers {negative = negative} {N = N} {D = D} {r = r} h =
      delivers (known u).admits h.canonical (signed negative N) D
      (h.marked ∙ ap (λ (s : Bool). mark (signed s (size_of q.format.base r.wide)) (signed negative N) D) (sym h.sign))
      (ap₂ (delivered q.format) h.sign h.size)

  -- a whole number other than 0 is not rounded to zero
  rounds_some : (d : Direction) (s : Bool) (n : ℕ) → 1 ≤ n → 1 ≤ round q.format.base q.format.digits d s n 1
  rounds_some d s n h =
      let ok = positional (known u).admits in
      let one = round_exact ok 1 {D = 1} (omega arith) d s 1 (rw (← pow-zero q.format.base) (wide_pow ok 0)) (omega arith) in
      omega (arith, one, round_mono ok d s {N = 1} {D = 1} {N' = n} {D' = 1} (record { divisor = omega arith; divisor' = omega arith; cross = omega arith }))

  no_significand_of : (x : Wide) → size_of q.format.base x ≡ 0 → x.significand ≡ 0
  no_significand_of x e = by x.significand refl
    where
      by : (m : ℕ) → x.significand ≡ m → x.significand ≡ 0
      by zero h = h
      by (suc m) h = absurd (let k : 1 ≤ x.significand = omega arith in omega (arith, mul-pos k (pow_pos (known u).admits.base_low x.place)))

  -- a sum whose zero has the sign that is handed over
  module _ {d : Direction} (none : Bool) (z : ℤ) {r : Rounding} (h : RoundsZ q.format.base q.format.digits d z r) where
    same_value : value_of q.format.base (zero_signed none r).wide ≡ value_of q.format.base r.wide
    same_value = by r.wide.significand
      where
        by : (m : ℕ) → signed (cond (eqb m 0) none r.wide.negative) (m * q.format.base ^ r.wide.place) ≡ signed r.wide.negative (m * q.format.base ^ r.wide.place)
        by zero = rw (zero-mul (q.format.base ^ r.wide.place)) (no_sign none r.wide.negative)
        by (suc m) = rw (ne_eqb (suc m) 0 (λ k. omega arith))

    rounded_value : value_of q.format.base (zero_signed none r).wide ≡ signed (sign_or none z) (round q.format.base q.format.digits d (sign_or none z) (nat_abs z) 1)
    rounded_value =
        let ok = positional (known u).admits in
        same_value ∙ sum_value ok z h ∙ ap (λ (v : ℤ). round_z q.format.base q.format.digits d v 1) (sym (either_sign none z)) ∙ round_z_signed ok (omega arith) d (sign_or none z) (nat_abs z)

    zero_signed_law : size_of q.format.base r.wide ≡ 0 → (zero_signed none r).wide.negative ≡ sign_or none z
    zero_signed_law e = rw (eq-eqb r.wide.significand 0 (no_significand_of r.wide e)) (by z refl)
      where
        some : {n : ℕ} → nat_abs z ≡ suc n → ⊥
        some k = omega (arith, h.rounds.size, rounds_some d r.wide.negative (nat_abs z) (omega arith))

        by : (v : ℤ) → z ≡ v → none ≡ sign_or none v
        by (pos zero) k = refl
        by (pos (suc n)) k = absurd (some (ap nat_abs k))
        by (negsuc n) k = absurd (some (ap nat_abs k))

    sum_delivers : Delivers q.format (zero_signed none r) (marked q.format z 1 (rounded_z q.format d none z))
    unfolding rounded_z rounded
    sum_delivers =
        delivers (known u).admits h.rounds.canonical z 1
        (h.rounds.marked ∙ ap₂ (λ (v w : ℤ). mark v w 1) (sym same_value) (sym h.sign))
        (delivered_same q.format (zero_signed none r).wide.negative (sign_or none z) (size_of q.format.base r.wide) _ rounded_value zero_signed_law)

  module _ (d : Direction) (a b : Number) {x y : Wide} (ex : x ≡ wide_of q.format a) (ey : y ≡ wide_of q.format b) where
    pub add_delivers : {r : Rounding} → RoundsZ q.scale.base q.scale.digits d (value_of q.scale.base x +ℤ value_of q.scale.base y) r
        → Delivers q.format (zero_signed (zero_sign d a.negative b.negative) r) (marked_sum q.format d a b)
    unfolding value magnitude
    add_delivers h = sum_delivers _ _ (rw (ex, ey, scale_is) at h)

  module _ (d : Direction) (a b : Number) {w : Powers} {r : Rounding} where
    pub product_delivers : w ≡ product_powers q.format a b
        → Rounds q.scale.base q.scale.digits d (xor a.negative b.negative) (a.significand * b.significand * q.scale.base ^ w.up) (q.scale.base ^ w.down) r
        → Delivers q.format r (marked_product q.format d a b)
    unfolding rounded_product magnitude
    product_delivers e h =
        let β : ℕ = q.format.base in
        let place : Number → ℕ = place_of q.format in
        let k = rw (e, scale_is, product_value β a.significand b.significand (place a) (place b) (above_zero q.format.emin)) at h in
        rw (← product_signed q.format a b) (rounds_delivers k)

    pub quotient_delivers : 1 ≤ b.significand → w ≡ quotient_powers q.format a b
        → Rounds q.scale.base q.scale.digits d (xor a.negative b.negative) (a.significand * q.scale.base ^ w.up) (b.significand * q.scale.base ^ w.down) r
        → Delivers q.format r (marked_quotient q.format d a b)
    unfolding magnitude
    quotient_delivers some e h =
        let β : ℕ = q.format.base in
        let place : Number → ℕ = place_of q.format in
        let k = rw (e, scale_is, shifted_value β a.significand (place a) (below_zero q.format.emin), shifted_value β b.significand (place b) (above_zero q.format.emin)) at h in
        rw (divisor_some (known u).admits d a b some) (rounds_delivers k)

  pub significand_small : (a : Number) → member q.format a ≡ true → a.significand < q.scale.bound
  significand_small a m = omega (arith, (members a (known u).admits m).significand_high, ap (λ (s : Scale). s.bound) scale_is)

  pub fraction_delivers : (d : Direction) (n : ℤ) {m up down k : ℕ} {negative : Bool} {r : Rounding} → 1 ≤ m → Part (above_zero q.format.emin) down → Part (below_zero q.format.emin) up → negative ≡ is_negative n → k ≡ nat_abs n
      → Rounds q.scale.base q.scale.digits d negative (k * q.scale.base ^ up) (m * q.scale.base ^ down) r
      → Delivers q.format r (marked_fraction q.format d n m)
  fraction_delivers d n some e g es ek h =
      rw (denominator_some q.format d n some, ← fraction_signed q.format n) (rounds_delivers (rw (es, ek, g.is, e.is, scale_is) at h))

  pub record_delivers : (d : Direction) (x : Number) {w : Powers} {r : Rounding} → w ≡ record_powers q.format x.exponent
      → Rounds q.scale.base q.scale.digits d x.negative (x.significand * q.scale.base ^ w.up) (q.scale.base ^ w.down) r
      → Delivers q.format r (marked_record q.format d x)
  unfolding rounded_record
  record_delivers d x e h = rounds_delivers (rw (e, scale_is) at h)
