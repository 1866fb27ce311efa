-- The order of numbers is the order of their values: first by sign, then by exponent, then by significand.
use Rattle.theory.proofs.Prelude.{ℕ, ◌≤◌, ◌<◌, ◌+◌, ◌^◌, ◌*◌, ◌-◌, true, false, Bool, ◌≢◌, ◌≡◌, refl, ap₂, mul-pos, mul-lt-mul_of_pos_right, pow-succ', mul-le-mul, arith, ltb, ℤ, pos, ◌-ℤ◌, neg_ℤ, lt_z, ◌<ℤ◌, le-ltb, lt-ltb, ltb-true, ltb-false}
use Rattle.theory.specs.Signed.{signed}
use Rattle.theory.proofs.Integers.{above, below, neg_above, neg_below, diff_parts, size_parts, parts_eq, parts_lt, lt_parts}
use Rattle.theory.proofs.Powers.{pow_pos, pow_pred, pow_mono}
use Rattle.number.proofs.Prelude.{Format, Admitted, place_of, magnitude, Member}
use Rattle.number.specs.declared.Number.{Number}
use Rattle.format.proofs.Signed.{Upto, Under, apart, lt_true, lt_false, make_lt, make_ge}
use Rattle.std.specs.declared.cmp.Ordering.{Ordering}
use Rattle.std.specs.declared.cmp.Ordering.TheVariants.{Less, Equal, Greater}
use Rattle.number.specs.Order.{ordered, order_n, order_z}

-- digits of a higher place outweigh all below
outweighed : (β q m n j k : ℕ) → 2 ≤ β → m < β * β ^ q → β ^ q ≤ n → j < k → m * β ^ j < n * β ^ k
outweighed β q m n j k base small least h =
    let under : m * β ^ j < β * β ^ q * β ^ j = mul-lt-mul_of_pos_right small (pow_pos base j) in
    let over : β ^ q * (β * β ^ j) ≤ n * β ^ k = rw (← pow-succ' β j) (mul-le-mul least (pow_mono base h)) in
    omega arith

module _ {f : Format} {a b : Number} (ok : Admitted f) (i : Member f a) (j : Member f b) where
  -- places are as far apart as exponents
  places : above a.exponent + below b.exponent + place_of f b ≡ above b.exponent + below a.exponent + place_of f a
  places =
      let d = diff_parts a.exponent f.emin in
      let e = diff_parts b.exponent f.emin in
      omega
      (arith, size_parts (a.exponent -ℤ f.emin), size_parts (b.exponent -ℤ f.emin), apart (a.exponent -ℤ f.emin), apart (b.exponent -ℤ f.emin), i.exponent_low, j.exponent_low)

  pub lower_exponent : Under a.exponent b.exponent → magnitude f a < magnitude f b
  unfolding magnitude
  lower_exponent h =
      let least : (b.significand < f.base ^ (f.digits - 1) → ⊥) = λ s. omega (arith, j.small_place s, i.exponent_low) in
      outweighed f.base (f.digits - 1) a.significand b.significand (place_of f a) (place_of f b) ok.base_low
      (omega (arith, pow_pred f.base ok.digits_low, i.significand_high)) (omega arith) (omega (arith, places))

  level : Upto a.exponent b.exponent → Upto b.exponent a.exponent → place_of f a ≡ place_of f b
  level h g = omega (arith, places)

  module _ (h : Upto a.exponent b.exponent) (g : Upto b.exponent a.exponent) where
    pub less_significand : a.significand < b.significand → magnitude f a < magnitude f b
    unfolding magnitude
    less_significand l = rw (level h g) (mul-lt-mul_of_pos_right l (pow_pos ok.base_low (place_of f b)))

    pub same_significand : a.significand ≡ b.significand → magnitude f a ≡ magnitude f b
    unfolding magnitude
    same_significand e = ap₂ (λ (m k : ℕ). m * f.base ^ k) e (level h g)

-- ---- what is answered
pub is_less : {m n : ℕ} → m < n → Less ≡ order_n m n
unfolding order_n
is_less {m} {n} h = rw (lt-ltb m n h)

pub is_greater : {m n : ℕ} → n < m → Greater ≡ order_n m n
unfolding order_n
is_greater {m} {n} h = rw (le-ltb m n (omega arith), lt-ltb n m h)

pub is_equal : {m n : ℕ} → m ≡ n → Equal ≡ order_n m n
unfolding order_n
is_equal {m} {n} h = rw (le-ltb m n (omega arith), le-ltb n m (omega arith))

-- ---- signs
turned : (m n : ℕ) → lt_z (neg_ℤ (pos m)) (neg_ℤ (pos n)) ≡ ltb n m
turned m n = go (ltb n m) refl
  where
    go : (t : Bool) → ltb n m ≡ t → lt_z (neg_ℤ (pos m)) (neg_ℤ (pos n)) ≡ t
    go true e = make_lt (neg_ℤ (pos m)) (neg_ℤ (pos n)) (omega (arith, neg_above (pos m), neg_above (pos n), neg_below (pos m), neg_below (pos n), ltb-true n m e))
    go false e = make_ge (neg_ℤ (pos m)) (neg_ℤ (pos n)) (omega (arith, neg_above (pos m), neg_above (pos n), neg_below (pos m), neg_below (pos n), ltb-false n m e))

-- the order of two signed magnitudes, where not both are zero
pub both_negative : (m n : ℕ) → order_n n m ≡ order_z (signed true m) (signed true n)
unfolding order_n order_z
both_negative m n = rw (turned m n, turned n m)

pub both_positive : (m n : ℕ) → order_n m n ≡ order_z (signed false m) (signed false n)
unfolding order_n order_z
both_positive m n = refl

pub negative_less : (m n : ℕ) → 1 ≤ m + n → Less ≡ order_z (signed true m) (signed false n)
unfolding order_z
negative_less m n h = rw (make_lt (neg_ℤ (pos m)) (pos n) (omega (arith, neg_above (pos m), neg_below (pos m))))

pub positive_greater : (m n : ℕ) → 1 ≤ m + n → Greater ≡ order_z (signed false m) (signed true n)
unfolding order_z
positive_greater m n h =
    rw
    (make_ge (pos m) (neg_ℤ (pos n)) (omega (arith, neg_above (pos n), neg_below (pos n))), make_lt (neg_ℤ (pos n)) (pos m) (omega (arith, neg_above (pos n), neg_below (pos n))))

-- and where both are
pub both_zero : (s t : Bool) (m n : ℕ) → m ≡ 0 → n ≡ 0 → Equal ≡ order_z (signed s m) (signed t n)
unfolding order_z
both_zero true true m n e g = rw (e, g)
both_zero true false m n e g = rw (e, g)
both_zero false true m n e g = rw (e, g)
both_zero false false m n e g = rw (e, g)

-- the magnitude by the significand
pub no_size : (f : Format) (x : Number) → x.significand ≡ 0 → magnitude f x ≡ 0
unfolding magnitude
no_size f x h = rw h (omega arith)

pub some_size : {f : Format} → Admitted f → (x : Number) → x.significand ≢ 0 → 1 ≤ magnitude f x
unfolding magnitude
some_size {f} a x h = mul-pos (omega arith) (pow_pos a.base_low (place_of f x))

-- ---- the order of values is an order, and compare answers it
pub less_when : {v w : ℤ} → v <ℤ w → order_z v w ≡ Less
unfolding order_z
less_when {v} {w} h = rw (make_lt v w (lt_parts h))

pub greater_when : {v w : ℤ} → w <ℤ v → order_z v w ≡ Greater
unfolding order_z
greater_when {v} {w} h = rw (make_ge v w (let l = lt_parts h in omega arith), make_lt w v (lt_parts h))

-- ---- what an answer says
record Says (lt gt : Bool) (r : Ordering) : Type 0 where
  less : r ≡ Less → lt ≡ true
  equal : r ≡ Equal → (lt ≡ false) × (gt ≡ false)
  greater : r ≡ Greater → gt ≡ true

says : (lt gt : Bool) → Says lt gt (ordered lt gt)
says true gt = record { less = λ h. refl; equal = λ h. (cc, cc); greater = λ h. cc }
says false true = record { less = λ h. cc; equal = λ h. (refl, cc); greater = λ h. refl }
says false false = record { less = λ h. cc; equal = λ h. (refl, refl); greater = λ h. cc }

pub less_says : {v w : ℤ} → order_z v w ≡ Less → v <ℤ w
unfolding order_z
less_says {v} {w} h = parts_lt v w (lt_true v w ((says (lt_z v w) (lt_z w v)).less h))

pub equal_says : {v w : ℤ} → order_z v w ≡ Equal → v ≡ w
unfolding order_z
equal_says {v} {w} h =
    let e = (says (lt_z v w) (lt_z w v)).equal h in
    parts_eq v w (omega (arith, lt_false v w e.0, lt_false w v e.1))

pub greater_says : {v w : ℤ} → order_z v w ≡ Greater → w <ℤ v
unfolding order_z
greater_says {v} {w} h = parts_lt w v (lt_true w v ((says (lt_z v w) (lt_z w v)).greater h))

-- of two magnitudes
pub size_less_says : {m n : ℕ} → order_n m n ≡ Less → m < n
unfolding order_n
size_less_says {m} {n} h = ltb-true m n ((says (ltb m n) (ltb n m)).less h)

pub size_equal_says : {m n : ℕ} → order_n m n ≡ Equal → n ≤ m
unfolding order_n
size_equal_says {m} {n} h = ltb-false m n ((says (ltb m n) (ltb n m)).equal h).0

pub size_greater_says : {m n : ℕ} → order_n m n ≡ Greater → n < m
unfolding order_n
size_greater_says {m} {n} h = ltb-true n m ((says (ltb m n) (ltb n m)).greater h)
