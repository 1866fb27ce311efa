-- Within one step: the definition, that nothing lies between, and the code's comparison of significands and places.
use Rattle.theory.proofs.Prelude.{ℕ, ◌≤◌, ◌<◌, ◌+◌, ◌^◌, ◌*◌, ◌-◌, suc, zero, true, false, Bool, ◌&&◌, Bool·beq, ⊎_elim, ◌∙◌, ap, ◌≡◌, sym, refl, ap₂, subst, mul-le-mul, mul-le-mul_right, mul-le-mul_left, pow-zero, pow-succ', le_of_mul-le-mul_right, le_of_mul-le-mul_left, lt_of_not-le, le_of_suc-le-suc, arith, eqb, leb, le_z, ℤ, pos, negsuc, neg_ℤ, ◌<ℤ◌, eqb-true, eq-eqb, le-leb, leb-true}
use native.Mathlib.Nat.{add_comm}
use Rattle.theory.specs.Tests.{◌and◌}
use Rattle.theory.proofs.Words.{Positional, Wide, Canonical, upper, signed, WideZ, successor}
use Rattle.theory.proofs.Powers.{pow_pos, pow_pred, pow_mono, pow_half}
use Rattle.theory.proofs.Wide.{wide_zero, wide_pow}
use Rattle.theory.proofs.Tests.{never, refuted, and_left, and_right, and_made}
use Rattle.theory.proofs.Order.{le_true, make_le}
use Rattle.theory.proofs.Integers.{above, below, le_parts, lt_parts, parts_lt, neg_above, neg_below, size_parts, negate_signed}
use Rattle.theory.proofs.Faithful.{successor_above, successor_pos}
use Rattle.units.specs.Neighbours.{within_step}
use Rattle.units.proofs.Forms.{least_digits}

-- ---- tests
-- two tests that say one thing
pub one_test : {s t : Bool} → (s ≡ true → t ≡ true) → (t ≡ true → s ≡ true) → s ≡ t
one_test {s = true} {t} h k = sym (h refl)
one_test {s = false} {t} h k = refuted (λ e. never (sym (k e)))

and_comm : (s t : Bool) → s and t ≡ t and s
unfolding ◌and◌
and_comm true true = refl
and_comm true false = refl
and_comm false true = refl
and_comm false false = refl

-- the code's `&`
pub code_and : (s t : Bool) → s && t ≡ s and t
unfolding ◌and◌
code_and true t = refl
code_and false t = refl

pub within_turned : (β p : ℕ) (v w : ℤ) → within_step β p v w ≡ within_step β p w v
unfolding within_step
within_turned β p v w = and_comm _ _

module _ {β p : ℕ} (ok : Positional β p) where
  -- ---- on values: no number of the wide format lies between
  pub record Adjacent (v w : ℤ) : Type 0 where
    pub upward : (u : ℤ) → WideZ β p u → v <ℤ u → u <ℤ w → ⊥
    pub downward : (u : ℤ) → WideZ β p u → w <ℤ u → u <ℤ v → ⊥

  pub within_says : (v w : ℤ) → within_step β p v w ≡ true → Adjacent v w
  unfolding within_step
  within_says v w h =
      record {
        upward = λ u k l m. omega (arith, le_true w _ (and_left _ _ h), le_parts ((successor_above ok v).least u k l), lt_parts m);
        downward = λ u k l m. omega (arith, le_true v _ (and_right _ _ h), le_parts ((successor_above ok w).least u k l), lt_parts m);
      }

  pub within_made : (v w : ℤ) → Adjacent v w → within_step β p v w ≡ true
  unfolding within_step
  within_made v w a = and_made (upto v w a.upward) (upto w v a.downward)
    where
      upto : (v w : ℤ) → ((u : ℤ) → WideZ β p u → v <ℤ u → u <ℤ w → ⊥) → le_z w (successor β p v) ≡ true
      upto v w none =
          let s = successor_above ok v in
          make_le w (successor β p v)
          (le_of_suc-le-suc
          (lt_of_not-le
          (λ (l : suc (above (successor β p v) + below w) ≤ above w + below (successor β p v)). none (successor β p v) s.number s.above (parts_lt (successor β p v) w l))))

  -- the signs of both may be turned
  turned : (v w : ℤ) → within_step β p v w ≡ true → within_step β p (neg_ℤ v) (neg_ℤ w) ≡ true
  turned v w h =
      let a = within_says v w h in
      within_made (neg_ℤ v) (neg_ℤ w)
      (record {
        upward = λ u k l m. a.downward (neg_ℤ u) (opposite u k) (raised m) (lowered l);
        downward = λ u k l m. a.upward (neg_ℤ u) (opposite u k) (raised m) (lowered l);
      })
    where
      opposite : (u : ℤ) → WideZ β p u → WideZ β p (neg_ℤ u)
      opposite u k = subst (Wide β p) (omega (arith, size_parts u, size_parts (neg_ℤ u), neg_above u, neg_below u)) k

      lowered : {x y : ℤ} → neg_ℤ x <ℤ y → neg_ℤ y <ℤ x
      lowered {x} {y} l = parts_lt (neg_ℤ y) x (omega (arith, lt_parts l, neg_above x, neg_below x, neg_above y, neg_below y))

      raised : {x y : ℤ} → x <ℤ neg_ℤ y → y <ℤ neg_ℤ x
      raised {x} {y} l = parts_lt y (neg_ℤ x) (omega (arith, lt_parts l, neg_above x, neg_below x, neg_above y, neg_below y))

  -- ---- on magnitudes of one sign
  within_plus : (m n : ℕ) → leb n (upper β p (suc m)) and leb m (upper β p (suc n)) ≡ within_step β p (pos m) (pos n)
  unfolding within_step
  within_plus m n = sym (ap₂ (λ (x y : ℤ). le_z (pos n) x and le_z (pos m) y) (successor_pos ok m) (successor_pos ok n))

  pub within_sizes : (s t : Bool) (m n : ℕ) → Bool·beq s t ≡ true → leb n (upper β p (suc m)) and leb m (upper β p (suc n)) ≡ within_step β p (signed s m) (signed t n)
  within_sizes false false m n h = within_plus m n
  within_sizes true false m n h = absurd (never (sym h))
  within_sizes false true m n h = absurd (never (sym h))
  within_sizes true true m n h =
      within_plus m n
      ∙ one_test (turned (pos m) (pos n))
      (λ h. ap₂ (within_step β p) (sym (negate_signed true m)) (sym (negate_signed true n)) ∙ turned (neg_ℤ (pos m)) (neg_ℤ (pos n)) h)

  -- across zero: one of the two is zero, and the other at most one unit
  across : (m n : ℕ) → leb (m + n) 1 ≡ within_step β p (pos m) (neg_ℤ (pos n))
  across m n =
      one_test
      (λ h. within_made (pos m) (neg_ℤ (pos n))
      (record {
        upward = λ u k l r. omega (arith, lt_parts l, lt_parts r, neg_above (pos n), neg_below (pos n));
        downward = λ u k l r. omega (arith, lt_parts l, lt_parts r, neg_above (pos n), neg_below (pos n), leb-true (m + n) 1 h);
      }))
      (λ h. le-leb (m + n) 1 (le_of_suc-le-suc (lt_of_not-le (λ (l : 2 ≤ m + n). between m n l (within_says (pos m) (neg_ℤ (pos n)) h).downward))))
    where
      unit : Wide β p 1
      unit = subst (Wide β p) (pow-zero β) (wide_pow ok 0)

      between : (m n : ℕ) → 2 ≤ m + n → ((u : ℤ) → WideZ β p u → neg_ℤ (pos n) <ℤ u → u <ℤ pos m → ⊥) → ⊥
      between zero n l none = none (negsuc 0) unit (parts_lt (neg_ℤ (pos n)) (negsuc 0) (omega (arith, neg_above (pos n), neg_below (pos n)))) (parts_lt (negsuc 0) (pos 0) (omega arith))
      between (suc m) zero l none = none (pos 1) unit (parts_lt (pos 0) (pos 1) (omega arith)) (parts_lt (pos 1) (pos (suc m)) (omega arith))
      between (suc m) (suc n) l none = none (pos 0) (wide_zero ok) (parts_lt (negsuc n) (pos 0) (omega arith)) (parts_lt (pos 0) (pos (suc m)) (omega arith))

  pub within_across : (s t : Bool) (m n : ℕ) → Bool·beq s t ≡ false → leb (m + n) 1 ≡ within_step β p (signed s m) (signed t n)
  within_across false true m n h = across m n
  within_across true false m n h = ap (λ (i : ℕ). leb i 1) (add_comm m n) ∙ across n m ∙ within_turned β p (pos n) (neg_ℤ (pos m))
  within_across true true m n h = absurd (never h)
  within_across false false m n h = absurd (never h)

  -- ---- as the code compares: significands m and n at the places k and j
  module _ {m k n j : ℕ} (c : Canonical β p m k) (d : Canonical β p n j) where
    pub below_place : j < k → n * β ^ j ≤ suc m * β ^ k
    below_place h =
        let full : β ^ p ≤ β * m = ⊎_elim (λ e. absurd (omega arith)) (λ l. l) c.normal in
        let most : n * β ^ j ≤ β * m * β ^ (k - 1) = mul-le-mul (omega (arith, d.small)) (pow_mono ok.base (omega arith)) in
        omega (arith, ap (λ (q : ℕ). m * q) (pow_pred β {k = k} (omega arith)))

    pub same_place : j ≡ k → leb n (suc m) ≡ leb (n * β ^ j) (suc m * β ^ k)
    same_place e =
        one_test (λ h. le-leb _ _ (mul-le-mul_right (β ^ k) (leb-true _ _ h)))
        (λ h. le-leb _ _ (le_of_mul-le-mul_right (leb-true (n * β ^ k) (suc m * β ^ k) h) (pow_pos ok.base k)))
        ∙ ap (λ (i : ℕ). leb (n * β ^ i) (suc m * β ^ k)) (sym e)

    pub next_place : j ≡ suc k → (leb n (β ^ (p - 1)) && leb (β ^ p - m) 1) ≡ leb (n * β ^ j) (suc m * β ^ k)
    next_place e = code_and _ _ ∙ one_test made says ∙ ap (λ (i : ℕ). leb (n * β ^ i) (suc m * β ^ k)) (sym e)
      where
        power : n * β ^ suc k ≡ β * n * β ^ k
        power = ap (λ (q : ℕ). n * q) (pow-succ' β k) ∙ omega arith

        made : leb n (β ^ (p - 1)) and leb (β ^ p - m) 1 ≡ true → leb (n * β ^ suc k) (suc m * β ^ k) ≡ true
        made h =
            let least : β * n ≤ β ^ p = rw (pow_pred β ok.digits) (mul-le-mul_left β (leb-true _ _ (and_left _ _ h))) in
            let last : β ^ p - m ≤ 1 = leb-true _ _ (and_right _ _ h) in
            let upto : β * n ≤ suc m = omega arith in
            le-leb (n * β ^ suc k) (suc m * β ^ k) (omega (arith, power, mul-le-mul_right (β ^ k) upto))

        says : leb (n * β ^ suc k) (suc m * β ^ k) ≡ true → leb n (β ^ (p - 1)) and leb (β ^ p - m) 1 ≡ true
        says h =
            let upto : β * n ≤ suc m = le_of_mul-le-mul_right (rw power at (leb-true (n * β ^ suc k) (suc m * β ^ k) h)) (pow_pos ok.base k) in
            let full : β ^ p ≤ β * n = ⊎_elim (λ z. absurd (omega arith)) (λ l. l) d.normal in
            let least : β * n ≤ β * β ^ (p - 1) = omega (arith, c.small, pow_pred β ok.digits) in
            and_made (le-leb _ _ (le_of_mul-le-mul_left least (omega (arith, ok.base)))) (le-leb (β ^ p - m) 1 (omega arith))

    pub beyond_place : suc k < j → suc m * β ^ k < n * β ^ j
    beyond_place h =
        let full : β ^ p ≤ β * n = ⊎_elim (λ e. absurd (omega arith)) (λ l. l) d.normal in
        let most : suc m * (2 * β ^ k) ≤ β * n * β ^ (j - 1) = mul-le-mul (omega (arith, c.small)) (pow_half ok.base (omega arith)) in
        omega (arith, pow_pos ok.base k, ap (λ (q : ℕ). n * q) (pow_pred β {k = j} (omega arith)))

  -- a number of at most one unit stands at the least place
  pub least_place_law : {m k : ℕ} → Canonical β p m k → m * β ^ k ≤ 1 → k ≡ 0
  least_place_law {m} {k = zero} c h = refl
  least_place_law {m} {k = suc k} c h =
      let some : 1 ≤ m = omega (arith, least_digits ok c (omega arith), pow_pos ok.base (p - 1)) in
      let two : 2 ≤ β ^ suc k = omega (arith, pow-zero β, pow_half ok.base {i = 0} {j = suc k} (omega arith)) in
      absurd (omega (arith, mul-le-mul some two))

  -- so the code's test across zero
  pub units_across : {m k n j : ℕ} → Canonical β p m k → Canonical β p n j → ((eqb k 0 && eqb j 0) && leb (m + n) 1) ≡ leb (m * β ^ k + n * β ^ j) 1
  units_across {m} {k} {n} {j} c d = code_and _ _ ∙ ap (λ (t : Bool). t and leb (m + n) 1) (code_and _ _) ∙ one_test made says
    where
      at_least : {m k : ℕ} → k ≡ 0 → m * β ^ k ≡ m
      at_least {m} {k} e = ap (λ (i : ℕ). m * β ^ i) e ∙ ap (λ (q : ℕ). m * q) (pow-zero β) ∙ omega arith

      made : (eqb k 0 and eqb j 0) and leb (m + n) 1 ≡ true → leb (m * β ^ k + n * β ^ j) 1 ≡ true
      made h =
          let places = and_left _ _ h in
          le-leb (m * β ^ k + n * β ^ j) 1
          (omega
          (arith, at_least {m = m} (eqb-true k 0 (and_left _ _ places)), at_least {m = n} (eqb-true j 0 (and_right _ _ places)), leb-true (m + n) 1 (and_right _ _ h)))

      says : leb (m * β ^ k + n * β ^ j) 1 ≡ true → (eqb k 0 and eqb j 0) and leb (m + n) 1 ≡ true
      says h =
          let l : m * β ^ k + n * β ^ j ≤ 1 = leb-true _ _ h in
          let first : k ≡ 0 = least_place_law c (omega arith) in
          let second : j ≡ 0 = least_place_law d (omega arith) in
          and_made (and_made (eq-eqb k 0 first) (eq-eqb j 0 second)) (le-leb (m + n) 1 (omega (arith, at_least {m = m} first, at_least {m = n} second)))
