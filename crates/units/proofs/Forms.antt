-- How the places and the neighbours of a number are written: a significand and a place, in canonical form.
use Rattle.theory.proofs.Prelude.{ℕ, ◌≤◌, ◌<◌, ◌+◌, ◌^◌, ◌*◌, ◌-◌, suc, zero, ⊎_elim, inl, inr, ◌⊎◌, ◌∙◌, ap, ◌≡◌, sym, refl, subst, mul-le-mul_right, mul-le-mul_left, pow-zero, pow-succ', le_of_mul-le-mul_left, add-one, arith}
use Rattle.theory.proofs.Words.{Positional, Wide, Canonical, lower, upper, ufp}
use Rattle.theory.proofs.Powers.{pow-add, pow_pos, pow_pred, pow_half, pow_lt}
use Rattle.theory.proofs.Multiples.{multiple_of}
use Rattle.theory.proofs.Wide.{wide_pow}
use Rattle.theory.proofs.Canonical.{canonical_wide}
use Rattle.theory.proofs.Neighbours.{upper_exact}
use Rattle.theory.proofs.Units.{ufp_le, ufp_greatest, ulp_canonical, successor_ulp, predecessor_gap, predecessor_power}

-- by equal numbers
pub canonical_as : {β p m n j k : ℕ} → m ≡ n → j ≡ k → Canonical β p n k → Canonical β p m j
canonical_as {β} {p} {m} {n} {j} {k} e h c = subst (λ (q : ℕ). Canonical β p q j) (sym e) (subst (Canonical β p n) (sym h) c)

less_one : {m : ℕ} (q : ℕ) → 1 ≤ m → (m - 1) * q + q ≡ m * q
less_one {m} q h = let e : m ≡ m - 1 + 1 = omega arith in sym (ap (λ (i : ℕ). i * q) e ∙ omega arith)

module _ {β p : ℕ} (ok : Positional β p) where
  -- ---- powers of the base
  pub power_low : {k : ℕ} → k < p → Canonical β p (β ^ k) 0
  power_low h = record { small = pow_lt ok.base h; normal = inl refl }

  pub power_high : (k : ℕ) → Canonical β p (β ^ (p - 1)) k
  power_high k = record { small = pow_lt ok.base (omega (arith, ok.digits)); normal = inr (omega (arith, pow_pred β ok.digits)) }

  pub power_split : (k : ℕ) → p ≤ k → β ^ (p - 1) * β ^ (k + 1 - p) ≡ β ^ k
  power_split k h = sym (pow-add β (p - 1) (k + 1 - p)) ∙ ap (λ (i : ℕ). β ^ i) (omega (arith, ok.digits))

  module _ {m k : ℕ} (c : Canonical β p m k) where
    -- all p digits, where the place is not the least
    pub least_digits : 1 ≤ k → β ^ (p - 1) ≤ m
    least_digits h =
        ⊎_elim (λ e. absurd (omega arith))
        (λ (l : β ^ p ≤ β * m). le_of_mul-le-mul_left (subst (λ (q : ℕ). q ≤ β * m) (pow_pred β ok.digits) l) (omega (arith, ok.base)))
        c.normal

    -- ---- the first place has the number's own exponent
    pub first_canonical : Canonical β p (ufp β m) k
    first_canonical =
        record {
          small = omega (arith, ufp_le ok.base m, c.small);
          normal = by k refl;
        }
      where
        by : (j : ℕ) → k ≡ j → (j ≡ 0) ⊎ (β ^ p ≤ β * ufp β m)
        by zero e = inl refl
        by (suc j) e =
            inr (rw (pow_pred β ok.digits) (mul-le-mul_left β (ufp_greatest ok.base m (p - 1) (least_digits (omega arith)))))

    -- ---- the next greater magnitude
    pub next_size : upper β p (suc (m * β ^ k)) ≡ suc m * β ^ k
    next_size = by m refl
      where
        by : (n : ℕ) → m ≡ n → upper β p (suc (m * β ^ k)) ≡ suc m * β ^ k
        by zero e =
            let least : k ≡ 0 = ⊎_elim (λ z. z) (λ (l : β ^ p ≤ β * m). absurd (omega (arith, pow_pos ok.base p, ap (λ (n : ℕ). β * n) e))) c.normal in
            let unit : β ^ k ≡ 1 = ap (λ (i : ℕ). β ^ i) least ∙ pow-zero β in
            ap (upper β p) (omega (arith, ap (λ (n : ℕ). n * β ^ k) e)) ∙ upper_exact ok 1 (subst (Wide β p) (pow-zero β) (wide_pow ok 0))
            ∙ omega (arith, ap (λ (n : ℕ). n * β ^ k) e)
        by (suc n) e =
            ap (upper β p) (omega arith)
            ∙ successor_ulp ok (canonical_wide ok c) (omega (arith, mul-le-mul_right (β ^ k) (some e), pow_pos ok.base k))
            ∙ ap (λ (u : ℕ). m * β ^ k + u) (ulp_canonical ok c (some e)) ∙ omega arith
          where
            some : m ≡ suc n → 1 ≤ m
            some e = omega arith

    pub next_canonical : suc m < β ^ p → Canonical β p (suc m) k
    next_canonical h = record { small = h; normal = ⊎_elim inl (λ (l : β ^ p ≤ β * m). inr (omega (arith, ok.base))) c.normal }

    -- past the last significand: the first one at the next place
    pub carry_size : suc m ≡ β ^ p → β ^ (p - 1) * β ^ (k + 1) ≡ suc m * β ^ k
    carry_size e = rw (add-one, pow-succ') (omega (arith, ap (λ (q : ℕ). q * β ^ k) (e ∙ pow_pred β ok.digits)))

    -- ---- the next smaller magnitude
    module _ (h : 1 ≤ m) where
      -- among numbers of one place
      pub before_size : (k ≡ 0) ⊎ (β ^ (p - 1) < m) → lower β p (m * β ^ k - 1) ≡ (m - 1) * β ^ k
      before_size low =
          let gap : lower β p (m * β ^ k - 1) + β ^ k ≡ m * β ^ k =
          predecessor_gap ok k (multiple_of m) (omega (arith, mul-le-mul_right (β ^ k) h)) (rw pow-add (mul-le-mul_right (β ^ k) (omega (arith, c.small))))
          (⊎_elim inl (λ (l : β ^ (p - 1) < m). inr (omega (arith, mul-le-mul_right (β ^ k) l))) low) in
          omega (arith, less_one (β ^ k) h)

      pub before_canonical : (k ≡ 0) ⊎ (β ^ (p - 1) < m) → Canonical β p (m - 1) k
      before_canonical low =
          record {
            small = omega (arith, c.small);
            normal = ⊎_elim inl (λ (l : β ^ (p - 1) < m). inr (rw (pow_pred β ok.digits) (mul-le-mul_left β (omega arith)))) low;
          }

    -- below a power of the base, where the step is the smaller one
    module _ (e : m ≡ β ^ (p - 1)) (h : 1 ≤ k) where
      pub below_size : lower β p (m * β ^ k - 1) ≡ (β ^ p - 1) * β ^ (k - 1)
      below_size =
          let same : m * β ^ k ≡ β ^ (p + (k - 1)) =
          ap (λ (i : ℕ). i * β ^ k) e ∙ sym (pow-add β (p - 1) k) ∙ ap (λ (i : ℕ). β ^ i) (omega (arith, ok.digits)) in
          ap (λ (n : ℕ). lower β p (n - 1)) same
          ∙ omega (arith, predecessor_power ok (k - 1), less_one (β ^ (k - 1)) (pow_pos ok.base p), pow-add β p (k - 1))

      pub below_canonical : Canonical β p (β ^ p - 1) (k - 1)
      below_canonical =
          record {
            small = omega (arith, pow_pos ok.base p);
            normal = inr (omega (arith, mul-le-mul_right (β ^ p - 1) ok.base, pow-zero β, pow_half ok.base {i = 0} {j = p} ok.digits));
          }
