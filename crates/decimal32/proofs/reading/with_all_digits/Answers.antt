-- `decimal32::reading::with_all_digits` meets its contract: each turn moves a factor 10 from the power to the significand.
use Rattle.theory.proofs.Prelude.{ℕ, ◌≤◌, ◌<◌, ◌^◌, ◌*◌, ◌-◌, true, false, Bool, ◌&&◌, inl, inr, ◌⊎◌, ◌∙◌, ap, ◌≡◌, sym, refl, zero-mul, arith, ltb, ltb-true, ltb-false}
use Rattle.theory.proofs.Powers.{pow_pred}
use Rattle.theory.proofs.Tests.{never}
use Rattle.decimal32.proofs.reading.with_all_digits.Goals as goal

-- ---- the loop's test
going : (m k : ℕ) → (ltb m 1000000 && ltb 0 k) ≡ true → (m < 1000000) × (0 < k)
going m k = by (ltb m 1000000) refl
  where
    by : (t : Bool) → ltb m 1000000 ≡ t → (t && ltb 0 k) ≡ true → (m < 1000000) × (0 < k)
    by true e h = (ltb-true m 1000000 e, ltb-true 0 k h)
    by false e h = absurd (never (sym h))

ended : (m k : ℕ) → (ltb m 1000000 && ltb 0 k) ≡ false → (k ≡ 0) ⊎ (10 ^ 7 ≤ 10 * m)
ended m k = by (ltb m 1000000) refl
  where
    by : (t : Bool) → ltb m 1000000 ≡ t → (t && ltb 0 k) ≡ false → (k ≡ 0) ⊎ (10 ^ 7 ≤ 10 * m)
    by true e h = inl (omega (arith, ltb-false 0 k h))
    by false e h = inr (omega (arith, ltb-false m 1000000 e))

-- ---- the value
nothing : {m : ℕ} (k : ℕ) → m ≡ 0 → 0 * 10 ^ 0 ≡ m * 10 ^ k
nothing k e = sym (ap (λ (n : ℕ). n * 10 ^ k) e ∙ zero-mul (10 ^ k))

turned : (m k : ℕ) {v : ℕ} → 0 < k → m * 10 ^ k ≡ v → m * 10 * 10 ^ (k - 1) ≡ v
turned m k h e = omega (arith, ap (λ (q : ℕ). m * q) (pow_pred 10 {k = k} h), e)

pub returns-then-coefficient-eq0 : goal.returns-then-coefficient-eq0
returns-then-coefficient-eq0 c = record { canonical = record { small = omega arith; normal = inl refl }; same = nothing c.args.place c.if-coefficient-eq0.true; lower = omega arith }

pub loop-m-init : goal.loop-m-init
loop-m-init c = (omega arith, omega arith, refl)

pub overflow_mul-m : goal.overflow_mul-m
overflow_mul-m c =
    let goes : (c.loop-m.m < 1000000) × (0 < c.loop-m.k) = going _ _ c.loop-m-test.true in
    record { fits = omega (arith, goes) }

pub overflow_sub-k : goal.overflow_sub-k
overflow_sub-k c =
    let goes : (c.loop-m.m < 1000000) × (0 < c.loop-m.k) = going _ _ c.loop-m-test.true in
    goes.1

pub loop-m-smaller : goal.loop-m-smaller
loop-m-smaller c =
    let goes : (c.loop-m.m < 1000000) × (0 < c.loop-m.k) = going _ _ c.loop-m-test.true in
    omega (arith, goes)

pub loop-m-preserved : goal.loop-m-preserved
loop-m-preserved c =
    let goes : (c.loop-m.m < 1000000) × (0 < c.loop-m.k) = going _ _ c.loop-m-test.true in
    let i = c.loop-m.invariant in
    (omega (arith, goes), omega (arith, i.1), turned _ _ goes.1 i.2)

pub returns : goal.returns
returns c =
    let i = c.loop-m.invariant in
    record { canonical = record { small = i.0; normal = ended _ _ c.loop-m-test.false }; same = i.2; lower = i.1 }
