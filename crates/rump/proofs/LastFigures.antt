-- Figures 3, 4 and 5, line by line: under their premise no line passes the number after |x|, so each gives the theory's value.
use Rattle.theory.proofs.Prelude.{ℕ, ◌≤◌, ◌+◌, ◌*◌, ◌-◌, true, cond, ◌∙◌, ap, ◌≡◌, sym, refl, le_trans, arith, ℤ, pos}
use lib.IntN.{ℤ_discrete, *ℤ_comm}
use Rattle.theory.proofs.Words.{Positional, ulp, round_z}
use Rattle.theory.specs.declared.Direction.TheVariants.{TowardZero, Upward}
use Rattle.theory.proofs.Rump.{sum, difference, product, ulp_by_figure3, gap_below, gap_defect, ulp_by_figure5}
use Rattle.theory.proofs.Tests.{refuted}
use Rattle.theory.proofs.Wide.{wide_base_pred}
use Rattle.theory.proofs.Neighbours.{lower_le}
use Rattle.theory.proofs.Operations.{difference_toward_zero, difference_exact}
use Rattle.theory.proofs.LastPlace.{Unbranched, successor_most, sum_upward_is, ulp_upward_is, unbranched, ulp_if_same, ulp_if_other}
use Rattle.number.proofs.Prelude.{Format, gives, positional, below_zero, equal_z, value, greatest, equal_true, equal_made}
use Rattle.number.specs.declared.Number.{Number}
use Rattle.number.proofs.Values.{greatest_wide}
use Rattle.arithmetic.specs.Operations.{rounded_sum, rounded_difference, rounded_product}
use Rattle.rump.specs.Figures.{one, power, subrealmin, figure3, gap, figure4, defect, figure5}
use Rattle.rump.proofs.Reach.{Last, first_power, one_positive, constant_most}
use Rattle.rump.proofs.Lines.{Has, Line, sum_line, difference_line, product_line, subrealmin_has, one_has, base_has}

less_one : (c B t : ℕ) → B ≡ c + 1 → t + c * t ≡ B * t
less_one c B t e = rw e (omega arith)

-- ---- the values of their lines, in units
-- figure 5: β - 1
abbrev factor : Format → ℤ
factor f = pos ((f.base - 1) * one f)

module _ (f : Format) (n : ℕ) where
  abbrev last_place_law : ℤ
  last_place_law = pos (ulp f.base f.digits n)

  -- figure 3: the number after |f|
  abbrev next : ℤ
  next = sum f.base f.digits Upward (pos n) (pos 1)

  -- figures 4 and 5: the number before |f|, S, f + S
  abbrev preceding : ℤ
  preceding = difference f.base f.digits TowardZero (pos n) (pos 1)

  abbrev S : ℤ
  S = gap_below f.base f.digits n

  abbrev raised : ℤ
  raised = sum f.base f.digits TowardZero (pos n) S

  -- figure 5: (f + S) - f, d, (β - 1) d
  abbrev back : ℤ
  back = difference f.base f.digits TowardZero raised (pos n)

  abbrev d : ℤ
  d = gap_defect f.base f.digits n

  abbrev correction : ℤ
  correction = product f.base f.digits TowardZero (one f) (factor f) d

module _ {f : Format} {n : ℕ} (k : Last f n) where
  ok : Positional f.base f.digits
  ok = positional k.admits

  next_most : n + ulp f.base f.digits n ≤ greatest f
  next_most = successor_most ok k.wide k.some (greatest_wide k.admits) k.less

  -- what is at most the number after |f| is at most the greatest number
  most : {m : ℕ} → m ≤ n + ulp f.base f.digits n → m ≤ greatest f
  most l = le_trans l next_most

  values : Unbranched f.base f.digits (one f) n
  values = unbranched ok k.wide k.some (one f) (one_positive k.admits)

  -- figure 5, line 6: β - 1
  factor_is : difference f.base f.digits TowardZero (pos (f.base * one f)) (pos (one f)) ≡ factor f
  factor_is =
      difference_exact ok TowardZero (f.base * one f) (one f) ((f.base - 1) * one f)
      (less_one (f.base - 1) f.base (one f) (omega (arith, k.admits.base_low))) (wide_base_pred ok (below_zero f.emin))

  factor_most : (f.base - 1) * one f ≤ greatest f
  factor_most =
      omega (
        arith,
        less_one (f.base - 1) f.base (one f) (omega (arith, k.admits.base_low)),
        ap (λ (t : ℕ). t * one f) (first_power f.base),
        constant_most k.admits k.reach 1 k.admits.digits_low,
      )

  factor_line : Line f (rounded_difference f TowardZero (power f 1) (power f 0)) (factor f)
  factor_line =
      difference_line k.admits TowardZero (base_has k.admits k.reach) (one_has k.admits k.reach) factor_is factor_most

  module _ {x : Number} (h : Has f x (pos n)) where
    -- ---- figure 3
    next_line : Line f (rounded_sum f Upward x (subrealmin f)) (next f n)
    next_line =
        sum_line k.admits Upward h (subrealmin_has k.admits) refl (most (rw (sum_upward_is ok k.wide k.some) (omega arith)))

    pub figure3_line : Line f (figure3 f x) (last_place_law f n)
    unfolding figure3 ulp_by_figure3
    figure3_line = rw next_line.is (difference_line k.admits Upward next_line.has h (ulp_upward_is ok k.wide k.some) (most (omega arith)))

    -- ---- figures 4 and 5
    preceding_line : Line f (rounded_difference f TowardZero x (subrealmin f)) (preceding f n)
    preceding_line =
        difference_line k.admits TowardZero h (subrealmin_has k.admits) refl
        (most (rw (difference_toward_zero ok n 1 k.some) (omega (arith, lower_le ok (n - 1)))))

    gap_line : Line f (gap f x) (S f n)
    unfolding gap gap_below
    gap_line =
        rw preceding_line.is (difference_line k.admits TowardZero h preceding_line.has refl (most (omega (arith, values.gap_most))))

    raised_line : Line f (rounded_sum f TowardZero x gap_line.number) (raised f n)
    raised_line = sum_line k.admits TowardZero h gap_line.has refl (most values.sum_most)

    -- figure 4: S β where x + S gives x, and S elsewhere
    turned : product f.base f.digits TowardZero (one f) (S f n) (pos (f.base * one f)) ≡ product f.base f.digits TowardZero (one f) (pos (f.base * one f)) (S f n)
    unfolding product
    turned = ap (λ (v : ℤ). round_z f.base f.digits TowardZero v (one f)) (*ℤ_comm (S f n) (pos (f.base * one f)))

    corrected_line : raised f n ≡ pos n → Line f (rounded_product f TowardZero gap_line.number (power f 1)) (last_place_law f n)
    corrected_line e =
        product_line k.admits TowardZero gap_line.has (base_has k.admits k.reach) k.reach.not_above
        (turned ∙ ulp_if_same ok k.wide k.some (one f) (one_positive k.admits) e) (most (omega arith))

    pub figure4_line : Line f (figure4 f x) (last_place_law f n)
    unfolding figure4
    figure4_line = rw (gap_line.is, raised_line.is) (by (ℤ_discrete (raised f n) (pos n)))
      where
        by : Dec (raised f n ≡ pos n)
            → Line f (cond (equal_z (value f raised_line.number) (value f x)) (rounded_product f TowardZero gap_line.number (power f 1)) (gives gap_line.number)) (last_place_law f n)
        by (yes e) = rw (equal_made (raised_line.has.is ∙ e ∙ sym h.is)) (corrected_line e)
        by (no e) =
            rw (← refuted (λ (s : equal_z (value f raised_line.number) (value f x) ≡ true). e (sym raised_line.has.is ∙ equal_true _ _ s ∙ h.is)))
            (record { number = gap_line.number; is = refl; has = rw (ulp_if_other ok k.wide k.some e) at gap_line.has })

    -- figure 5
    back_line : Line f (rounded_difference f TowardZero raised_line.number x) (back f n)
    back_line = difference_line k.admits TowardZero raised_line.has h refl (most (omega (arith, values.back_most)))

    defect_line : Line f (defect f x gap_line.number) (d f n)
    unfolding defect gap_defect
    defect_line =
        rw (raised_line.is, back_line.is)
        (difference_line k.admits TowardZero back_line.has gap_line.has refl (most (omega (arith, values.defect_most))))

    correction_line : Line f (rounded_product f TowardZero factor_line.number defect_line.number) (correction f n)
    correction_line =
        product_line k.admits TowardZero factor_line.has defect_line.has k.reach.not_above refl
        (most (omega (arith, values.correction_most)))

    pub figure5_line : Line f (figure5 f x) (last_place_law f n)
    unfolding figure5 ulp_by_figure5
    figure5_line =
        rw (gap_line.is, defect_line.is, factor_line.is, correction_line.is)
        (difference_line k.admits TowardZero gap_line.has correction_line.has values.result (most (omega arith)))
