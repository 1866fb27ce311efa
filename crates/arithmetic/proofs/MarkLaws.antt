-- Marks, in the words of the request, for every admitted format: a mark is exact exactly where the exact result is in the wide format; down
-- it is never high, up never low, toward zero the number is never above the exact result in magnitude; and the opposite result has the
-- other mark where the direction does not look at the sign. That a mark is true of the exact result stands with each call's answer (`Calls`).
use Rattle.theory.proofs.Prelude.{ℕ, ◌≤◌, ◌*◌, ◌≢◌, ◌∙◌, ap, ◌≡◌, sym, ℤ, pos, nat_abs, neg_ℤ, ◌*ℤ◌}
use Rattle.arithmetic.proofs.Prelude.{Direction, Format, Admitted, positional, Number, value}
use Rattle.theory.specs.declared.Direction.TheVariants.{TowardZero, Upward, Downward}
use Rattle.theory.specs.declared.Mark.TheVariants.{Exact, Low, High}
use Rattle.theory.specs.Marks.{mark, other_mark}
use Rattle.theory.specs.Signed.{WideZ}
use Rattle.theory.proofs.Marks.{mark_exact, mark_turned, Unsigned, wide_exact, downward_not_high, upward_not_low, toward_zero_inward, round_z_turned}
use Rattle.theory.proofs.Signed.{round_z_wide}
use Rattle.arithmetic.specs.Outcomes.{RoundedNumber}

module _ {f : Format} (a : Admitted f) {d : Direction} {N : ℤ} {D : ℕ} {x : Number} (r : RoundedNumber f d N D x) where
  -- exact exactly where the exact result is in the wide format
  pub exact_where_wide : (w : ℤ) → WideZ f.base f.digits w → w *ℤ pos D ≡ N → mark (value f x) N D ≡ Exact
  exact_where_wide w h e = rw r.value (wide_exact (positional a) r.divisor d N w h e)

  pub wide_where_exact : mark (value f x) N D ≡ Exact → WideZ f.base f.digits (value f x) × (value f x *ℤ pos D ≡ N)
  wide_where_exact e = (rw r.value (round_z_wide (positional a) r.divisor d N), mark_exact (value f x) N D e)

  -- the opposite result has the other mark
  pub turned_mark : Unsigned d → {y : Number} → RoundedNumber f d (neg_ℤ N) D y → (value f y ≡ neg_ℤ (value f x)) × (mark (value f y) (neg_ℤ N) D ≡ other_mark (mark (value f x) N D))
  turned_mark u {y} s =
      let e : value f y ≡ neg_ℤ (value f x) = s.value ∙ round_z_turned (positional a) r.divisor u N ∙ ap neg_ℤ (sym r.value) in
      (e, ap (λ (v : ℤ). mark v (neg_ℤ N) D) e ∙ mark_turned (value f x) N D)

module _ {f : Format} (a : Admitted f) {N : ℤ} {D : ℕ} {x : Number} where
  pub down_never_high : RoundedNumber f Downward N D x → mark (value f x) N D ≢ High
  down_never_high r = rw r.value (downward_not_high (positional a) r.divisor N)

  pub up_never_low : RoundedNumber f Upward N D x → mark (value f x) N D ≢ Low
  up_never_low r = rw r.value (upward_not_low (positional a) r.divisor N)

  pub toward_zero_never_above : RoundedNumber f TowardZero N D x → nat_abs (value f x) * D ≤ nat_abs N
  toward_zero_never_above r = rw r.value (toward_zero_inward (positional a) r.divisor N)
