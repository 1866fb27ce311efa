-- Laws of marks: what a mark says of the exact value, the mark of a magnitude that is kept with its sign, and the marks of each
-- direction.
use Rattle.theory.proofs.Prelude.{ℕ, ◌≤◌, ◌<◌, ◌+◌, ◌*◌, mul-lt-mul_of_pos_right, lt_of_mul-lt-mul_right, eq_of_mul-eq-mul_right, true, false, Bool, cond, not, inl, inr, ◌⊎◌, ◌≢◌, ◌∙◌, ap, ◌≡◌, sym, refl, arith, ℤ, pos, nat_abs, ◌*ℤ◌, neg_ℤ, lt_z, ◌<ℤ◌}
use Rattle.theory.specs.Marks as marks
use Rattle.theory.specs.Marks.{Mark, Exact, Low, High, mark, MultipliedOut, other_mark, inexact}
use Rattle.theory.specs.Place.{Positional}
use Rattle.theory.specs.Neighbours.{lower_q, upper_q}
use Rattle.theory.specs.Round as rounding
use Rattle.theory.specs.Round.{Direction, NearestEven, NearestAway, TowardZero, Upward, Downward, Location, Below, Half, Above, chosen, takes_upper, round}
use Rattle.theory.specs.Signed.{signed, is_negative, WideZ, round_z}
use Rattle.theory.proofs.Integers.{above, below, le_parts, lt_parts, parts_lt, parts_eq, neg_above, neg_below, scale_above, scale_below, scale_signed, own_sign, negate_signed}
use Rattle.theory.proofs.Neighbours.{lower_q_le}
use Rattle.theory.proofs.Monotone.{Same}
use Rattle.theory.proofs.Round.{round_exact}
use Rattle.theory.proofs.Signed.{round_z_signed, toward_zero_size, downward_le, le_upward}
use Rattle.theory.proofs.Order.{Under, lt_true, lt_false, make_lt, make_ge}

module _ (v N : ℤ) (D : ℕ) where
  -- a mark is true of the exact value
  pub mark_multiplied : MultipliedOut v N D (mark v N D)
  unfolding mark
  mark_multiplied = by (lt_z w N) (lt_z N w) refl refl
    where
      w : ℤ
      w = v *ℤ pos D

      by : (s t : Bool) → lt_z w N ≡ s → lt_z N w ≡ t → MultipliedOut v N D (cond s Low (cond t High Exact))
      by true t h k = marks.below (parts_lt w N (lt_true w N h))
      by false true h k = marks.above (parts_lt N w (lt_true N w k))
      by false false h k = marks.equal (parts_eq w N (let a = lt_false w N h in let b = lt_false N w k in omega arith))

  -- and each comes exactly where it is
  pub mark_equal : v *ℤ pos D ≡ N → mark v N D ≡ Exact
  unfolding mark
  mark_equal e = let w : ℤ = v *ℤ pos D in rw (make_ge w N (rw e (omega arith)), make_ge N w (rw e (omega arith)))

  pub mark_below : Under (v *ℤ pos D) N → mark v N D ≡ Low
  unfolding mark
  mark_below l = rw (make_lt (v *ℤ pos D) N l)

  pub mark_above : Under N (v *ℤ pos D) → mark v N D ≡ High
  unfolding mark
  mark_above l = let w : ℤ = v *ℤ pos D in rw (make_ge w N (omega arith), make_lt N w l)

  -- 1 is counted exactly where the two differ
  pub inexact_counted : ((inexact (mark v N D) ≡ 0) × (v *ℤ pos D ≡ N)) ⊎ ((inexact (mark v N D) ≡ 1) × (¬ (v *ℤ pos D ≡ N)))
  inexact_counted = by (mark_multiplied)
    where
      by : {t : Mark} → MultipliedOut v N D t → ((inexact t ≡ 0) × (v *ℤ pos D ≡ N)) ⊎ ((inexact t ≡ 1) × (¬ (v *ℤ pos D ≡ N)))
      by (marks.equal e) = inl (refl, e)
      by (marks.below l) = inr (refl, λ e. omega (arith, lt_parts l, ap above e, ap below e))
      by (marks.above l) = inr (refl, λ e. omega (arith, lt_parts l, ap above e, ap below e))

-- ---- a magnitude m, kept with the sign of ± N / D
signed_under : {m n : ℕ} → m < n → (s : Bool) → cond s (Under (signed s n) (signed s m)) (Under (signed s m) (signed s n))
signed_under l false = omega arith
signed_under {m} {n} l true = omega (arith, neg_above (pos m), neg_below (pos m), neg_above (pos n), neg_below (pos n))

module _ (m N D : ℕ) where
  pub mark_exactly : (s : Bool) → m * D ≡ N → mark (signed s m) (signed s N) D ≡ Exact
  mark_exactly s e = mark_equal (signed s m) (signed s N) D (scale_signed s m D ∙ ap (signed s) e)

  pub mark_lower : (s : Bool) → m * D < N → mark (signed s m) (signed s N) D ≡ cond s High Low
  mark_lower false l = mark_below (pos m) (pos N) D (omega arith)
  mark_lower true l = mark_above (signed true m) (signed true N) D (rw (scale_signed true m D) (signed_under l true))

  pub mark_upper : (s : Bool) → N < m * D → mark (signed s m) (signed s N) D ≡ cond s Low High
  mark_upper false l = mark_above (pos m) (pos N) D (omega arith)
  mark_upper true l = mark_below (signed true m) (signed true N) D (rw (scale_signed true m D) (signed_under l true))

-- the mark of the opposite values is the other one
module _ (v N : ℤ) (D : ℕ) where
  turned_above : above (neg_ℤ v *ℤ pos D) ≡ below (v *ℤ pos D)
  turned_above = scale_above (neg_ℤ v) D ∙ ap (λ (n : ℕ). n * D) (neg_above v) ∙ sym (scale_below v D)

  turned_below : below (neg_ℤ v *ℤ pos D) ≡ above (v *ℤ pos D)
  turned_below = scale_below (neg_ℤ v) D ∙ ap (λ (n : ℕ). n * D) (neg_below v) ∙ sym (scale_above v D)

  pub mark_turned : mark (neg_ℤ v) (neg_ℤ N) D ≡ other_mark (mark v N D)
  mark_turned = by (mark_multiplied v N D)
    where
      by : {t : Mark} → MultipliedOut v N D t → mark (neg_ℤ v) (neg_ℤ N) D ≡ other_mark t
      by (marks.equal e) =
          mark_equal (neg_ℤ v) (neg_ℤ N) D
          (parts_eq (neg_ℤ v *ℤ pos D) (neg_ℤ N) (omega (arith, turned_above, turned_below, neg_above N, neg_below N, ap above e, ap below e)))
      by (marks.below l) = mark_above (neg_ℤ v) (neg_ℤ N) D (omega (arith, turned_above, turned_below, neg_above N, neg_below N, lt_parts l))
      by (marks.above l) = mark_below (neg_ℤ v) (neg_ℤ N) D (omega (arith, turned_above, turned_below, neg_above N, neg_below N, lt_parts l))

-- ---- the same fraction N / D = N' / D' has the same mark
module _ {D D' m n m' n' : ℕ} (e : Same m D m' D') (f : Same n D n' D') (x y : ℕ) where
  lt_same : x * D + m < y * D + n → x * D' + m' < y * D' + n'
  lt_same l = lt_of_mul-lt-mul_right D (omega (arith, mul-lt-mul_of_pos_right {k = D'} l e.divisor', e.cross, f.cross))

  eq_same : x * D + m ≡ y * D + n → x * D' + m' ≡ y * D' + n'
  eq_same l = eq_of_mul-eq-mul_right D e.divisor _ _ (omega (arith, ap (λ (z : ℕ). z * D') l, e.cross, f.cross))

pub mark_same : {N D N' D' : ℕ} (v : ℤ) (s : Bool) → Same N D N' D' → mark v (signed s N) D ≡ mark v (signed s N') D'
mark_same {N} {D} {N'} {D'} v s h = by (mark_multiplied v (signed s N) D)
  where
    M : ℤ
    M = signed s N

    M' : ℤ
    M' = signed s N'

    above_same : (s : Bool) → Same (above (signed s N)) D (above (signed s N')) D'
    above_same false = h
    above_same true = rw (neg_above (pos N), neg_above (pos N')) (record { divisor = h.divisor; divisor' = h.divisor'; cross = omega arith })

    below_same : (s : Bool) → Same (below (signed s N)) D (below (signed s N')) D'
    below_same false = record { divisor = h.divisor; divisor' = h.divisor'; cross = omega arith }
    below_same true = rw (neg_below (pos N), neg_below (pos N')) h

    by : {t : Mark} → MultipliedOut v M D t → t ≡ mark v M' D'
    by (marks.equal e) =
        sym (mark_equal v M' D'
        (parts_eq (v *ℤ pos D') M'
        (omega (arith, scale_above v D', scale_below v D', eq_same (below_same s) (above_same s) (above v) (below v) (omega (arith, ap above e, ap below e, scale_above v D, scale_below v D))))))
    by (marks.below l) =
        sym (mark_below v M' D'
        (omega (arith, scale_above v D', scale_below v D', lt_same (below_same s) (above_same s) (above v) (below v) (omega (arith, lt_parts l, scale_above v D, scale_below v D)))))
    by (marks.above l) =
        sym (mark_above v M' D'
        (omega (arith, scale_above v D', scale_below v D', lt_same (above_same s) (below_same s) (below v) (above v) (omega (arith, lt_parts l, scale_above v D, scale_below v D)))))

-- ---- what a given mark says
module _ {v N : ℤ} {D : ℕ} where
  exactly_says : {t : Mark} → MultipliedOut v N D t → t ≡ Exact → v *ℤ pos D ≡ N
  exactly_says (marks.equal e) h = e
  exactly_says (marks.below l) h = absurd (let z : ◌≡◌ {A = ℕ} 0 1 = cc in omega arith)
  exactly_says (marks.above l) h = absurd (let z : ◌≡◌ {A = ℕ} 0 1 = cc in omega arith)

  low_says : {t : Mark} → MultipliedOut v N D t → t ≡ Low → (v *ℤ pos D) <ℤ N
  low_says (marks.equal e) h = absurd (let z : ◌≡◌ {A = ℕ} 0 1 = cc in omega arith)
  low_says (marks.below l) h = l
  low_says (marks.above l) h = absurd (let z : ◌≡◌ {A = ℕ} 0 1 = cc in omega arith)

  high_says : {t : Mark} → MultipliedOut v N D t → t ≡ High → N <ℤ (v *ℤ pos D)
  high_says (marks.equal e) h = absurd (let z : ◌≡◌ {A = ℕ} 0 1 = cc in omega arith)
  high_says (marks.below l) h = absurd (let z : ◌≡◌ {A = ℕ} 0 1 = cc in omega arith)
  high_says (marks.above l) h = l

pub mark_exact : (v N : ℤ) (D : ℕ) → mark v N D ≡ Exact → v *ℤ pos D ≡ N
mark_exact v N D e = exactly_says (mark_multiplied v N D) e

-- ---- the marks of a rounding
-- the directions that do not look at the sign
pub data Unsigned : Direction → Type 0 where
  to_even : Unsigned NearestEven
  to_away : Unsigned NearestAway
  to_zero : Unsigned TowardZero

takes_same : {d : Direction} → Unsigned d → (s t odd : Bool) (at : Location) → takes_upper d s odd at ≡ takes_upper d t odd at
unfolding takes_upper chosen
takes_same to_even s t odd rounding.Exact = refl
takes_same to_even s t odd Below = refl
takes_same to_even s t odd Half = refl
takes_same to_even s t odd Above = refl
takes_same to_away s t odd rounding.Exact = refl
takes_same to_away s t odd Below = refl
takes_same to_away s t odd Half = refl
takes_same to_away s t odd Above = refl
takes_same to_zero s t odd rounding.Exact = refl
takes_same to_zero s t odd Below = refl
takes_same to_zero s t odd Half = refl
takes_same to_zero s t odd Above = refl

round_same : {d : Direction} → Unsigned d → (β p : ℕ) (s t : Bool) (N D : ℕ) → round β p d s N D ≡ round β p d t N D
unfolding round
round_same u β p s t N D = ap (λ (b : Bool). cond b (upper_q β p N D) (lower_q β p N D)) (takes_same u s t _ _)

module _ {β p : ℕ} (ok : Positional β p) {D : ℕ} (h_d : 1 ≤ D) where
  -- exact where the exact value is in the wide format
  pub wide_exact : (d : Direction) (N w : ℤ) → WideZ β p w → w *ℤ pos D ≡ N → mark (round_z β p d N D) N D ≡ Exact
  wide_exact d N w h e =
      let s : Bool = is_negative w in
      let size : signed s (nat_abs w * D) ≡ N = sym (scale_signed s (nat_abs w) D) ∙ ap (λ (z : ℤ). z *ℤ pos D) (own_sign w) ∙ e in
      let kept : round_z β p d N D ≡ w =
      ap (λ (z : ℤ). round_z β p d z D) (sym size) ∙ round_z_signed ok h_d d s (nat_abs w * D)
      ∙ ap (signed s) (round_exact ok (nat_abs w * D) h_d d s (nat_abs w) h refl) ∙ own_sign w in
      mark_equal (round_z β p d N D) N D (ap (λ (z : ℤ). z *ℤ pos D) kept ∙ e)

  -- down never high, up never low, toward zero never above in magnitude
  pub downward_not_high : (N : ℤ) → mark (round_z β p Downward N D) N D ≢ High
  downward_not_high N e = omega (arith, le_parts (downward_le ok h_d N), lt_parts (high_says (mark_multiplied (round_z β p Downward N D) N D) e))

  pub upward_not_low : (N : ℤ) → mark (round_z β p Upward N D) N D ≢ Low
  upward_not_low N e = omega (arith, le_parts (le_upward ok h_d N), lt_parts (low_says (mark_multiplied (round_z β p Upward N D) N D) e))

  pub toward_zero_inward : (N : ℤ) → nat_abs (round_z β p TowardZero N D) * D ≤ nat_abs N
  toward_zero_inward N = rw (toward_zero_size ok h_d N) (lower_q_le ok (nat_abs N) h_d)

  -- of the opposite value the opposite is kept, in the directions that do not look at the sign
  pub round_z_turned : {d : Direction} → Unsigned d → (N : ℤ) → round_z β p d (neg_ℤ N) D ≡ neg_ℤ (round_z β p d N D)
  round_z_turned {d} u N =
      let s : Bool = is_negative N in
      let n : ℕ = nat_abs N in
      let turned : neg_ℤ N ≡ signed (not s) n = ap neg_ℤ (sym (own_sign N)) ∙ negate_signed s n in
      ap (λ (z : ℤ). round_z β p d z D) turned ∙ round_z_signed ok h_d d (not s) n ∙ ap (signed (not s)) (round_same u β p (not s) s n D)
      ∙ sym (negate_signed s (round β p d s n D)) ∙ ap neg_ℤ (sym (round_z_signed ok h_d d s n) ∙ ap (λ (z : ℤ). round_z β p d z D) (own_sign N))
