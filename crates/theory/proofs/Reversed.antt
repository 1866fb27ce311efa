-- The three-step sum in base 2 with its operands in the wrong order, a smaller than b: x from a + b, z from x - a, y from b - z, on
-- values of the wide format, for every p ≥ 1 and with no word on underflow. The third step is exact. With any faithful roundings x + y
-- is off by less than 3 · 2 ^ - p of x, with roundings to nearest by at most 2 ^ - p of x.
use Rattle.theory.proofs.Prelude.{ℕ, ◌≤◌, ◌<◌, ◌+◌, ◌^◌, ◌*◌, ◌-◌, suc, zero, true, false, Bool, not, ⊎_elim, ◌∙◌, ap, ap₂, ◌≡◌, sym, refl, mul-le-mul_left, le_trans, arith, ℤ, pos, ◌+ℤ◌, nat_abs, ◌-ℤ◌, negsuc, neg_ℤ, +ℤ_comm}
use Rattle.theory.proofs.Words.{Positional, signed, is_negative, WideZ, round_z, Faithful}
use Rattle.theory.specs.Round.{Direction, Upward, Downward, round}
use Rattle.theory.specs.Nearest.{NearestNumber}
use Rattle.theory.proofs.Multiples.{dist}
use Rattle.theory.proofs.Neighbours.{Neighbour, neighbour_ge}
use Rattle.theory.proofs.Integers.{above, below, sum_parts, diff_parts, opposite_size, parts_eq, size_signed, size_one_sign, size_same_sign, own_sign, negate_signed, add_agree, add_differ}
use Rattle.theory.proofs.Round.{round_neighbour}
use Rattle.theory.proofs.Signed.{round_z_signed}
use Rattle.theory.proofs.Faithful.{faithful_cases, faithful_rounded, rounded_exact}
use Rattle.theory.proofs.Nearest.{nearest_faithful, nearest_relative}
use Rattle.theory.proofs.FastTwoSum.{error}
use Rattle.theory.proofs.ReversedSteps.{StepSizes, agree, differ, third_wide, second_off}

-- a and b are numbers, a smaller in magnitude, and x, z and y are faithful to their steps
pub record ReversedTriple (p : ℕ) (a b x z y : ℤ) : Type 0 where
  pub a_wide : WideZ 2 p a
  pub b_wide : WideZ 2 p b
  pub order : nat_abs a < nat_abs b
  pub x_step : Faithful 2 p (a +ℤ b) x
  pub z_step : Faithful 2 p (x -ℤ a) z
  pub y_step : Faithful 2 p (b -ℤ z) y

-- the same with roundings to nearest, each with ties as it likes
pub record ReversedNearest (p : ℕ) (a b x z y : ℤ) : Type 0 where
  pub a_wide : WideZ 2 p a
  pub b_wide : WideZ 2 p b
  pub order : nat_abs a < nat_abs b
  pub x_step : NearestNumber 2 p (a +ℤ b) x
  pub z_step : NearestNumber 2 p (x -ℤ a) z
  pub y_step : NearestNumber 2 p (b -ℤ z) y

-- ---- a and the results against the sign of b
-- a has the sign s, or the other
data Side (s : Bool) (a : ℤ) : Type 0 where
  same : a ≡ signed s (nat_abs a) → Side s a
  other : a ≡ signed (not s) (nat_abs a) → Side s a

side : (s : Bool) (a : ℤ) → Side s a
side false (pos n) = same refl
side false (negsuc n) = other refl
side true (pos n) = other refl
side true (negsuc n) = same refl

negate_other : (s : Bool) (n : ℕ) → neg_ℤ (signed (not s) n) ≡ signed s n
negate_other true n = refl
negate_other false zero = refl
negate_other false (suc n) = refl

-- r is a faithful rounding of the value with the sign s and the magnitude n
record Step (p : ℕ) (s : Bool) (n : ℕ) (r : ℤ) : Type 0 where
  size : ℕ
  near : Neighbour 2 p n size
  is : r ≡ signed s size

-- the steps on magnitudes, all with the sign of b
record Sizes (p : ℕ) (a b x z : ℤ) : Type 0 where
  v : ℕ
  w : ℕ
  first : Step p (is_negative b) v x
  second : Step p (is_negative b) w z
  middle : x -ℤ a ≡ signed (is_negative b) w
  steps : StepSizes (nat_abs a) (nat_abs b) v first.size w

module _ {p : ℕ} (ok : Positional 2 p) where
  step_of : (s : Bool) (n : ℕ) {v r : ℤ} → v ≡ signed s n → Faithful 2 p v r → Step p s n r
  step_of s n {v} {r} e f = ⊎_elim (by Downward) (by Upward) (faithful_cases ok f)
    where
      by : (d : Direction) → r ≡ round_z 2 p d v 1 → Step p s n r
      by d h =
          record {
            size = round 2 p d s n 1;
            near = round_neighbour ok d s n;
            is = h ∙ ap (λ (i : ℤ). round_z 2 p d i 1) e ∙ round_z_signed ok (omega arith) d s n;
          }

  module _ {a b x z y : ℤ} (t : ReversedTriple p a b x z y) where
    sizes : Sizes p a b x z
    sizes = by (side s a)
      where
        s : Bool
        s = is_negative b

        m : ℕ
        m = nat_abs a

        n : ℕ
        n = nat_abs b

        by : Side s a → Sizes p a b x z
        by (same e) =
            let f : Step p s (m + n) x = step_of s (m + n) (ap₂ ◌+ℤ◌ e (sym (own_sign b)) ∙ add_agree s m n) t.x_step in
            let l : m ≤ f.size = neighbour_ge ok f.near t.a_wide (omega arith) in
            let g : x -ℤ a ≡ signed s (f.size - m) =
            ap₂ ◌-ℤ◌ f.is e ∙ ap (λ (i : ℤ). signed s f.size +ℤ i) (negate_signed s m) ∙ add_differ s f.size m l in
            record { v = m + n; w = f.size - m; first = f; second = step_of s (f.size - m) g t.z_step; middle = g; steps = agree refl (omega arith) }
        by (other e) =
            let f : Step p s (n - m) x =
            step_of s (n - m) (+ℤ_comm a b ∙ ap₂ ◌+ℤ◌ (sym (own_sign b)) e ∙ add_differ s n m (omega (arith, t.order))) t.x_step in
            let g : x -ℤ a ≡ signed s (f.size + m) =
            ap₂ ◌-ℤ◌ f.is e ∙ ap (λ (i : ℤ). signed s f.size +ℤ i) (negate_other s m) ∙ add_agree s f.size m in
            record { v = n - m; w = f.size + m; first = f; second = step_of s (f.size + m) g t.z_step; middle = g; steps = differ (omega (arith, t.order)) refl }

    -- the third step is exact
    pub y_exact : y ≡ b -ℤ z
    y_exact =
        let far : nat_abs (b -ℤ z) ≡ dist (nat_abs b) sizes.second.size =
        ap (λ (i : ℤ). nat_abs (b -ℤ i)) sizes.second.is ∙ size_same_sign b sizes.second.size in
        rounded_exact ok (faithful_rounded ok t.y_step)
        (rw far (third_wide ok t.a_wide t.b_wide t.order sizes.first.near sizes.second.near sizes.steps))

    -- so x + y is off by what the second step is off
    error_middle : error a b x y ≡ nat_abs (x -ℤ a -ℤ z)
    error_middle =
        ap nat_abs
        (parts_eq (x +ℤ y -ℤ (a +ℤ b)) (x -ℤ a -ℤ z)
        (omega (
          arith,
          diff_parts (x +ℤ y) (a +ℤ b),
          sum_parts x y,
          sum_parts a b,
          ap above y_exact,
          ap below y_exact,
          diff_parts b z,
          diff_parts (x -ℤ a) z,
          diff_parts x a,
        )))

    pub reversed_close : 2 ^ p * error a b x y < 3 * nat_abs x
    reversed_close =
        let off : error a b x y ≡ dist sizes.w sizes.second.size =
        error_middle ∙ ap₂ (λ (i j : ℤ). nat_abs (i -ℤ j)) sizes.middle sizes.second.is ∙ size_one_sign (is_negative b) sizes.w sizes.second.size in
        let x_size : nat_abs x ≡ sizes.first.size = ap nat_abs sizes.first.is ∙ size_signed (is_negative b) sizes.first.size in
        rw (off, x_size) (second_off ok t.a_wide t.b_wide t.order sizes.first.near sizes.second.near sizes.steps)

  -- ---- roundings to nearest
  module _ {a b x z y : ℤ} (t : ReversedNearest p a b x z y) where
    pub nearest_triple : ReversedTriple p a b x z y
    nearest_triple =
        record {
          a_wide = t.a_wide;
          b_wide = t.b_wide;
          order = t.order;
          x_step = nearest_faithful ok t.x_step;
          z_step = nearest_faithful ok t.z_step;
          y_step = nearest_faithful ok t.y_step;
        }

    -- b is as far from x - a as x from a + b, and z is no farther
    pub nearest_close : 2 ^ p * error a b x y ≤ nat_abs x
    nearest_close =
        let far : nat_abs (x -ℤ a -ℤ b) ≡ nat_abs (a +ℤ b -ℤ x) =
        opposite_size (x -ℤ a -ℤ b) (a +ℤ b -ℤ x) (omega (arith, diff_parts (x -ℤ a) b, diff_parts x a, diff_parts (a +ℤ b) x, sum_parts a b)) in
        let off : error a b x y ≤ nat_abs (a +ℤ b -ℤ x) = omega (arith, error_middle nearest_triple, t.z_step.nearest b t.b_wide) in
        le_trans (mul-le-mul_left (2 ^ p) off) (nearest_relative ok t.x_step)
