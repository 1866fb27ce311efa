-- Small strips: the sum of i of them has a magnitude of at most i times 2 ^ 264, a number of the format for i up to 4,096, so that no
-- rounding takes it beyond that.
use Rattle.std.specs.Prelude.{Option}
use Rattle.theory.proofs.Prelude.{ℕ, ◌≤◌, ◌<◌, ◌+◌, ◌^◌, ◌*◌, suc, ◌%◌, true, [], ◌∷◌, List, ap, ◌≡◌, sym, refl, mul-le-mul_right, le_trans, le_of_eq, arith, ℤ, nat_abs, length, leb-true, ltb-true}
use Rattle.theory.specs.Lists.{all}
use Rattle.theory.specs.declared.Direction.{Direction}
use Rattle.theory.specs.Wide.{Wide}
use Rattle.theory.specs.Signed.{is_negative, round_z}
use Rattle.theory.proofs.Tests.{and_left, and_right}
use Rattle.theory.proofs.Integers.{sum_parts}
use Rattle.theory.proofs.Neighbours.{neighbour_le}
use Rattle.theory.proofs.Round.{round_neighbour}
use Rattle.theory.proofs.Signed.{round_z_size}
use Rattle.format.specs.Published.{binary32}
use Rattle.format.proofs.Formats.{positional}
use Rattle.number.specs.Numbers.{greatest}
use Rattle.binary32.specs.Patterns.{finite, magnitude_read, pattern_value}
use Rattle.binary32.proofs.Fields.{binary32_limits}
use Rattle.binary32.proofs.PatternOrder.{magnitude_most}
use Rattle.binary32.proofs.PatternValues.{value_size}
use Rattle.boundaries.specs.declared.Step.{Step}
use Rattle.boundaries.specs.Sums.{strip_added, and_on, steps_from, boundary_steps}
use Rattle.boundaries.specs.Steps.{small_strip}
use Rattle.boundaries.proofs.Distances.{size_added}
use Rattle.boundaries.proofs.StepLaws.{pair_sum, Outcome, added, too_large, outcome}
use Rattle.boundaries.proofs.Bounds.{AllFinite}

-- a magnitude that is not above a number of the wide format is not above it when it is rounded
rounded_upto : (d : Direction) (z : ℤ) {w : ℕ} → Wide 2 24 w → nat_abs z ≤ w → nat_abs (round_z 2 24 d z 1) ≤ w
rounded_upto d z wide h =
    le_trans (le_of_eq (round_z_size 2 24 d z 1))
    (neighbour_le (positional binary32_limits) (round_neighbour (positional binary32_limits) d (is_negative z) (nat_abs z)) wide h)

-- what no small magnitude exceeds
top : ℕ
top = 2 ^ 264

limit : magnitude_read 2030043135 ≤ top
unfolding magnitude_read top
limit = leb-true _ _ refl

small_size : (n : ℕ) → small_strip n ≡ true → nat_abs (pattern_value n) ≤ top
small_size n h =
    le_trans (le_of_eq (value_size n))
    (le_trans (magnitude_most n 2030043135 (let l : n % 2 ^ 31 < 242 * 2 ^ 23 = ltb-true _ _ h in omega arith)) limit)

-- 4,096 times 2 ^ 264 is not too large
room : 4096 * top ≤ greatest binary32
unfolding greatest top
room = leb-true _ _ refl

-- the rounded sum of i + 1 strips
module _ (d : Direction) (i x s : ℕ) (l : i < 4096) (h : nat_abs (pattern_value x) ≤ i * top) (k : small_strip s ≡ true) where
  exact_upto : nat_abs (pair_sum x s) ≤ suc i * top
  exact_upto = omega (arith, size_added (pair_sum x s) (pattern_value x) (pattern_value s) (sum_parts (pattern_value x) (pattern_value s)), small_size s k, h)

  wide : Wide 2 24 (suc i * top)
  unfolding top
  wide = record { significand = suc i; exponent = 264; small = omega (arith, l); is = refl }

  sum_upto : nat_abs (round_z 2 24 d (pair_sum x s) 1) ≤ suc i * top
  sum_upto = rounded_upto d (pair_sum x s) wide exact_upto

  sum_small : suc i * top ≤ greatest binary32
  sum_small = le_trans (mul-le-mul_right top (let m : suc i ≤ 4096 = omega arith in m)) room

-- so every strip is added
all_added : (d : Direction) (strips : List ℕ) → AllFinite strips → all small_strip strips ≡ true → (i x : ℕ) → i + length strips ≤ 4096 → finite x ≡ true
    → nat_abs (pattern_value x) ≤ i * top → length (steps_from d x strips) ≡ length strips
unfolding steps_from all
all_added d [] f h i x l j k = refl
all_added d (s ∷ strips) f h i x l j k =
    by (all_added d strips (λ k l. f (suc k) (omega arith)) (and_right _ _ h) (suc i)) (sum_upto d i x s (omega arith) k (and_left _ _ h)) (sum_small d i x s (omega arith) k (and_left _ _ h)) (strip_added d x s) (outcome d x s j (f 0 (omega arith)))
  where
    by : ((x : ℕ) → suc i + length strips ≤ 4096 → finite x ≡ true → nat_abs (pattern_value x) ≤ suc i * top → length (steps_from d x strips) ≡ length strips)
        → nat_abs (round_z 2 24 d (pair_sum x s) 1) ≤ suc i * top → suc i * top ≤ greatest binary32 → (p : Option Step) → Outcome d x s p
        → length (and_on p (λ t. t ∷ steps_from d t.x strips)) ≡ suc (length strips)
    by others m r p (added {t = t} g) = ap suc (others t.x (omega arith) g.x_finite (le_trans (le_of_eq (ap nat_abs g.x_is)) m))
    by others m r p (too_large e b) = absurd (omega (arith, m, r, b))

pub small_added : (d : Direction) (strips : List ℕ) → 1 ≤ length strips → length strips ≤ 4096 → AllFinite strips → all small_strip strips ≡ true
    → length strips ≡ suc (length (boundary_steps d strips))
unfolding boundary_steps all
small_added d [] some few f h = absurd (omega arith)
small_added d (s ∷ strips) some few f h =
    ap suc
    (sym
    (all_added d strips (λ k l. f (suc k) (omega arith)) (and_right _ _ h) 1 s (omega arith) (f 0 (omega arith))
    (omega (arith, small_size s (and_left _ _ h)))))
