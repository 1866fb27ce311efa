-- From a running sum on: the last x and all y, added up exactly, are no farther from x and the strips than the sum of |x| after
-- each step divided by 2 ^ 47, in directions 0 and 1 not at all, and a step that is missing was too large. It follows from demand 3
-- at each step (StepLaws).
use Rattle.std.specs.Prelude.{Option}
use Rattle.theory.proofs.Prelude.{ℕ, ◌≤◌, ◌<◌, ◌+◌, ◌^◌, ◌*◌, suc, true, [], ◌∷◌, List, ◌≡◌, refl, arith, ◌+ℤ◌, nat_abs, ◌-ℤ◌, length, get_or}
use Rattle.theory.specs.Lists.{all}
use Rattle.theory.specs.declared.Direction.{Direction}
use Rattle.theory.proofs.Tests.{and_made}
use Rattle.theory.proofs.Round.{Nearest}
use Rattle.fast_two_sum.proofs.Bounds.{none}
use Rattle.binary32.specs.Patterns.{finite, pattern_value}
pub use Rattle.boundaries.specs.Outcomes.{AllFinite}
use Rattle.boundaries.specs.declared.Step.{Step}
use Rattle.boundaries.specs.Sums.{strip_added, and_on, steps_from, last_x, rests_of}
use Rattle.boundaries.specs.Totals.{total_of, sizes_of, finite_step}
use Rattle.boundaries.proofs.Distances.{along}
use Rattle.boundaries.proofs.StepLaws.{TooMuch, pair_sum, off_by, Stepped, Outcome, added, too_large, outcome}

-- how far the last x and all y of the steps are from x and the strips
abbrev distance_from : (x : ℕ) (strips : List ℕ) → List Step → ℕ
distance_from x strips ts = nat_abs (pattern_value (last_x x ts) +ℤ total_of (rests_of ts) -ℤ (pattern_value x +ℤ total_of strips))

-- what the steps from x on say
pub record From (d : Direction) (x : ℕ) (strips : List ℕ) (ts : List Step) : Type 0 where
  pub few : length ts ≤ length strips
  pub finite : all finite_step ts ≡ true
  pub within : length ts ≡ length strips → 2 ^ 47 * distance_from x strips ts ≤ sizes_of ts
  pub exact : length ts ≡ length strips → Nearest d → distance_from x strips ts ≡ 0
  -- the strip after the last step made the sum too large
  pub beyond : length ts < length strips → TooMuch d (pair_sum (last_x x ts) (get_or strips (length ts) 0))

-- no step is left
ended : (d : Direction) (x : ℕ) → From d x [] []
unfolding last_x rests_of total_of sizes_of all
ended d x =
    let z = none (pattern_value x +ℤ total_of []) (pattern_value x +ℤ total_of []) refl in
    record { few = omega arith; finite = refl; within = λ e. omega (arith, z); exact = λ e near. z; beyond = λ l. absurd (omega arith) }

-- a step that is too large ends them
stopped : (d : Direction) (x s : ℕ) (strips : List ℕ) → TooMuch d (pair_sum x s) → From d x (s ∷ strips) []
unfolding last_x all
stopped d x s strips h =
    record { few = omega arith; finite = refl; within = λ e. absurd (omega arith); exact = λ e near. absurd (omega arith); beyond = λ l. h }

-- one step more, before the steps from t on
before : (d : Direction) (x s : ℕ) (strips : List ℕ) (t : Step) (ts : List Step) → Stepped d x s t → From d t.x strips ts → From d x (s ∷ strips) (t ∷ ts)
unfolding last_x rests_of total_of sizes_of all
before d x s strips t ts g h =
    let far : distance_from x (s ∷ strips) (t ∷ ts) ≤ distance_from t.x strips ts + off_by x s t =
    along (pattern_value (last_x t.x ts)) (total_of (rests_of ts)) (pattern_value t.x) (pattern_value t.y) (pattern_value x) (pattern_value s) (total_of strips) in
    record {
      few = omega (arith, h.few);
      finite = and_made (and_made g.x_finite g.y_finite) h.finite;
      within = λ e. omega (arith, far, g.within, h.within (omega arith));
      exact = λ e near. omega (arith, far, g.exact near, h.exact (omega arith) near);
      beyond = λ l. h.beyond (omega arith);
    }

pub from : (d : Direction) (strips : List ℕ) → AllFinite strips → (x : ℕ) → finite x ≡ true → From d x strips (steps_from d x strips)
unfolding steps_from
from d [] f x i = ended d x
from d (s ∷ strips) f x i = by (from d strips (λ k l. f (suc k) (omega arith))) (strip_added d x s) (outcome d x s i (f 0 (omega arith)))
  where
    by : ((x : ℕ) → finite x ≡ true → From d x strips (steps_from d x strips)) → (p : Option Step) → Outcome d x s p
        → From d x (s ∷ strips) (and_on p (λ t. t ∷ steps_from d t.x strips))
    by others p (added {t = t} g) = before d x s strips t (steps_from d t.x strips) g (others t.x g.x_finite)
    by others p (too_large e h) = stopped d x s strips h
