-- What one step of a boundary's sum gives: demand 3 on two finite patterns. Only the first of its three steps may be too large.
use Rattle.std.specs.Prelude.{Option, Some, None}
use Rattle.std.specs.declared.cmp.Ordering.TheVariants.{Less}
use Rattle.theory.proofs.Prelude.{ℕ, ◌≤◌, ◌<◌, ◌^◌, ◌*◌, true, false, Bool, cond, [], ◌∷◌, ◌∙◌, ap, ◌≡◌, sym, refl, ap₂, subst, dec_le, arith, leb, ℤ, ◌+ℤ◌, nat_abs, ◌-ℤ◌, +ℤ_comm, le-leb, leb-true, lt-leb, leb-false, lt-ltb}
use Rattle.theory.specs.declared.Direction.{Direction}
use Rattle.theory.specs.Lists.{all}
use Rattle.theory.specs.Signed.{round_z}
use Rattle.theory.proofs.Tests.{and_made}
use Rattle.theory.proofs.Round.{Nearest}
use Rattle.format.specs.declared.Format.{Format}
use Rattle.format.specs.Given.{Given, gives, refused}
use Rattle.format.specs.Directions.{is_direction, direction}
use Rattle.format.specs.Published.{binary32}
use Rattle.format.proofs.GivenLaws.{gives_same, gives_not_refused}
use Rattle.number.specs.declared.Number.{Number}
use Rattle.number.specs.Numbers.{member, magnitude, value}
use Rattle.number.specs.Order.{order_n}
use Rattle.number.proofs.Comparison.{size_less_says}
use Rattle.arithmetic.specs.Operations.{rounded_sum}
use Rattle.arithmetic.proofs.Algebra.{sum_swap}
use Rattle.fast_two_sum.specs.declared.Steps.{Steps}
use Rattle.fast_two_sum.specs.Triples.{Summands}
use Rattle.fast_two_sum.specs.Calls.{three_steps, fast_two_sum}
use Rattle.fast_two_sum.proofs.Bounds.{bound, value_size}
use Rattle.fast_two_sum.specs.Outcomes as demand
use Rattle.fast_two_sum.specs.Outcomes.{SumOutcome}
use Rattle.fast_two_sum.proofs.Demand.{passes, steps_outcome_law, nearest_sum_exact}
use Rattle.binary32.specs.Patterns.{finite, pattern_value, number_read, pattern_of, answer_written}
use Rattle.binary32.proofs.Fields.{binary32_limits}
use Rattle.binary32.proofs.RoundTrips.{Reads, reads, read_made, read_member, written_read}
use Rattle.binary32.proofs.PatternValues.{read_is_value}
pub use Rattle.boundaries.specs.Outcomes.{TooMuch, pair_sum}
use Rattle.boundaries.specs.declared.Step.{Step}
use Rattle.boundaries.specs.Sums.{three_sum, step_written, strip_added}
use Rattle.boundaries.specs.Steps.{first_step}

-- ---- two numbers
-- three steps from two numbers whose exact sum is v, given as g, gave x and y
record Triple (d : Direction) (g : Given Number) (v : ℤ) (t : Steps) : Type 0 where
  first : g ≡ gives t.x
  x_is : value binary32 t.x ≡ round_z 2 24 d v 1
  x_number : member binary32 t.x ≡ true
  y_number : member binary32 t.y ≡ true
  within : 2 ^ 47 * nat_abs (value binary32 t.x +ℤ value binary32 t.y -ℤ v) ≤ magnitude binary32 t.x
  exact : Nearest d → nat_abs (value binary32 t.x +ℤ value binary32 t.y -ℤ v) ≡ 0

data steps_outcome (d : Direction) (g : Given Number) (v : ℤ) : Given Steps → Type 0 where
  triple : {t : Steps} → Triple d g v t → steps_outcome d g v (gives t)
  too_large : g ≡ refused 5 → TooMuch d v → steps_outcome d g v (refused 5)

-- what demand 3 says of our own sum
in_order : (d : Direction) {a b : Number} → Summands binary32 a b → steps_outcome d (rounded_sum binary32 d a b) (value binary32 a +ℤ value binary32 b) (three_steps binary32 d d d a b)
in_order d {a} {b} s = by (steps_outcome_law binary32_limits s d d d)
  where
    by : {g : Given Steps} → SumOutcome binary32 d d d a b g → steps_outcome d (rounded_sum binary32 d a b) (value binary32 a +ℤ value binary32 b) g
    by (demand.triple t r e) =
        triple
        (record {
          first = e;
          x_is = r.x_is.value;
          x_number = r.x_is.member;
          y_number = r.y_is.member;
          within = (bound s t).by_x;
          exact = λ near. nearest_sum_exact binary32_limits s d d d near r;
        })
    by (demand.too_large l e) = too_large e l

-- the order by the magnitudes
module _ (d : Direction) (x s : Number) where
  order_first : magnitude binary32 s ≤ magnitude binary32 x → three_steps binary32 d d d x s ≡ three_sum d x s
  unfolding three_sum
  order_first l = rw (le-leb _ _ l)

  order_second : magnitude binary32 x < magnitude binary32 s → three_steps binary32 d d d s x ≡ three_sum d x s
  unfolding three_sum
  order_second l = rw (lt-leb _ _ l)

  module _ (i : member binary32 x ≡ true) (j : member binary32 s ≡ true) where
    sum_outcome : steps_outcome d (rounded_sum binary32 d x s) (value binary32 x +ℤ value binary32 s) (three_sum d x s)
    sum_outcome = by (dec_le (magnitude binary32 s) (magnitude binary32 x))
      where
        by : Dec (magnitude binary32 s ≤ magnitude binary32 x) → steps_outcome d (rounded_sum binary32 d x s) (value binary32 x +ℤ value binary32 s) (three_sum d x s)
        by (yes l) =
            subst (steps_outcome d (rounded_sum binary32 d x s) (value binary32 x +ℤ value binary32 s)) (order_first l)
            (in_order d (record { base = refl; digits = omega arith; a_number = i; b_number = j; order = l }))
        by (no l) =
            subst (λ (g : Given Number). steps_outcome d g (value binary32 x +ℤ value binary32 s) (three_sum d x s)) (sum_swap binary32 d s x)
            (subst (λ (v : ℤ). steps_outcome d (rounded_sum binary32 d s x) v (three_sum d x s)) (+ℤ_comm (value binary32 s) (value binary32 x))
            (subst (steps_outcome d (rounded_sum binary32 d s x) (value binary32 s +ℤ value binary32 x)) (order_second (omega arith))
            (in_order d (record { base = refl; digits = omega arith; a_number = j; b_number = i; order = omega arith }))))

not_less_says : {m n : ℕ} → (order_n m n ≡ Less → ⊥) → n ≤ m
unfolding order_n
not_less_says {m} {n} h = by (dec_le n m)
  where
    by : Dec (n ≤ m) → n ≤ m
    by (yes l) = l
    by (no l) = absurd (h (rw (lt-ltb m n (omega arith))))

-- the code compares in a format that is binary32
module _ (d : Direction) (x s : Number) {f : Format} (e : f ≡ binary32) where
  pub less_turned : order_n (magnitude f x) (magnitude f s) ≡ Less → three_steps f d d d s x ≡ three_sum d x s
  less_turned h = rw e (order_second d x s (size_less_says (rw e at h)))

  pub others_kept : (order_n (magnitude f x) (magnitude f s) ≡ Less → ⊥) → three_steps f d d d x s ≡ three_sum d x s
  others_kept h = rw e (order_first d x s (not_less_says (rw e at h)))

three_times : (d : ℕ) → is_direction d ≡ true → all is_direction (d ∷ d ∷ d ∷ []) ≡ true
unfolding all
three_times d h = and_made h (and_made h (and_made h refl))

-- a step is what the call fast_two_sum answers, in binary32 and in one direction
pub is_fast_two_sum : (d : ℕ) → is_direction d ≡ true → (x s : Number) → member binary32 x ≡ true → member binary32 s ≡ true
    → three_sum (direction d) x s ≡ cond (leb (magnitude binary32 s) (magnitude binary32 x)) (fast_two_sum binary32 d d d x s) (fast_two_sum binary32 d d d s x)
unfolding three_sum
is_fast_two_sum d h x s i j = by (leb (magnitude binary32 s) (magnitude binary32 x)) refl
  where
    by : (t : Bool) → leb (magnitude binary32 s) (magnitude binary32 x) ≡ t
        → cond t (three_steps binary32 (direction d) (direction d) (direction d) x s) (three_steps binary32 (direction d) (direction d) (direction d) s x)
        ≡ cond t (fast_two_sum binary32 d d d x s) (fast_two_sum binary32 d d d s x)
    by true e =
        sym (passes binary32_limits (record { base = refl; digits = omega arith; a_number = i; b_number = j; order = leb-true _ _ e }) d d d (three_times d h))
    by false e =
        sym
        (passes binary32_limits
        (record { base = refl; digits = omega arith; a_number = j; b_number = i; order = omega (arith, leb-false (magnitude binary32 s) (magnitude binary32 x) e) }) d d d
        (three_times d h))

-- ---- two patterns
finite_member : (n : ℕ) → finite n ≡ true → member binary32 (number_read n) ≡ true
finite_member n h = read_member n (read_made n h)

-- a number, written
back_written : (z : Number) → member binary32 z ≡ true → Reads (pattern_of z) z
back_written z h = reads (pattern_of z) (written_read z h)

written_finite : (z : Number) → member binary32 z ≡ true → finite (pattern_of z) ≡ true
written_finite z h = (back_written z h).finite

written_value : (z : Number) → member binary32 z ≡ true → pattern_value (pattern_of z) ≡ value binary32 z
written_value z h = sym (read_is_value (pattern_of z) (written_finite z h)) ∙ ap (value binary32) (sym (back_written z h).is)

-- how far x and y after a step are from x and s before it
abbrev pub off_by : (x s : ℕ) (t : Step) → ℕ
off_by x s t = nat_abs (pattern_value t.x +ℤ pattern_value t.y -ℤ pair_sum x s)

pub record Stepped (d : Direction) (x s : ℕ) (t : Step) : Type 0 where
  pub first : first_step d x s ≡ gives t.x
  pub x_is : pattern_value t.x ≡ round_z 2 24 d (pair_sum x s) 1
  pub x_finite : finite t.x ≡ true
  pub y_finite : finite t.y ≡ true
  pub within : 2 ^ 47 * off_by x s t ≤ nat_abs (pattern_value t.x)
  pub exact : Nearest d → off_by x s t ≡ 0

-- a step of two finite patterns is added, or its first sum is too large
pub data Outcome (d : Direction) (x s : ℕ) : Option Step → Type 0 where
  added : {t : Step} → Stepped d x s t → Outcome d x s (Some t)
  too_large : first_step d x s ≡ refused 5 → TooMuch d (pair_sum x s) → Outcome d x s None

module _ (d : Direction) (x s : ℕ) (i : finite x ≡ true) (j : finite s ≡ true) where
  same_sum : value binary32 (number_read x) +ℤ value binary32 (number_read s) ≡ pair_sum x s
  same_sum = ap₂ ◌+ℤ◌ (read_is_value x i) (read_is_value s j)

  written_step : {t : Steps} → Triple d (rounded_sum binary32 d (number_read x) (number_read s)) (pair_sum x s) t → Stepped d x s (record { x = pattern_of t.x; y = pattern_of t.y })
  unfolding first_step
  written_step {t} g =
      let vx : pattern_value (pattern_of t.x) ≡ value binary32 t.x = written_value t.x g.x_number in
      let vy : pattern_value (pattern_of t.y) ≡ value binary32 t.y = written_value t.y g.y_number in
      let same : off_by x s (record { x = pattern_of t.x; y = pattern_of t.y }) ≡ nat_abs (value binary32 t.x +ℤ value binary32 t.y -ℤ pair_sum x s) =
      ap₂ (λ (u v : ℤ). nat_abs (u +ℤ v -ℤ pair_sum x s)) vx vy in
      record {
        first = ap answer_written g.first;
        x_is = vx ∙ g.x_is;
        x_finite = written_finite t.x g.x_number;
        y_finite = written_finite t.y g.y_number;
        within = omega (arith, g.within, same, ap nat_abs vx, value_size binary32 t.x);
        exact = λ near. same ∙ g.exact near;
      }

  pub outcome : Outcome d x s (strip_added d x s)
  unfolding strip_added first_step
  outcome =
      by (three_sum d (number_read x) (number_read s))
      (subst (λ (v : ℤ). steps_outcome d (rounded_sum binary32 d (number_read x) (number_read s)) v (three_sum d (number_read x) (number_read s))) same_sum
      (sum_outcome d (number_read x) (number_read s) (finite_member x i) (finite_member s j)))
    where
      by : (p : Given Steps) → steps_outcome d (rounded_sum binary32 d (number_read x) (number_read s)) (pair_sum x s) p → Outcome d x s (step_written p)
      by p (triple g) = added (written_step g)
      by p (too_large e l) = too_large (ap answer_written e) l

-- ---- what the code reads and adds
pub read_number : (n : ℕ) {z : Number} → z ≡ number_read n → finite n ≡ true → member binary32 z ≡ true
read_number n e h = rw e (finite_member n h)

-- where there is a triple, x and y are in the format
pub triple_members : (d : Direction) (x s : Number) → member binary32 x ≡ true → member binary32 s ≡ true → {t : Steps} → three_sum d x s ≡ gives t
    → (member binary32 t.x ≡ true) × (member binary32 t.y ≡ true)
triple_members d x s i j {t} e = by (three_sum d x s) (sum_outcome d x s i j) e
  where
    by : (p : Given Steps) → steps_outcome d (rounded_sum binary32 d x s) (value binary32 x +ℤ value binary32 s) p → p ≡ gives t → (member binary32 t.x ≡ true) × (member binary32 t.y ≡ true)
    by p (triple {t = r} g) e = let same : r ≡ t = gives_same e in subst (λ (u : Steps). (member binary32 u.x ≡ true) × (member binary32 u.y ≡ true)) same (g.x_number, g.y_number)
    by p (too_large e l) k = absurd (gives_not_refused (sym k))

pub sum_written : (d : Direction) (x s : ℕ) {a b : Number} {r : Given Steps} → a ≡ number_read x → b ≡ number_read s → r ≡ three_sum d a b → step_written r ≡ strip_added d x s
unfolding strip_added
sum_written d x s i j e = ap step_written (e ∙ ap₂ (three_sum d) i j)

pub first_written : (d : Direction) (x s : ℕ) {a b : Number} {f : Format} {r : Given Number} → f ≡ binary32 → a ≡ number_read x → b ≡ number_read s → r ≡ rounded_sum f d a b
    → answer_written r ≡ first_step d x s
unfolding first_step
first_written d x s k i j e = rw (e, k, i, j)

-- ---- what follows from one step's answer
module _ (d : Direction) (x s : ℕ) (i : finite x ≡ true) (j : finite s ≡ true) where
  pub added_finite : {t : Step} → strip_added d x s ≡ Some t → finite t.x ≡ true
  added_finite {t} e = by (strip_added d x s) (outcome d x s i j) e
    where
      by : (p : Option Step) → Outcome d x s p → p ≡ Some t → finite t.x ≡ true
      by p (added {t = u} g) e = let same : u ≡ t = cc in subst (λ (u : Step). finite u.x ≡ true) same g.x_finite
      by p (too_large e l) k = absurd (let o : ◌≡◌ {A = ℕ} 0 1 = cc in omega arith)

  -- the first step's x is that of the step
  pub first_added : {n : ℕ} → first_step d x s ≡ gives n → (t : Step) × (strip_added d x s ≡ Some t) × (t.x ≡ n) × (finite n ≡ true)
  first_added {n} e = by (strip_added d x s) refl (outcome d x s i j)
    where
      by : (p : Option Step) → strip_added d x s ≡ p → Outcome d x s p → (t : Step) × (strip_added d x s ≡ Some t) × (t.x ≡ n) × (finite n ≡ true)
      by p k (added {t} g) =
          let same : t.x ≡ n = gives_same (sym g.first ∙ e) in
          (t, k, same, subst (λ (u : ℕ). finite u ≡ true) same g.x_finite)
      by p k (too_large f l) = absurd (gives_not_refused (sym e ∙ f))

  pub first_refused_law : {k : ℕ} → first_step d x s ≡ refused k → strip_added d x s ≡ None
  first_refused_law e = by (strip_added d x s) (outcome d x s i j)
    where
      by : (p : Option Step) → Outcome d x s p → p ≡ None
      by p (added {t} g) = absurd (gives_not_refused (sym g.first ∙ e))
      by p (too_large f l) = refl
