-- The strips of a boundary summed from the first on. The running sum and the rests are binary32 patterns.
use Rattle.std.specs.Prelude.{ℕ, suc, cond, Option, Some, None, List, [], ◌∷◌, leb, eqb, length}
use Rattle.theory.specs.Tests.{◌and◌, unless}
use Rattle.theory.specs.Lists.{first_where, none}
use Rattle.theory.specs.declared.Direction.{Direction}
use Rattle.format.specs.Given.{Given, gives, refused, refused_at}
use Rattle.format.specs.Directions.{is_direction, direction}
use Rattle.format.specs.Published.{binary32}
use Rattle.number.specs.declared.Number.{Number}
use Rattle.number.specs.Numbers.{magnitude}
use Rattle.fast_two_sum.specs.declared.Steps.{Steps}
use Rattle.fast_two_sum.specs.Calls.{three_steps}
use Rattle.binary32.specs.Patterns.{not_finite, number_read, pattern_of}
use Rattle.boundaries.specs.declared.Step.{Step}

-- ---- one step
-- the three-step sum of x and s with the larger magnitude first, x first at equality, in one direction
unfoldable pub three_sum : Direction → (x s : Number) → Given Steps
three_sum d x s = cond (leb (magnitude binary32 s) (magnitude binary32 x)) (three_steps binary32 d d d x s) (three_steps binary32 d d d s x)

-- x and y written as patterns
abbrev pub step_written : Given Steps → Option Step
step_written (gives t) = Some (record { x = pattern_of t.x; y = pattern_of t.y })
step_written (refused number) = None
step_written (refused_at number index) = None

-- the strip s added to the running sum x
unfoldable pub strip_added : Direction → (x s : ℕ) → Option Step
strip_added d x s = step_written (three_sum d (number_read x) (number_read s))

-- ---- all steps
-- what comes after a step; nothing after one that is too large
abbrev pub and_on : Option Step → (Step → List Step) → List Step
and_on (Some t) next = next t
and_on None next = []

-- x and y of each step from the running sum x on, until one is too large
unfoldable pub steps_from : Direction → (x : ℕ) (strips : List ℕ) → List Step
steps_from d x [] = []
steps_from d x (s ∷ strips) = and_on (strip_added d x s) (λ t. t ∷ steps_from d t.x strips)

-- the steps of a boundary begin with its first strip
unfoldable pub boundary_steps : Direction → (strips : List ℕ) → List Step
boundary_steps d [] = []
boundary_steps d (s ∷ strips) = steps_from d s strips

-- the last x
unfoldable pub last_x : (x : ℕ) → List Step → ℕ
last_x x [] = x
last_x x (t ∷ ts) = last_x t.x ts

-- each y
unfoldable pub rests_of : List Step → List ℕ
rests_of [] = []
rests_of (t ∷ ts) = t.y ∷ rests_of ts

-- the first strip
unfoldable pub first_of : List ℕ → ℕ
first_of [] = 0
first_of (s ∷ strips) = s

-- ---- the call
-- refusal 5 with the index of the strip that made x too large, the strips before it having been added; or the last x
unfoldable pub strips_summed : Direction → (strips : List ℕ) → Given ℕ
strips_summed d strips =
    unless (eqb (suc (length (boundary_steps d strips))) (length strips)) (refused_at 5 (suc (length (boundary_steps d strips))))
    (gives (last_x (first_of strips) (boundary_steps d strips)))

-- the answer of boundary_sum: the number of strips (18), the second length (11), the direction (2), the first strip that is not
-- finite (9), then 5 or the sum
unfoldable pub boundary_answer : (d : ℕ) (strips rests : List ℕ) → Given ℕ
boundary_answer d strips rests =
    unless (leb 1 (length strips) and leb (length strips) 4096) (refused 18)
    (unless (eqb (suc (length rests)) (length strips)) (refused 11)
    (unless (is_direction d) (refused 2)
    (unless (none not_finite strips) (refused_at 9 (first_where not_finite strips))
    (strips_summed (direction d) strips))))

-- where a sum is given the new entries, at a refusal the old ones
abbrev pub written_where : Given ℕ → (new old : List ℕ) → List ℕ
written_where (gives sum) new old = new
written_where (refused number) new old = old
written_where (refused_at number index) new old = old

-- what `rests` holds afterwards: each y, or at a refusal what it held before
unfoldable pub boundary_rests : (d : ℕ) (strips rests : List ℕ) → List ℕ
boundary_rests d strips rests = written_where (boundary_answer d strips rests) (rests_of (boundary_steps (direction d) strips)) rests
