-- What boundary_sum gives, in the words of request 14: each refusal with its condition, exactly where no earlier one holds, or the sum.
use Rattle.std.specs.Prelude.{ℕ, suc, ◌≤◌, ◌<◌, ◌≡◌, true, false, List, ℤ, nat_abs, ◌+ℤ◌, length, get_or}
use Rattle.theory.specs.declared.Direction.{Direction}
use Rattle.theory.specs.Signed.{round_z}
use Rattle.format.specs.Given.{Given, gives, refused, refused_at}
use Rattle.format.specs.Directions.{direction}
use Rattle.format.specs.Published.{binary32}
use Rattle.number.specs.Numbers.{greatest}
use Rattle.binary32.specs.Patterns.{finite, pattern_value}
use Rattle.boundaries.specs.Sums.{boundary_steps, last_x, first_of}

-- every strip is finite
abbrev pub AllFinite : List ℕ → Type 0
AllFinite strips = (k : ℕ) → k < length strips → finite (get_or strips k 0) ≡ true

-- the exact sum of two patterns
abbrev pub pair_sum : (x s : ℕ) → ℤ
pair_sum x s = pattern_value x +ℤ pattern_value s

-- v, rounded, is beyond the greatest number
abbrev pub TooMuch : Direction → ℤ → Type 0
TooMuch d v = greatest binary32 < nat_abs (round_z 2 24 d v 1)

-- 1 to 4,096 strips
abbrev pub Counted : (strips : List ℕ) → Type 0
Counted strips = (1 ≤ length strips) × (length strips ≤ 4096)

-- the checks of the lengths and of the direction are passed
pub record Entered (d : ℕ) (strips rests : List ℕ) : Type 0 where
  pub counted : Counted strips
  pub second : suc (length rests) ≡ length strips
  pub directed : d ≤ 4

-- strip i is the first that is not finite
pub record NotFiniteAt (strips : List ℕ) (i : ℕ) : Type 0 where
  pub within : i < length strips
  pub fails : finite (get_or strips i 0) ≡ false
  pub earlier : (k : ℕ) → k < i → finite (get_or strips k 0) ≡ true

-- strip i made the sum too large
pub record TooLargeAt (d : ℕ) (strips : List ℕ) (i : ℕ) : Type 0 where
  pub within : i < length strips
  -- the strips before it were added
  pub earlier : suc (length (boundary_steps (direction d) strips)) ≡ i
  -- their sum and strip i, rounded, are beyond the greatest number
  pub beyond : TooMuch (direction d) (pair_sum (last_x (first_of strips) (boundary_steps (direction d) strips)) (get_or strips i 0))

-- all strips were added
pub record Summed (d : ℕ) (strips : List ℕ) (sum : ℕ) : Type 0 where
  pub complete : suc (length (boundary_steps (direction d) strips)) ≡ length strips
  pub is : sum ≡ last_x (first_of strips) (boundary_steps (direction d) strips)

pub data Ends (d : ℕ) (strips rests : List ℕ) : Given ℕ → Type 0 where
  strip_count : ¬ Counted strips → Ends d strips rests (refused 18)
  second_length : Counted strips → ¬ (suc (length rests) ≡ length strips) → Ends d strips rests (refused 11)
  no_direction : Counted strips → suc (length rests) ≡ length strips → 4 < d → Ends d strips rests (refused 2)
  not_finite_case : Entered d strips rests → {i : ℕ} → NotFiniteAt strips i → Ends d strips rests (refused_at 9 i)
  too_large : Entered d strips rests → AllFinite strips → {i : ℕ} → TooLargeAt d strips i → Ends d strips rests (refused_at 5 i)
  all_added : Entered d strips rests → AllFinite strips → {sum : ℕ} → Summed d strips sum → Ends d strips rests (gives sum)
