-- What Rump's routes answer: refusals 1, 2 (with a direction) and 3, then 8 where the premise fails, then the figure on |x|.
use Rattle.std.specs.Prelude.{ℕ, ◌≡◌, Bool, true, false, [], ◌∷◌}
use Rattle.theory.specs.Tests.{unless}
use Rattle.format.specs.declared.Format.{Format}
use Rattle.format.specs.Formats.{admitted}
use Rattle.format.specs.Directions.{is_direction, direction}
use Rattle.format.specs.Given.{Given, refused}
use Rattle.number.specs.declared.Number.{Number}
use Rattle.number.specs.Numbers.{member, magnitude, number}
use Rattle.number.specs.Checks.{checked}
use Rattle.rump.specs.declared.Figure.{Figure}
use Rattle.rump.specs.declared.Figure.TheVariants.{First, Third, Fourth, Fifth}
use Rattle.rump.specs.Premises.{premise_of, next_premise, scaled_premise}
use Rattle.rump.specs.Figures.{figure1, figure3, figure4, figure5, gap_above, figure6}

abbrev pub figure_of : Figure → Format → Number → Given Number
figure_of First f x = figure1 f x
figure_of Third f x = figure3 f x
figure_of Fourth f x = figure4 f x
figure_of Fifth f x = figure5 f x

-- the figure on |x|
abbrev pub figured : Figure → Format → Number → Given Number
figured figure f x = figure_of figure f (number f false (magnitude f x))

unfoldable pub route : Figure → Format → Number → Given Number
route figure f x = checked f [] (x ∷ []) (unless (premise_of figure f x) (refused 8) (figured figure f x))

-- each refusal exactly when its condition holds and no earlier one does
pub data RouteChecks (figure : Figure) (f : Format) (x : Number) : Given Number → Type 0 where
  not_admitted : admitted f ≡ false → RouteChecks figure f x (refused 1)
  not_member : admitted f ≡ true → member f x ≡ false → RouteChecks figure f x (refused 3)
  premise_fails : admitted f ≡ true → member f x ≡ true → premise_of figure f x ≡ false → RouteChecks figure f x (refused 8)
  runs : admitted f ≡ true → member f x ≡ true → premise_of figure f x ≡ true → RouteChecks figure f x (figured figure f x)

-- the answer of ufp_toward_zero
abbrev pub ufp_toward_zero : Format → Number → Given Number
ufp_toward_zero f x = route First f x

-- the answer of ulp_upward
abbrev pub ulp_upward : Format → Number → Given Number
ulp_upward f x = route Third f x

-- the answer of ulp_toward_zero
abbrev pub ulp_toward_zero : Format → Number → Given Number
ulp_toward_zero f x = route Fourth f x

-- the answer of ulp_toward_zero_unbranched
abbrev pub ulp_unbranched : Format → Number → Given Number
ulp_unbranched f x = route Fifth f x

-- ---- with the successor, in the direction with the number d
-- the answer of ulp_by_successor
unfoldable pub ulp_by_successor : Format → (d : ℕ) → Number → Given Number
ulp_by_successor f d x = checked f (d ∷ []) (x ∷ []) (unless (next_premise f x) (refused 8) (gap_above f (direction d) (number f false (magnitude f x))))

-- the answer of ufp_by_successor
unfoldable pub ufp_by_successor : Format → (d : ℕ) → Number → Given Number
ufp_by_successor f d x = checked f (d ∷ []) (x ∷ []) (unless (scaled_premise f x) (refused 8) (figure6 f (direction d) (number f false (magnitude f x))))

-- each refusal exactly when its condition holds and no earlier one does
pub data DirectedChecks (premise : Bool) (f : Format) (d : ℕ) (x : Number) (go_on : Given Number) : Given Number → Type 0 where
  not_admitted : admitted f ≡ false → DirectedChecks premise f d x go_on (refused 1)
  no_direction : admitted f ≡ true → is_direction d ≡ false → DirectedChecks premise f d x go_on (refused 2)
  not_member : admitted f ≡ true → is_direction d ≡ true → member f x ≡ false → DirectedChecks premise f d x go_on (refused 3)
  premise_fails : admitted f ≡ true → is_direction d ≡ true → member f x ≡ true → premise ≡ false → DirectedChecks premise f d x go_on (refused 8)
  runs : admitted f ≡ true → is_direction d ≡ true → member f x ≡ true → premise ≡ true → DirectedChecks premise f d x go_on go_on
