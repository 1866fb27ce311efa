-- The premises of Rump's routes, as document 01 decides them.
use Rattle.std.specs.Prelude.{◌^◌, ◌+◌, ◌*◌, ◌-◌, ◌≡◌, Bool, true, not, ltb, eqb, pos, neg_ℤ}
use Rattle.std.specs.Int.Signed.{le_z}
use Rattle.theory.specs.Tests.{◌and◌}
use Rattle.format.specs.declared.Format.{Format}
use Rattle.format.specs.declared.Prepared.{Prepared}
use Rattle.format.specs.Formats.{highest_place}
use Rattle.number.specs.declared.Number.{Number}
use Rattle.number.specs.Numbers.{member, magnitude, greatest}
use Rattle.number.specs.Checks.{Usable}
use Rattle.rump.specs.declared.Figure.{Figure}
use Rattle.rump.specs.declared.Figure.TheVariants.{First, Third, Fourth, Fifth}

-- for figures 1, 3, 4 and 5: Emin ≤ -p and p ≤ Emax
unfoldable pub premise : Format → Bool
premise f = le_z f.emin (neg_ℤ (pos f.digits)) and le_z (pos f.digits) f.emax

-- figure 1: |x| < β ^ (Emax - p + 1), which is β ^ (Emax - Emin + 1 - p) units
unfoldable pub first_premise : Format → Number → Bool
first_premise f x = premise f and ltb (magnitude f x) (f.base ^ (highest_place f + 1 - f.digits))

-- figures 3, 4 and 5: x is not zero, and |x| is not the greatest number
unfoldable pub last_premise : Format → Number → Bool
last_premise f x = premise f and not (eqb (magnitude f x) 0) and not (eqb (magnitude f x) (greatest f))

-- ---- with the successor, in any direction
-- figure 3: x is not zero, and |x| is not the greatest number
unfoldable pub next_premise : Format → Number → Bool
next_premise f x = not (eqb (magnitude f x) 0) and not (eqb (magnitude f x) (greatest f))

-- Emin ≤ p - 1 and 0 ≤ Emax: β ^ (p - 1) is a number of the format
unfoldable pub lead_premise : Format → Bool
lead_premise f = le_z f.emin (pos (f.digits - 1)) and le_z (pos 0) f.emax

-- figure 6: that, x is not zero, and |x| β ^ (p - 1) is less than the greatest number: |x| < (β ^ p - 1) β ^ (Emax - p + 1)
unfoldable pub scaled_premise : Format → Number → Bool
scaled_premise f x = lead_premise f and not (eqb (magnitude f x) 0) and ltb (magnitude f x * f.base ^ (f.digits - 1)) (greatest f)

-- ---- of each figure
abbrev pub premise_of : Figure → Format → Number → Bool
premise_of First f x = first_premise f x
premise_of Third f x = last_premise f x
premise_of Fourth f x = last_premise f x
premise_of Fifth f x = last_premise f x

-- what a figure's function is handed: a format that keeps the premise, prepared, and a number of it
pub record Run (q : Prepared) (x : Number) : Type 0 where
  pub usable : Usable q
  pub kept : premise q.format ≡ true
  pub number : member q.format x ≡ true
