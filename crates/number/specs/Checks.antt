-- The checks that every call begins with, in the order of document 01: the format (1), the directions (2), the numbers (3).
use Rattle.std.specs.Prelude.{ℕ, ◌≡◌, Bool, true, false, List, [], ◌∷◌, leb, ltb, Result, Ok, Err}
use Rattle.theory.specs.declared.Direction.{Direction}
use Rattle.std.specs.Int.Signed.{le_z}
use Rattle.theory.specs.Tests.{◌and◌, ◌or◌, unless}
use Rattle.theory.specs.Lists.{all}
use Rattle.format.specs.declared.Format.{Format}
use Rattle.format.specs.declared.Prepared.{Prepared}
use Rattle.format.specs.declared.Refusal.{Refusal}
use Rattle.format.specs.declared.Refusal.TheVariants.{FormatNotAdmitted, NoSuchDirection, NumberNotInFormat}
use Rattle.format.specs.Given.{Given, refused}
use Rattle.format.specs.Formats.{admitted, prepared_of}
use Rattle.format.specs.Directions.{is_direction, direction}
use Rattle.number.specs.declared.Number.{Number}
use Rattle.number.specs.Numbers.{equal_z, member}

-- what a call gives: refusal 1, 2 or 3, or what comes after the checks
unfoldable pub checked : {A : Type 0} → Format → (directions : List ℕ) (numbers : List Number) → Given A → Given A
checked f directions numbers go_on =
    unless (admitted f) (refused 1)
    (unless (all is_direction directions) (refused 2)
    (unless (all (member f) numbers) (refused 3) go_on))

-- each refusal exactly when its condition holds and no earlier one does
pub data Checks {A : Type 0} (f : Format) (directions : List ℕ) (numbers : List Number) (go_on : Given A) : Given A → Type 0 where
  not_admitted : admitted f ≡ false → Checks f directions numbers go_on (refused 1)
  no_direction : admitted f ≡ true → all is_direction directions ≡ false → Checks f directions numbers go_on (refused 2)
  not_member : admitted f ≡ true → all is_direction directions ≡ true → all (member f) numbers ≡ false → Checks f directions numbers go_on (refused 3)
  all_passed : admitted f ≡ true → all is_direction directions ≡ true → all (member f) numbers ≡ true → Checks f directions numbers go_on go_on

-- ---- for inner functions: the checks as the code makes them, one after the other
-- one check more: the refusal that stands, or this one unless the prepared format passes
abbrev pub further : Refusal → (Prepared → Bool) → Result Prepared Refusal → Result Prepared Refusal
further refusal test (Err why) = Err why
further refusal test (Ok q) = unless (test q) (Err refusal) (Ok q)

-- x is in the format that was prepared
unfoldable pub member_of : Prepared → Number → Bool
member_of q x =
    leb q.scale.least x.significand and ltb x.significand q.scale.bound and le_z q.format.emin x.exponent and le_z x.exponent q.format.emax
    or equal_z x.exponent q.format.emin and ltb x.significand q.scale.least

-- the format, prepared, or the first of these refusals
unfoldable pub entered : Format → (directions : List ℕ) (numbers : List Number) → Result Prepared Refusal
entered f directions numbers =
    unless (admitted f) (Err FormatNotAdmitted)
    (unless (all is_direction directions) (Err NoSuchDirection)
    (unless (all (member f) numbers) (Err NumberNotInFormat) (Ok (prepared_of f))))

-- the same with one direction, which goes with the prepared format
abbrev pub beside : Direction → Result Prepared Refusal → Result (Prepared × Direction) Refusal
beside k (Ok q) = Ok (q, k)
beside k (Err why) = Err why

unfoldable pub directed : Format → (direction : ℕ) (numbers : List Number) → Result (Prepared × Direction) Refusal
directed f d numbers = beside (direction d) (entered f (d ∷ []) numbers)

-- what a passed check hands to the inner functions: an admitted format, prepared
pub record Usable (q : Prepared) : Type 0 where
  pub format : admitted q.format ≡ true
  pub is : q ≡ prepared_of q.format

-- and a number of it, or two
pub record Operand (q : Prepared) (x : Number) : Type 0 where
  pub usable : Usable q
  pub number : member q.format x ≡ true

pub record Operands (q : Prepared) (a b : Number) : Type 0 where
  pub usable : Usable q
  pub first : member q.format a ≡ true
  pub second : member q.format b ≡ true
