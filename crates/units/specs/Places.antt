-- The places of a number x of the format f, as numbers of the format.
use Rattle.std.specs.Prelude.{false, [], ◌∷◌}
use Rattle.theory.specs.Units.{ufp, ulp, uls}
use Rattle.format.specs.declared.Format.{Format}
use Rattle.number.specs.declared.Number.{Number}
use Rattle.format.specs.Given.{Given, gives}
use Rattle.number.specs.Numbers.{magnitude, number}
use Rattle.number.specs.Checks.{checked}
use Rattle.units.specs.declared.places.Place.{Place}
use Rattle.units.specs.declared.places.Place.TheVariants.{First, Last, Least}

-- ufp(x), the first place
unfoldable pub first_place : Format → Number → Given Number
first_place f x = checked f [] (x ∷ []) (gives (number f false (ufp f.base (magnitude f x))))

-- ulp(x), the last place
unfoldable pub last_place : Format → Number → Given Number
last_place f x = checked f [] (x ∷ []) (gives (number f false (ulp f.base f.digits (magnitude f x))))

-- uls(x), the place of the least nonzero digit
unfoldable pub least_place : Format → Number → Given Number
least_place f x = checked f [] (x ∷ []) (gives (number f false (uls f.base (magnitude f x))))

-- the code's places: the number of one, and the answer of its call
abbrev pub place_number : Place → Format → Number → Number
place_number First f x = number f false (ufp f.base (magnitude f x))
place_number Last f x = number f false (ulp f.base f.digits (magnitude f x))
place_number Least f x = number f false (uls f.base (magnitude f x))

abbrev pub place_answer : Place → Format → Number → Given Number
place_answer First f x = first_place f x
place_answer Last f x = last_place f x
place_answer Least f x = least_place f x
