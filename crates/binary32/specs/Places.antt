-- The places and the neighbours of a number, as patterns.
use Rattle.std.specs.Prelude.{ℕ}
use Rattle.format.specs.Given.{Given, given}
use Rattle.format.specs.Published.{binary32}
use Rattle.number.specs.declared.Number.{Number}
use Rattle.units.specs.Places.{first_place, last_place}
use Rattle.units.specs.Neighbours.{predecessor_of, successor_of}
use Rattle.binary32.specs.Patterns.{answer_written}
use Rattle.binary32.specs.declared.places.Places.{Places}

pub record PlacesGiven : Type 0 where
  pub ufp : Given ℕ
  pub ulp : Given ℕ
  pub predecessor : Given ℕ
  pub successor : Given ℕ

abbrev pub places_of : Number → PlacesGiven
places_of x =
    record {
      ufp = answer_written (first_place binary32 x);
      ulp = answer_written (last_place binary32 x);
      predecessor = answer_written (predecessor_of binary32 x);
      successor = answer_written (successor_of binary32 x);
    }

-- the code's places in these terms
abbrev pub places_given : Places → PlacesGiven
places_given p = record { ufp = given p.ufp; ulp = given p.ulp; predecessor = given p.predecessor; successor = given p.successor }
