-- The customer's lines, in decimal with 7 digits: 1000.000 is one line with 999.9999 and with 1000.001, and with nothing farther away.
use Rattle.theory.proofs.Prelude.{ℕ, true, false, List, [], ◌∷◌, map, ◌≡◌, refl, negsuc}
use Rattle.theory.specs.Tests.{◌and◌, ◌or◌, unless}
use Rattle.theory.specs.Lists.{all}
use Rattle.theory.specs.Place.{search_place, place, step}
use Rattle.theory.specs.Neighbours.{floor_to, ceil_to, lower, upper, lower_q, upper_q}
use Rattle.theory.specs.Round.{location, chosen, takes_upper, round}
use Rattle.theory.specs.Signed.{round_z, successor}
use Rattle.format.specs.Formats.{exponents_admitted, admitted}
use Rattle.format.specs.Directions.{is_direction}
use Rattle.format.specs.Published.{decimal32}
use Rattle.format.specs.Given.{gives}
use Rattle.number.specs.declared.Number.{Number}
use Rattle.number.specs.Numbers.{equal_z, normal, small, is_zero, member, magnitude, value}
use Rattle.number.specs.Checks.{checked}
use Rattle.units.specs.Neighbours.{within_step, within_one_step}

-- thousandths and ten-thousandths
abbrev thousandths : ℕ → Number
thousandths m = record { negative = false; significand = m; exponent = negsuc 2 }

abbrev ten_thousandths : ℕ → Number
ten_thousandths m = record { negative = false; significand = m; exponent = negsuc 3 }

-- 999.9999, 1000.000 and 1000.001; 999.9998, 999.9991, 999.9990 and 1000.002
abbrev near : List Number
near = ten_thousandths 9999999 ∷ thousandths 1000000 ∷ thousandths 1000001 ∷ []

abbrev far : List Number
far = ten_thousandths 9999998 ∷ ten_thousandths 9999991 ∷ ten_thousandths 9999990 ∷ thousandths 1000002 ∷ []

pub one_line : map (within_one_step decimal32 (thousandths 1000000)) near ≡ gives true ∷ gives true ∷ gives true ∷ []
unfolding within_one_step within_step checked all unless ◌and◌ ◌or◌ exponents_admitted admitted is_direction equal_z normal small is_zero member magnitude value successor round_z round takes_upper chosen location lower_q upper_q lower upper floor_to ceil_to step place search_place
one_line = refl

pub other_lines : map (within_one_step decimal32 (thousandths 1000000)) far ≡ gives false ∷ gives false ∷ gives false ∷ gives false ∷ []
unfolding within_one_step within_step checked all unless ◌and◌ ◌or◌ exponents_admitted admitted is_direction equal_z normal small is_zero member magnitude value successor round_z round takes_upper chosen location lower_q upper_q lower upper floor_to ceil_to step place search_place
other_lines = refl
