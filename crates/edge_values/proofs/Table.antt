-- The starred values are what the definitions give: one table, one test that the checker computes, and a law for each row.
use Rattle.theory.proofs.Prelude.{ℕ, xor, List, map, ap, ◌≡◌, refl, get_or}
use Rattle.theory.specs.Lists.{all}
use Rattle.theory.specs.Tests.{◌and◌, ◌or◌, unless}
use Rattle.theory.specs.Place.{search_place, place, step}
use Rattle.theory.specs.Neighbours.{floor_to, ceil_to, lower, upper, lower_q, upper_q}
use Rattle.theory.specs.Round.{location, chosen, takes_upper, round}
use Rattle.theory.specs.Signed.{round_z, predecessor, successor}
use Rattle.theory.specs.Units.{ufp, ulp, search_zeros, zeros, uls}
use Rattle.format.specs.Formats.{exponents_admitted, admitted}
use Rattle.format.specs.Directions.{is_direction, direction}
use Rattle.number.specs.Numbers.{equal_z, normal, small, is_zero, member, magnitude, value, greatest, number, delivered}
use Rattle.number.specs.Checks.{checked}
use Rattle.units.specs.Places.{first_place, last_place, least_place}
use Rattle.units.specs.Neighbours.{predecessor_of, successor_of}
use Rattle.theory.specs.Marks.{mark}
use Rattle.theory.specs.QuotientDigits.{digits_taken, lacking, brought}
use Rattle.arithmetic.specs.Operations.{rounded, rounded_z, rounded_product, rounded_quotient}
use Rattle.arithmetic.specs.Marked.{marked, sum_answer}
use Rattle.arithmetic.specs.Quotients.{quotient_digits, quotient_answer}
use Rattle.rump.specs.Premises.{premise, first_premise}
use Rattle.rump.specs.Figures.{figure1}
use Rattle.rump.specs.Routes.{route}
use Rattle.fast_two_sum.specs.Calls.{is_binary, order_checked, three_steps, fast_two_sum}
use Rattle.edge_values.specs.Rows.{Row, Result, off, rows}

-- the test
pub computed : map (λ (r : Row). r.call) rows ≡ map (λ (r : Row). r.paper) rows
unfolding rows ◌and◌ ◌or◌ unless search_place place step floor_to ceil_to lower upper lower_q upper_q location chosen takes_upper round round_z predecessor successor ufp ulp search_zeros zeros uls exponents_admitted admitted is_direction direction equal_z normal small is_zero member magnitude value greatest number delivered all checked first_place last_place least_place predecessor_of successor_of rounded rounded_z rounded_product rounded_quotient mark marked sum_answer digits_taken lacking brought quotient_digits quotient_answer is_binary order_checked three_steps fast_two_sum premise first_premise figure1 route xor
computed = refl

-- so each row holds: the call's answer is the paper's
pub row : (i : ℕ) → get_or (map (λ (r : Row). r.call) rows) i (off 0) ≡ get_or (map (λ (r : Row). r.paper) rows) i (off 0)
row i = ap (λ (l : List Result). get_or l i (off 0)) computed
