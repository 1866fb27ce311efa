-- `wide::long_division::take_digits` meets its contract. The invariant: the digits down to the place have been taken, no place before was
-- an end, and the quotient has at most the digits of the format. What the loop yields at each of its three ends is the invariant with
-- the test that ended it.
use Rattle.theory.proofs.Prelude.{◌<◌, ◌-◌}
use Rattle.wide.specs.Division.{Taken, NoEnd}
use Rattle.wide.proofs.long_division.take_digits.Given as goal

abbrev pub invariant-loop-taken : goal.invariant-loop-taken
invariant-loop-taken l =
    let v = l.taken in
    Taken l.scale.base l.n l.divisor l.places v.quotient v.remainder v.place × NoEnd l.scale l.n l.divisor l.places (l.places - v.place) × (v.quotient < l.scale.bound)

abbrev pub decreases-loop-taken : goal.decreases-loop-taken
decreases-loop-taken l = l.taken.place
