-- Distances of integers add up.
use Rattle.theory.proofs.Prelude.{◌≤◌, ◌+◌, arith, ℤ, ◌+ℤ◌, nat_abs, ◌-ℤ◌}
use Rattle.theory.proofs.Integers.{Adds, sum_parts, diff_parts, size_parts}
use Rattle.format.proofs.Signed.{apart}

-- an integer that is the sum of two is no larger than both together
pub size_added : (u m k : ℤ) → Adds m k u → nat_abs u ≤ nat_abs m + nat_abs k
size_added u m k e = omega (arith, size_parts u, size_parts m, size_parts k, apart u)

-- from x and the strips s, S to t and the rest y of one step, and from there to the last x and the other rests
pub along : (last Y t y x s S : ℤ) → nat_abs (last +ℤ (y +ℤ Y) -ℤ (x +ℤ (s +ℤ S))) ≤ nat_abs (last +ℤ Y -ℤ (t +ℤ S)) + nat_abs (t +ℤ y -ℤ (x +ℤ s))
along last Y t y x s S =
    size_added (last +ℤ (y +ℤ Y) -ℤ (x +ℤ (s +ℤ S))) (last +ℤ Y -ℤ (t +ℤ S)) (t +ℤ y -ℤ (x +ℤ s))
    (omega
    (arith, diff_parts (last +ℤ (y +ℤ Y)) (x +ℤ (s +ℤ S)), sum_parts last (y +ℤ Y), sum_parts y Y, sum_parts x (s +ℤ S), sum_parts s S, diff_parts (last +ℤ Y) (t +ℤ S), sum_parts last Y, sum_parts t S, diff_parts (t +ℤ y) (x +ℤ s), sum_parts t y, sum_parts x s))
