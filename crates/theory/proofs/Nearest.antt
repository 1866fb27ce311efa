-- Laws of the nearest numbers: each is faithful, whichever way ties are broken, and directions 0 and 1 give one.
use Rattle.theory.proofs.Prelude.{ℕ, ◌≤◌, ◌+◌, ◌^◌, ◌*◌, Bool, refl, dec_le, mul-le-mul_left, arith, ℤ, nat_abs, ◌-ℤ◌}
use lib.Arith.{lt_of_le-ne}
use Rattle.theory.proofs.Words.{Positional, step, Wide, lower, upper, signed, is_negative, WideZ, round_z}
use Rattle.theory.specs.Round.{Direction}
use Rattle.theory.specs.Faithful.{Faithful, equal, next_below, next_above}
use Rattle.theory.specs.Nearest.{NearestNumber}
use Rattle.theory.proofs.Powers.{pow-add}
use Rattle.theory.proofs.Multiples.{dist, multiple_add, multiple_le, multiple_self}
use Rattle.theory.proofs.Wide.{wide_pow}
use Rattle.theory.proofs.Neighbours.{Neighbour, down, up, lower_le, le_upper, lower_wide, upper_wide, lower_multiple, upper_multiple, neighbour_above, neighbour_below, neighbour_ge}
use Rattle.theory.proofs.Round.{Nearest}
use Rattle.theory.proofs.Integers.{above, below, size_diff, lt_parts, parts_lt, parts_le, parts_eq, size_signed, size_same_sign, times_one}
use Rattle.theory.proofs.Signed.{round_z_wide, round_z_nearest}
use Rattle.theory.proofs.Faithful.{Rounded, faithful_rounded, wide_decided}
use Rattle.theory.proofs.Binades.{Binade, exact, normal, binade}

module _ {β p : ℕ} (ok : Positional β p) where
  pub nearest_faithful : {v r : ℤ} → NearestNumber β p v r → Faithful β p v r
  nearest_faithful {v} {r} n = go (wide_decided ok (nat_abs v)) (dec_le (above v + below r) (above r + below v))
    where
      nearer : (w : ℤ) → WideZ β p w → dist (above v + below r) (above r + below v) ≤ dist (above v + below w) (above w + below v)
      nearer w h = omega (arith, n.nearest w h, size_diff v r, size_diff v w)

      go : Dec (WideZ β p v) → Dec (above v + below r ≤ above r + below v) → Faithful β p v r
      go (yes w) d = equal n.number (parts_eq r v (omega (arith, nearer v w)))
      go (no h) (no l) =
          next_below h
          (record {
            number = n.number;
            below = parts_lt r v (omega arith);
            greatest = λ w k g. parts_le w r (omega (arith, lt_parts g, nearer w k));
          })
      go (no h) (yes l) =
          next_above h
          (record {
            number = n.number;
            above = parts_lt v r (lt_of_le-ne l (λ e. h (rw (← parts_eq v r e) at n.number)));
            least = λ w k g. parts_le r w (omega (arith, lt_parts g, nearer w k));
          })

  pub round_z_nearest_number : {d : Direction} → Nearest d → (v : ℤ) → NearestNumber β p v (round_z β p d v 1)
  round_z_nearest_number {d} near v =
      record {
        number = round_z_wide ok (omega arith) d v;
        nearest = λ w h. rw (times_one (round_z β p d v 1), times_one w) at (round_z_nearest ok {D = 1} (omega arith) near v w h);
      }

  module _ {v r : ℤ} (n : NearestNumber β p v r) where
    rounded : Rounded β p v r
    rounded = faithful_rounded ok (nearest_faithful n)

    -- no magnitude of the format is nearer either, so that it is at most half a step away
    nearer : (m : ℕ) → Wide β p m → nat_abs (v -ℤ r) ≤ dist (nat_abs v) m
    nearer m w =
        let s : Bool = is_negative v in
        omega (arith, n.nearest (signed s m) (rw size_signed w), size_same_sign v m)

    pub nearest_half : 2 * nat_abs (v -ℤ r) ≤ step β p (nat_abs v)
    nearest_half =
        let m : ℕ = nat_abs v in
        let gap : upper β p m ≤ lower β p m + step β p m =
        multiple_le (upper_multiple ok m) (multiple_add (lower_multiple ok m) multiple_self)
        (omega (arith, neighbour_above ok {n = m} (down refl), neighbour_below ok {n = m} (up refl))) in
        omega (arith, nearer (lower β p m) (lower_wide ok m), nearer (upper β p m) (upper_wide ok m), lower_le ok m, le_upper ok m)

-- in base 2 it is off by at most 2 ^ - p of itself
pub nearest_relative : {p : ℕ} → Positional 2 p → {v r : ℤ} → NearestNumber 2 p v r → 2 ^ p * nat_abs (v -ℤ r) ≤ nat_abs r
nearest_relative {p} ok {v} {r} n = go (binade ok (nat_abs v))
  where
    f : Neighbour 2 p (nat_abs v) (nat_abs r)
    f = rw ((rounded ok n).is, size_signed) (rounded ok n).near

    go : Binade p (nat_abs v) → 2 ^ p * nat_abs (v -ℤ r) ≤ nat_abs r
    go (exact w) =
        let none : nat_abs (v -ℤ r) ≤ 0 = omega (arith, n.nearest v w, size_diff v v) in
        omega (arith, mul-le-mul_left (2 ^ p) none)
    go (normal k l u s) =
        let half : nat_abs (v -ℤ r) ≤ 2 ^ k = omega (arith, nearest_half ok n) in
        omega (arith, mul-le-mul_left (2 ^ p) half, pow-add 2 p k, neighbour_ge ok f (wide_pow ok (p + k)) l)
