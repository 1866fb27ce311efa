-- Signed numbers of 32 bits: what a test of order says, as a fact on natural numbers that `omega` reads, and when a result fits.
-- An integer is its part above 0 less its part below 0.
use Rattle.theory.proofs.Prelude.{◌≤◌, ◌<◌, ◌^◌, true, false, ◌≡◌, arith, T, ℤ, pos, negsuc, lt_z, le_z, w32, SFits, to_z, of_z}
use Prim.Native.Nat.{min}
use lib.Signed.{non_neg}
use mir.ValLaws.{to_z-of_z}
use Rattle.theory.proofs.Integers.{above, below}
pub use Rattle.theory.proofs.Order.{Upto, Under, le_true, le_false, lt_true, lt_false, make_le, make_lt, make_ge}

-- one of the two parts is 0
pub apart : (z : ℤ) → min (above z) (below z) ≡ 0
apart (pos n) = omega arith
apart (negsuc n) = omega arith

-- ---- 32 bits
pub fits : (z : ℤ) → above z < 2 ^ 31 → below z ≤ 2 ^ 31 → SFits w32 z
fits (pos n) a b = record { sfits = a }
fits (negsuc n) a b = record { sfits = b }

pub not_negative : (z : ℤ) → below z ≡ 0 → T (non_neg z)
not_negative (pos n) e = tt
not_negative (negsuc n) e = absurd (omega arith)

-- what the machine reads back from an integer's bits
pub back : {z : ℤ} → SFits w32 z → to_z w32 (of_z w32 z) ≡ z
back {z} f = to_z-of_z w32 z f

-- a test of the code, on values that are read back from their bits
module _ (a b : ℤ) (f : SFits w32 a) (g : SFits w32 b) where
  pub lt_taken : lt_z (to_z w32 (of_z w32 a)) (to_z w32 (of_z w32 b)) ≡ true → Under a b
  lt_taken h = lt_true a b (rw (back f, back g) at h)

  pub lt_left : lt_z (to_z w32 (of_z w32 a)) (to_z w32 (of_z w32 b)) ≡ false → Upto b a
  lt_left h = lt_false a b (rw (back f, back g) at h)

  pub le_read : le_z (to_z w32 (of_z w32 a)) (to_z w32 (of_z w32 b)) ≡ le_z a b
  le_read = rw (back f, back g)
