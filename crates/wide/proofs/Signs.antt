-- Sums and products of signed magnitudes.
use Rattle.theory.proofs.Prelude.{ℕ, ◌≤◌, ◌+◌, ◌*◌, ◌-◌, suc, zero, true, false, Bool, xor, Bool·beq, ◌∙◌, ap, ◌≡◌, sym, refl, dec_le, mul-le-mul_right, zero-mul, mul-sub, arith, pos, ◌+ℤ◌, nat_abs, neg_ℤ, ◌*ℤ◌, +ℤ_comm}
use native.Mathlib.Nat.{mul-zero}
use lib.IntN.{+ℤ_idr}
use Rattle.theory.specs.Signed.{signed}
use Rattle.theory.proofs.Integers.{size_signed, add_agree, add_differ, scale_signed}

no_test : {A : Type 0} → false ≡ true → A
no_test e = let z : ◌≡◌ {A = ℕ} 0 1 = cc in absurd (omega arith)

pub sum_agree : (a b : Bool) → Bool·beq a b ≡ true → (v w : ℕ) → signed a v +ℤ signed b w ≡ signed a (v + w)
sum_agree true true e v w = add_agree true v w
sum_agree true false e v w = no_test e
sum_agree false true e v w = no_test e
sum_agree false false e v w = add_agree false v w

pub sum_differ : (a b : Bool) → Bool·beq a b ≡ false → (v w : ℕ) → w ≤ v → signed a v +ℤ signed b w ≡ signed a (v - w)
sum_differ true true e v w l = no_test (sym e)
sum_differ true false e v w l = add_differ true v w l
sum_differ false true e v w l = add_differ false v w l
sum_differ false false e v w l = no_test (sym e)

pub sum_exchanged : (a b : Bool) → Bool·beq a b ≡ false → (v w : ℕ) → v ≤ w → signed a v +ℤ signed b w ≡ signed b (w - v)
sum_exchanged true true e v w l = no_test (sym e)
sum_exchanged true false e v w l = +ℤ_comm (signed true v) (signed false w) ∙ add_differ false w v l
sum_exchanged false true e v w l = +ℤ_comm (signed false v) (signed true w) ∙ add_differ true w v l
sum_exchanged false false e v w l = no_test (sym e)

pub sum_none : (a b : Bool) (v : ℕ) → signed a v +ℤ signed b 0 ≡ signed a v
sum_none a true v = +ℤ_idr (signed a v)
sum_none a false v = +ℤ_idr (signed a v)

-- a difference in a unit t
pub sub_times : (v w t : ℕ) → w ≤ v → v * t - w * t ≡ (v - w) * t
sub_times v w t l = omega (arith, mul-sub t v w, mul-le-mul_right t l)

-- v with the sign a and w with the sign b make n with the sign c, in any unit t
pub record Adds (a : Bool) (v : ℕ) (b : Bool) (w : ℕ) (c : Bool) (n : ℕ) : Type 0 where
  pub sum : (t : ℕ) → signed a (v * t) +ℤ signed b (w * t) ≡ signed c (n * t)

-- the three sums of two signed magnitudes
pub adds_agree : (a b : Bool) → Bool·beq a b ≡ true → (v w : ℕ) → Adds a v b w a (v + w)
adds_agree a b e v w = record { sum = λ t. sum_agree a b e (v * t) (w * t) ∙ ap (signed a) (omega arith) }

pub adds_differ : (a b : Bool) → Bool·beq a b ≡ false → (v w : ℕ) → w ≤ v → Adds a v b w a (v - w)
adds_differ a b e v w l = record { sum = λ t. sum_differ a b e (v * t) (w * t) (mul-le-mul_right t l) ∙ ap (signed a) (sub_times v w t l) }

pub adds_exchanged : (a b : Bool) → Bool·beq a b ≡ false → (v w : ℕ) → v ≤ w → Adds a v b w b (w - v)
adds_exchanged a b e v w l = record { sum = λ t. sum_exchanged a b e (v * t) (w * t) (mul-le-mul_right t l) ∙ ap (signed b) (sub_times w v t l) }

pub sum_most : (a b : Bool) (v w : ℕ) → nat_abs (signed a v +ℤ signed b w) ≤ v + w
sum_most a b v w = by (Bool·beq a b) refl (dec_le w v)
  where
    by : (t : Bool) → Bool·beq a b ≡ t → Dec (w ≤ v) → nat_abs (signed a v +ℤ signed b w) ≤ v + w
    by true e d = omega (arith, ap nat_abs (sum_agree a b e v w), size_signed a (v + w))
    by false e (yes l) = omega (arith, ap nat_abs (sum_differ a b e v w l), size_signed a (v - w))
    by false e (no l) = omega (arith, ap nat_abs (sum_exchanged a b e v w (omega arith)), size_signed b (w - v))

-- ---- the sign of a product
times_negative : (v w : ℕ) → pos v *ℤ neg_ℤ (pos w) ≡ neg_ℤ (pos (v * w))
times_negative v zero = rw mul-zero
times_negative v (suc w) = refl

pub signed_times : (a b : Bool) (v w : ℕ) → signed a v *ℤ signed b w ≡ signed (xor a b) (v * w)
unfolding xor
signed_times false false v w = refl
signed_times false true v w = times_negative v w
signed_times true false v w = scale_signed true v w
signed_times true true zero zero = refl
signed_times true true zero (suc w) = rw zero-mul
signed_times true true (suc v) zero = rw mul-zero
signed_times true true (suc v) (suc w) = refl
