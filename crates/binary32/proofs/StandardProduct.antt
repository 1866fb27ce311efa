-- The product and the quotient of finite patterns to nearest, ties to even, are those of lib.Ieee.
use Rattle.theory.proofs.Prelude.{ℕ, ◌≤◌, ◌^◌, ◌*◌, suc, zero, true, false, Bool, cond, xor, ◌∙◌, ap, ◌≡◌, sym, refl, ap₂, mul-le-mul_right, mul-pos, arith, eqb, ne_eqb}
use lib.Ieee as ieee
use lib.Ieee.{Float, nan, inf, fin, up, down, unlike, mul, div, of_bits}
use lib.Ieee.Exact.{HasValue}
use lib.Ieee.Fits.{up_pos, down_pos}
use Rattle.theory.proofs.Powers.{pow_pos}
use Rattle.format.specs.Published.{binary32}
use Rattle.number.specs.declared.Number.{Number}
use Rattle.format.specs.Given.{gives}
use Rattle.number.specs.Numbers.{magnitude}
use Rattle.binary32.specs.Patterns.{sign_of, magnitude_read, pattern_read}
use Rattle.binary32.proofs.RoundTrips.{reads, read_magnitude, read_sign}
use Rattle.binary32.proofs.Standard.{value_standard}
use Rattle.binary32.proofs.StandardRound.{answered, nearest_of, Counts, Exact, round_standard}

-- ---- the exact fractions
module _ {m u A n v B : ℕ} (a : Counts (2 ^ 149) m u A) (b : Counts (2 ^ 149) n v B) where
  product_exact : Exact (m * n) (u * v) (A * B) (2 ^ 149)
  product_exact = record { divisor = mul-pos a.divisor b.divisor; divisor' = pow_pos {β = 2} (omega arith) 149; cross = crossed (2 ^ 149) a.is b.is }
    where
      crossed : (w : ℕ) → m * w ≡ A * u → n * w ≡ B * v → m * n * w * w ≡ A * B * (u * v)
      crossed w e f = omega (arith, ap₂ ◌*◌ e f)

  quotient_exact : 1 ≤ n → 1 ≤ B → Exact (m * v) (n * u) (A * 2 ^ 149) B
  quotient_exact hn hB = record { divisor = mul-pos hn a.divisor; divisor' = hB; cross = crossed (2 ^ 149) a.is b.is }
    where
      crossed : (w : ℕ) → m * w ≡ A * u → n * w ≡ B * v → m * v * w * B ≡ A * w * (n * u)
      crossed w e f = omega (arith, ap (λ (z : ℕ). z * v * B) e, ap (λ (z : ℕ). A * u * z) f)

-- ---- of finite floats
mul_standard : (x y : Float) (s t : Bool) (A B : ℕ) → HasValue x s A (2 ^ 149) → HasValue y t B (2 ^ 149)
    → answered (mul ieee.binary32 x y) ≡ nearest_of (unlike s t) (A * B) (2 ^ 149)
unfolding mul
mul_standard nan y s t A B h k = absurd h
mul_standard (inf r) y s t A B h k = absurd h
mul_standard (fin r m e) nan s t A B h k = absurd k
mul_standard (fin r m e) (inf q) s t A B h k = absurd k
mul_standard (fin r m e) (fin q n d) s t A B h k =
    ap₂ (λ (i j : Bool). answered (ieee.round ieee.binary32 (unlike i j) (m * up e * (n * up d)) (down e * down d))) h.0 k.0
    ∙ round_standard (unlike s t) (product_exact (record { divisor = down_pos e; is = h.1 }) (record { divisor = down_pos d; is = k.1 }))

-- a value is 0 where its significand is
zero_value : (u w B v : ℕ) → 1 ≤ v → 0 * u * w ≡ B * v → B ≡ 0
zero_value u w zero v hv e = refl
zero_value u w (suc B) v hv e = absurd (omega (arith, mul-le-mul_right {m = 1} {n = suc B} v (omega arith)))

div_standard : (x y : Float) (s t : Bool) (A B : ℕ) → 1 ≤ B → HasValue x s A (2 ^ 149) → HasValue y t B (2 ^ 149)
    → answered (div ieee.binary32 x y) ≡ nearest_of (unlike s t) (A * 2 ^ 149) B
unfolding div
div_standard nan y s t A B hB h k = absurd h
div_standard (inf r) y s t A B hB h k = absurd h
div_standard (fin r m e) nan s t A B hB h k = absurd k
div_standard (fin r m e) (inf q) s t A B hB h k = absurd k
div_standard (fin r m e) (fin q zero d) s t A B hB h k = absurd (omega (arith, zero_value (up d) (2 ^ 149) B (down d) (down_pos d) k.1))
div_standard (fin r m e) (fin q (suc n) d) s t A B hB h k =
    ap (λ (c : Bool). answered (cond c (cond (eqb m 0) nan (inf (unlike r q))) (quotient r q))) (ne_eqb (suc n) 0 (λ z. omega arith))
    ∙ ap₂ (λ (i j : Bool). answered (quotient i j)) h.0 k.0
    ∙ round_standard (unlike s t)
    (quotient_exact (record { divisor = down_pos e; is = h.1 }) (record { divisor = down_pos d; is = k.1 }) (mul-pos (omega arith) (up_pos d)) hB)
  where
    quotient : Bool → Bool → Float
    quotient i j = ieee.round ieee.binary32 (unlike i j) (m * up e * down d) (suc n * up d * down e)

-- ---- of patterns
alike : (s t : Bool) → unlike s t ≡ xor s t
unfolding xor
alike true true = refl
alike true false = refl
alike false true = refl
alike false false = refl

module _ (a b : ℕ) {x y : Number} (r : pattern_read a ≡ gives x) (q : pattern_read b ≡ gives y) where
  -- the signs as they are read
  signs_read : (N D : ℕ) → nearest_of (unlike (sign_of a) (sign_of b)) N D ≡ nearest_of (xor x.negative y.negative) N D
  signs_read N D = ap (λ (s : Bool). nearest_of s N D) (alike (sign_of a) (sign_of b) ∙ ap₂ xor (sym (read_sign a r)) (sym (read_sign b q)))

  -- the product is that of lib.Ieee
  pub ieee_product : answered (mul ieee.binary32 (of_bits ieee.binary32 a) (of_bits ieee.binary32 b))
      ≡ nearest_of (xor x.negative y.negative) (magnitude binary32 x * magnitude binary32 y) (2 ^ 149)
  ieee_product =
      mul_standard (of_bits ieee.binary32 a) (of_bits ieee.binary32 b) (sign_of a) (sign_of b) (magnitude_read a) (magnitude_read b)
      (value_standard a (reads a r).finite) (value_standard b (reads b q).finite)
      ∙ signs_read (magnitude_read a * magnitude_read b) (2 ^ 149)
      ∙ ap₂ (λ (m n : ℕ). nearest_of (xor x.negative y.negative) (m * n) (2 ^ 149)) (sym (read_magnitude a r)) (sym (read_magnitude b q))

  -- and so is the quotient by what is not zero
  pub ieee_quotient : 1 ≤ magnitude binary32 y → answered (div ieee.binary32 (of_bits ieee.binary32 a) (of_bits ieee.binary32 b))
      ≡ nearest_of (xor x.negative y.negative) (magnitude binary32 x * 2 ^ 149) (magnitude binary32 y)
  ieee_quotient h =
      let positive : 1 ≤ magnitude_read b = omega (arith, read_magnitude b q) in
      div_standard (of_bits ieee.binary32 a) (of_bits ieee.binary32 b) (sign_of a) (sign_of b) (magnitude_read a) (magnitude_read b) positive
      (value_standard a (reads a r).finite) (value_standard b (reads b q).finite)
      ∙ signs_read (magnitude_read a * 2 ^ 149) (magnitude_read b)
      ∙ ap₂ (λ (m n : ℕ). nearest_of (xor x.negative y.negative) (m * 2 ^ 149) n) (sym (read_magnitude a r)) (sym (read_magnitude b q))
