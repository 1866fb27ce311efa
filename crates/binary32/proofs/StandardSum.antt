-- The sum and the difference of finite patterns to nearest, ties to even, are those of lib.Ieee.
use Rattle.theory.proofs.Prelude.{ℕ, ◌≤◌, ◌<◌, ◌+◌, ◌^◌, ◌*◌, ◌-◌, true, false, Bool, cond, not, ◌&&◌, Bool·beq, ◌∙◌, ap, ◌≡◌, sym, refl, ap₂, dec_le, lt_of_mul-lt-mul_right, mul-lt-mul_of_pos_right, mul-le-mul_right, mul-pos, mul_comm, mul-sub, arith, ltb, ℤ, ◌+ℤ◌, nat_abs, ◌-ℤ◌, neg_ℤ, +ℤ_comm, ltb-true, ltb-false}
use lib.Ieee as ieee
use lib.Ieee.{Float, nan, inf, fin, up, down, sum, add, sub, neg, of_bits}
use lib.Ieee.Exact.{HasValue}
use lib.Ieee.Fits.{down_pos}
use Rattle.theory.specs.Signed.{signed, sign_or}
use Rattle.theory.proofs.Integers.{size_signed, sign_or_law, add_agree, add_differ, negate_signed}
use Rattle.theory.proofs.Powers.{pow_pos}
use Rattle.format.specs.Published.{binary32}
use Rattle.number.specs.declared.Number.{Number}
use Rattle.format.specs.Given.{Given, gives}
use Rattle.number.specs.Numbers.{value}
use Rattle.binary32.specs.Patterns.{sign_of, magnitude_read, pattern_read}
use Rattle.binary32.proofs.RoundTrips.{reads, read_value, read_sign}
use Rattle.binary32.proofs.Standard.{value_standard}
use Rattle.binary32.proofs.StandardRound.{answered, nearest_of, Counts, round_standard}

-- v units of 2 ^ -149, rounded to nearest with ties to even and delivered; zero has the sign that is handed over
abbrev pub nearest_z : (none : Bool) → ℤ → Given Number
nearest_z none v = nearest_of (sign_or none v) (nat_abs v) 1

-- the sign of an exact zero sum of operands with these signs
abbrev pub nearest_zero : (s t : Bool) → Bool
nearest_zero s t = cond (Bool·beq s t) s false

nearest_signed : (none s : Bool) (n : ℕ) (v : ℤ) → signed s n ≡ v → (n ≡ 0 → s ≡ none) → nearest_of s n 1 ≡ nearest_z none v
nearest_signed none s n v e z =
    ap₂ (λ (t : Bool) (m : ℕ). nearest_of t m 1) (sym (sign_or_law none s n z)) (sym (size_signed s n)) ∙ ap (nearest_z none) e

-- ---- a / c and b / c are A and B units of 1 / w
record Pair (w a b c A B : ℕ) : Type 0 where
  divisor : 1 ≤ c
  left : a * w ≡ A * c
  right : b * w ≡ B * c

sub_mul : (m n k : ℕ) → (m - n) * k ≡ m * k - n * k
sub_mul m n k = mul_comm (m - n) k ∙ mul-sub k m n ∙ omega arith

module _ {w a b c A B : ℕ} (p : Pair w a b c A B) where
  plus : (a + b) * w * 1 ≡ (A + B) * c
  plus = omega arith

  minus : (a - b) * w * 1 ≡ (A - B) * c
  minus = omega (arith, sub_mul a b w, sub_mul A B c)

  turned : Pair w b a c B A
  turned = record { divisor = p.divisor; left = p.right; right = p.left }

  in_order : b ≤ a → B ≤ A
  in_order h = by (dec_le B A)
    where
      by : Dec (B ≤ A) → B ≤ A
      by (yes l) = l
      by (no l) =
          let less : A + 1 ≤ B = omega arith in
          absurd (omega (arith, mul-le-mul_right w h, mul-le-mul_right c less))

-- ---- the sum of fractions, with signs
module _ {a b c A B : ℕ} (p : Pair (2 ^ 149) a b c A B) where
  agree : (s : Bool) → answered (ieee.round ieee.binary32 s (a + b) c) ≡ nearest_z s (signed s A +ℤ signed s B)
  agree s =
      round_standard s (record { divisor = p.divisor; divisor' = omega arith; cross = plus p })
      ∙ nearest_signed s s (A + B) (signed s A +ℤ signed s B) (sym (add_agree s A B)) (λ z. refl)

  -- the first is not the lesser
  differ : (s r : Bool) → b ≤ a → signed r (A - B) ≡ signed s (A - B) → (A - B ≡ 0 → r ≡ false) → answered (ieee.round ieee.binary32 r (a - b) c) ≡ nearest_z false (signed s A +ℤ signed (not s) B)
  differ s r h e z =
      round_standard r (record { divisor = p.divisor; divisor' = omega arith; cross = minus p })
      ∙ nearest_signed false r (A - B) (signed s A +ℤ signed (not s) B) (e ∙ sym (add_differ s A B (in_order p h))) z

  -- a difference of 0 has the sign plus
  zero_sign_law : (s t : Bool) → ltb b a ≡ t → b ≤ a → signed (s && t) (A - B) ≡ signed s (A - B)
  zero_sign_law true true e h = refl
  zero_sign_law false t e h = refl
  zero_sign_law true false e h =
      let none : A - B ≡ 0 = omega (arith, in_order (turned p) (ltb-false b a e)) in
      rw none

module _ {a b c A B : ℕ} (p : Pair (2 ^ 149) a b c A B) where
  commuted : (s : Bool) → signed (not s) B +ℤ signed (not (not s)) A ≡ signed s A +ℤ signed (not s) B
  commuted true = +ℤ_comm (signed false B) (signed true A)
  commuted false = +ℤ_comm (signed true B) (signed false A)

  -- what lib.Ieee makes of opposite signs, where the first is less or not
  abbrev opposed : (s less : Bool) → Float
  opposed s less = cond less (ieee.round ieee.binary32 (not s) (b - a) c) (ieee.round ieee.binary32 (s && ltb b a) (a - b) c)

  -- unequal fractions are unequal
  apart : {i j k I K : ℕ} → Pair (2 ^ 149) i j k I K → i < j → 1 ≤ K - I
  apart {k = k} {I = I} {K = K} q l =
      let more : I < K = lt_of_mul-lt-mul_right k (rw (← q.left, ← q.right) (mul-lt-mul_of_pos_right l (pow_pos {β = 2} (omega arith) 149))) in
      omega arith

  -- equal ones have the sign plus
  none : (s t : Bool) → ltb b a ≡ t → A - B ≡ 0 → s && t ≡ false
  none false t e z = refl
  none true false e z = refl
  none true true e z = absurd (omega (arith, z, apart (turned p) (ltb-true b a e)))

  opposite : (s : Bool) → answered (opposed s (ltb a b)) ≡ nearest_z false (signed s A +ℤ signed (not s) B)
  opposite s = by (ltb a b) refl
    where
      by : (t : Bool) → ltb a b ≡ t → answered (opposed s t) ≡ nearest_z false (signed s A +ℤ signed (not s) B)
      by true e = differ (turned p) (not s) (not s) (omega (arith, ltb-true a b e)) refl (λ z. absurd (omega (arith, apart p (ltb-true a b e)))) ∙ ap (nearest_z false) (commuted s)
      by false e = differ p s (s && ltb b a) (ltb-false a b e) (zero_sign_law p s (ltb b a) refl (ltb-false a b e)) (λ z. none s (ltb b a) refl z)

  sum_standard : (s t : Bool) → answered (sum ieee.binary32 s a t b c) ≡ nearest_z (nearest_zero s t) (signed s A +ℤ signed t B)
  unfolding sum
  sum_standard true true = agree p true
  sum_standard true false = opposite true
  sum_standard false true = opposite false
  sum_standard false false = agree p false

-- ---- the sum and the difference of finite floats
negated_value : (y : Float) (t : Bool) (B : ℕ) → HasValue y t B (2 ^ 149) → HasValue (neg y) (not t) B (2 ^ 149)
unfolding neg
negated_value nan t B h = absurd h
negated_value (inf q) t B h = absurd h
negated_value (fin q n d) t B h = (ap not h.0, h.1)

-- two fractions with one denominator
paired : {w m u A n v B : ℕ} → Counts w m u A → Counts w n v B → Pair w (m * v) (n * u) (u * v) A B
paired {u = u} {v = v} a b =
    record {
      divisor = mul-pos a.divisor b.divisor;
      left = omega (arith, ap (λ (z : ℕ). z * v) a.is);
      right = omega (arith, ap (λ (z : ℕ). z * u) b.is);
    }

add_standard : (x y : Float) (s t : Bool) (A B : ℕ) → HasValue x s A (2 ^ 149) → HasValue y t B (2 ^ 149)
    → answered (add ieee.binary32 x y) ≡ nearest_z (nearest_zero s t) (signed s A +ℤ signed t B)
unfolding add
add_standard nan y s t A B h k = absurd h
add_standard (inf r) y s t A B h k = absurd h
add_standard (fin r m e) nan s t A B h k = absurd k
add_standard (fin r m e) (inf q) s t A B h k = absurd k
add_standard (fin r m e) (fin q n d) s t A B h k =
    ap₂ (λ (i j : Bool). answered (sum ieee.binary32 i (m * up e * down d) j (n * up d * down e) (down e * down d))) h.0 k.0
    ∙ sum_standard (paired (record { divisor = down_pos e; is = h.1 }) (record { divisor = down_pos d; is = k.1 })) s t

module _ (a b : ℕ) {x y : Number} (r : pattern_read a ≡ gives x) (q : pattern_read b ≡ gives y) where
  -- the sum is that of lib.Ieee
  pub ieee_sum : answered (add ieee.binary32 (of_bits ieee.binary32 a) (of_bits ieee.binary32 b)) ≡ nearest_z (nearest_zero x.negative y.negative) (value binary32 x +ℤ value binary32 y)
  ieee_sum =
      add_standard (of_bits ieee.binary32 a) (of_bits ieee.binary32 b) (sign_of a) (sign_of b) (magnitude_read a) (magnitude_read b)
      (value_standard a (reads a r).finite) (value_standard b (reads b q).finite)
      ∙ ap₂ nearest_z (ap₂ nearest_zero (sym (read_sign a r)) (sym (read_sign b q))) (ap₂ ◌+ℤ◌ (sym (read_value a r)) (sym (read_value b q)))

  -- and so is the difference
  pub ieee_difference : answered (sub ieee.binary32 (of_bits ieee.binary32 a) (of_bits ieee.binary32 b)) ≡ nearest_z (nearest_zero x.negative (not y.negative)) (value binary32 x -ℤ value binary32 y)
  unfolding sub
  ieee_difference =
      add_standard (of_bits ieee.binary32 a) (neg (of_bits ieee.binary32 b)) (sign_of a) (not (sign_of b)) (magnitude_read a) (magnitude_read b)
      (value_standard a (reads a r).finite) (negated_value (of_bits ieee.binary32 b) (sign_of b) (magnitude_read b) (value_standard b (reads b q).finite))
      ∙ ap₂ nearest_z (ap₂ nearest_zero (sym (read_sign a r)) (ap not (sym (read_sign b q))))
      (ap₂ ◌+ℤ◌ (sym (read_value a r)) (sym (negate_signed (sign_of b) (magnitude_read b)) ∙ ap neg_ℤ (sym (read_value b q))))
