-- The powers beside any record, and refusal 5 far above the format.
use Rattle.theory.proofs.Prelude.{ℕ, ◌≤◌, ◌<◌, ◌+◌, ◌^◌, ◌*◌, ◌-◌, inr, inl, ◌⊎◌, ◌∙◌, ap, ◌≡◌, sym, pow-zero, mul-le-mul_right, arith, ℤ, pos, negsuc, nat_abs, ◌-ℤ◌, lt-leb, w32, SFits}
use Rattle.theory.specs.Wide.{Canonical}
use Rattle.theory.specs.Round.{round}
use Rattle.theory.proofs.Canonical.{canonical_wide}
use Rattle.theory.proofs.Powers.{pow_lt, pow_pred}
use Rattle.theory.proofs.Round.{round_exact}
use Rattle.theory.proofs.Monotone.{round_mono}
use Rattle.number.proofs.Values.{canonical_beyond}
use Rattle.arithmetic.specs.Operands.{record_powers}
use Rattle.arithmetic.specs.Operations.{rounded_record}
use Rattle.arithmetic.specs.Marked.{marked, marked_record}
use Rattle.arithmetic.proofs.Prelude.{Direction, pow-add, pow_pos, pow_mono, Format, highest_place, refused, apart, Admitted, positional, highest_most, Number, above_zero, below_zero, greatest, delivered, rounded, diff_parts, size_parts, unless_failed}
use Rattle.arithmetic.proofs.Prepared.{parts_above, parts_below}
use Rattle.arithmetic.proofs.Pairs.{powers}

-- ---- an exponent of 32 bits
pub above_fits : (z : ℤ) → SFits w32 z → above_zero z < 2 ^ 31
above_fits (pos n) f = f.sfits
above_fits (negsuc n) f = omega arith

pub below_fits : (z : ℤ) → SFits w32 z → nat_abs z - above_zero z ≤ 2 ^ 31
below_fits (pos n) f = omega arith
below_fits (negsuc n) f = omega (arith, f.sfits)

pub above_size : (z : ℤ) → above_zero z ≤ nat_abs z
above_size (pos n) = omega arith
above_size (negsuc n) = omega arith

-- ---- the difference of two exponents, from their parts
pub record Sides (f : Format) (e : ℤ) (high low : ℕ) : Type 0 where
  pub up : high ≡ above_zero e + below_zero f.emin
  pub down : low ≡ nat_abs e - above_zero e + above_zero f.emin

module _ (f : Format) (e : ℤ) {high low : ℕ} (s : Sides f e high low) where
  abbrev z : ℤ
  z = e -ℤ f.emin

  parts : above_zero z + low ≡ below_zero z + high
  parts =
      omega (
        arith,
        diff_parts e f.emin,
        size_parts e,
        parts_above e,
        parts_above f.emin,
        parts_below f.emin,
        parts_above z,
        parts_below z,
        s.up,
        s.down,
      )

  pub powers_under : high < low → record { up = 0; down = low - high } ≡ record_powers f e
  powers_under l = powers (omega (arith, l, parts, parts_above z, parts_below z, apart z)) (omega (arith, l, parts, parts_above z, parts_below z, apart z))

  pub powers_over : low ≤ high → record { up = high - low; down = 0 } ≡ record_powers f e
  powers_over l = powers (omega (arith, l, parts, parts_above z, parts_below z, apart z)) (omega (arith, l, parts, parts_above z, parts_below z, apart z))

-- one of the two is 1
pub one_power : (z : ℤ) → (above_zero z ≡ 0) ⊎ (below_zero z ≡ 0)
one_power (pos n) = inr (omega arith)
one_power (negsuc n) = inl (omega arith)

-- ---- far above the format
module _ {f : Format} (a : Admitted f) (d : Direction) (x : Number) where
  pub far_above : 1 ≤ x.significand → 4000 < above_zero (x.exponent -ℤ f.emin) → refused 5 ≡ marked_record f d x
  unfolding marked rounded_record rounded delivered
  far_above some far = sym (ap (marked f _ _) (unless_failed _ _ (lt-leb _ _ beyond)))
    where
      β : ℕ
      β = f.base

      z : ℤ
      z = x.exponent -ℤ f.emin

      k : ℕ
      k = highest_place f + 1

      form : Canonical β f.digits (β ^ (f.digits - 1)) k
      form = record { small = pow_lt a.base_low (omega (arith, a.digits_low)); normal = inr (omega (arith, pow_pred β a.digits_low)) }

      N : ℕ
      N = x.significand * β ^ above_zero z

      whole : β ^ below_zero z ≡ 1
      whole = ap (λ (i : ℕ). β ^ i) (omega (arith, far, parts_above z, parts_below z, apart z)) ∙ pow-zero β

      reached : β ^ (f.digits - 1) * β ^ k ≤ N
      reached =
          omega (
            arith,
            pow-add β (f.digits - 1) k,
            pow_mono a.base_low {i = f.digits - 1 + k} {j = above_zero z} (omega (arith, far, a.digits_high, highest_most a)),
            mul-le-mul_right (β ^ above_zero z) some,
          )

      beyond : greatest f < round β f.digits d x.negative N (β ^ below_zero z)
      beyond =
          let W : ℕ = β ^ (f.digits - 1) * β ^ k in
          let exact : round β f.digits d x.negative W 1 ≡ W = round_exact (positional a) W {D = 1} (omega arith) d x.negative W (canonical_wide (positional a) form) (omega arith) in
          let more : round β f.digits d x.negative W 1 ≤ round β f.digits d x.negative N (β ^ below_zero z) =
          round_mono (positional a) d x.negative {N = W} {D = 1} {N' = N} {D' = β ^ below_zero z}
          (record { divisor = omega arith; divisor' = pow_pos a.base_low (below_zero z); cross = omega (arith, reached, ap (λ (v : ℕ). W * v) whole) }) in
          omega (arith, canonical_beyond a form (omega arith), exact, more)
