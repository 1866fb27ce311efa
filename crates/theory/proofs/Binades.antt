-- How far a neighbour is from its number, measured by the number itself: laws of base 2 that go by the power of 2 below a number.
use Rattle.theory.proofs.Prelude.{ℕ, ◌≤◌, ◌<◌, ◌+◌, ◌^◌, ◌*◌, suc, zero, ◌/◌, ◌∙◌, ap, ◌≡◌, refl, mul-le-mul_left, pow-succ', div-mul-le_self, arith}
use native.Mathlib.Nat.{lt-div-mul-add}
use Rattle.theory.proofs.Words.{Positional, place, step, Wide}
use Rattle.theory.proofs.Powers.{pow-add, pow_pos, pow_mono}
use Rattle.theory.proofs.Multiples.{dist, multiple_one}
use Rattle.theory.proofs.Place.{place_fits, above_power}
use Rattle.theory.proofs.Wide.{wide_multiple, wide_pow, wide_small}
use Rattle.theory.proofs.Neighbours.{Neighbour, neighbour_exact, neighbour_ge}
use Rattle.theory.proofs.Error.{error_small, error_none}

-- n is in the format, or lies between two powers of 2 with a known step
pub data Binade (p n : ℕ) : Type 0 where
  exact : Wide 2 p n → Binade p n
  normal : (k : ℕ) → 2 ^ (p + k) ≤ n → n < 2 * 2 ^ (p + k) → step 2 p n ≡ 2 * 2 ^ k → Binade p n

-- half of n, rounded up
pub record Half (p n : ℕ) : Type 0 where
  pub half : ℕ
  pub wide : Wide 2 p half
  pub enough : n ≤ 2 * half
  pub least : 2 * half ≤ n + 1

module _ {p : ℕ} (ok : Positional 2 p) where
  pub binade : (n : ℕ) → Binade p n
  unfolding step
  binade n = go (place 2 p n) refl
    where
      go : (k : ℕ) → place 2 p n ≡ k → Binade p n
      go zero e = exact (wide_small ok (omega arith))
      go (suc k) e =
          let next : 2 ^ (p + place 2 p n) ≡ 2 * 2 ^ (p + k) = ap (λ (i : ℕ). 2 ^ i) (omega arith) ∙ pow-succ' 2 (p + k) in
          normal k (above_power ok (omega arith)) (omega (arith, place_fits ok n)) (ap (λ (i : ℕ). 2 ^ i) e ∙ pow-succ' 2 k)

  pub half_of : (n : ℕ) → Wide 2 p n → Half p n
  half_of n w = go w.exponent refl
    where
      go : (e : ℕ) → w.exponent ≡ e → Half p n
      go zero e =
          let own : n ≡ w.significand * 2 ^ 0 = w.is ∙ ap (λ (i : ℕ). w.significand * 2 ^ i) e in
          let low : (n + 1) / 2 * 2 ≤ n + 1 = div-mul-le_self (n + 1) 2 in
          let high : n + 1 < (n + 1) / 2 * 2 + 2 = lt-div-mul-add {a = n + 1} (omega arith) in
          record {
            half = (n + 1) / 2;
            wide = wide_multiple ok 0 (multiple_one 2 _) (omega (arith, w.small, pow_mono ok.base {i = p} {j = p + 0} (omega arith)));
            enough = omega arith;
            least = omega arith;
          }
      go (suc k) e =
          let own : n ≡ 2 * (w.significand * 2 ^ k) =
          w.is ∙ ap (λ (i : ℕ). w.significand * 2 ^ i) e ∙ ap (λ (i : ℕ). w.significand * i) (pow-succ' 2 k) ∙ omega arith in
          record {
            half = w.significand * 2 ^ k;
            wide = record { significand = w.significand; exponent = k; small = w.small; is = refl };
            enough = omega arith;
            least = omega arith;
          }

  module _ {n r : ℕ} (f : Neighbour 2 p n r) where
    -- at least half of n is kept
    pub neighbour_half : n ≤ 2 * r
    neighbour_half = go (binade n)
      where
        go : Binade p n → n ≤ 2 * r
        go (exact w) = omega (arith, neighbour_exact ok f w)
        go (normal k l u s) = omega (arith, neighbour_ge ok f (wide_pow ok (p + k)) l)

    -- less than 2 ^ (1 - p) of n is lost
    pub error_relative : 1 ≤ n → 2 ^ p * dist n r < 2 * n
    error_relative h = go (binade n)
      where
        go : Binade p n → 2 ^ p * dist n r < 2 * n
        go (exact w) =
            let off : dist n r ≤ 0 = omega (arith, error_none ok f w) in
            omega (arith, mul-le-mul_left (2 ^ p) off)
        go (normal k l u s) =
            let off : dist n r + 1 ≤ 2 * 2 ^ k = omega (arith, error_small ok f) in
            omega (arith, mul-le-mul_left (2 ^ p) off, pow-add 2 p k, pow_pos ok.base p)
