-- Bounds on the exact values: each is at most the greatest number at some place.
use Rattle.theory.proofs.Prelude.{pow-le-pow_left, mul-le-mul_right, ℕ, ◌≤◌, ◌<◌, ◌+◌, ◌^◌, ◌*◌, ◌-◌, ap, ◌≡◌, mul-le-mul_left, mul-lt-mul_of_pos_right, le_trans, mul-le-mul, arith, ◌+ℤ◌, nat_abs}
use Rattle.rounding.proofs.Prelude.{Positional, Canonical, pow-add, pow_pos, pow_mono, power_next, power_one}
use Rattle.rounding.specs.declared.Wide.{Wide}
use Rattle.wide.specs.Operand.{size_of, value_of}
use Rattle.wide.proofs.Signs.{sum_most}

module _ {β p : ℕ} (ok : Positional β p) where
  -- the greatest number at place k
  pub greatest_below : (k : ℕ) → (β ^ p - 1) * β ^ k < β ^ (p + k)
  greatest_below k = rw pow-add (mul-lt-mul_of_pos_right (omega (arith, pow_pos ok.base p)) (pow_pos ok.base k))

  -- a significand times a power
  pub shifted_size : {m i k : ℕ} → m < β ^ p → i ≤ k → m * β ^ i ≤ (β ^ p - 1) * β ^ k
  shifted_size h l = mul-le-mul (omega (arith, h)) (pow_mono ok.base l)

  -- two significands times a power
  pub product_size : {a b : ℕ} (up : ℕ) {k : ℕ} → a < β ^ p → b < β ^ p → p + up ≤ k → a * b * β ^ up ≤ (β ^ p - 1) * β ^ k
  product_size {a} {b} up ha hb l =
      let most : b ≤ β ^ p = omega (arith, hb) in
      le_trans (omega (arith, mul-le-mul_left (a * β ^ up) most, ap (λ (v : ℕ). a * v) (pow-add β p up))) (shifted_size {i = p + up} ha l)

  -- a number of so many bits times a power
  pub bits_size : (bits n i : ℕ) → n < 2 ^ bits → n * β ^ i ≤ (β ^ p - 1) * β ^ (bits + i)
  bits_size bits n i l =
      let few : n ≤ β ^ bits = omega (arith, pow-le-pow_left ok.base bits) in
      let digit : 1 ≤ β ^ p - 1 = omega (arith, pow_mono ok.base ok.digits, power_one β, ok.base) in
      omega (arith, pow-add β bits i, mul-le-mul_right (β ^ i) few, mul-le-mul_right (β ^ (bits + i)) digit)

  module _ (x y : Wide) (hx : Canonical β p x.significand x.place) (hy : Canonical β p y.significand y.place) where
    pub sum_size : (k : ℕ) → x.place ≤ k → y.place ≤ k → nat_abs (value_of β x +ℤ value_of β y) ≤ (β ^ p - 1) * β ^ (k + 1)
    sum_size k l m =
        let greatest : ℕ = (β ^ p - 1) * β ^ k in
        let next : (β ^ p - 1) * β ^ (k + 1) ≡ greatest * β = rw (← power_next β k) (omega arith) in
        omega (
          arith,
          sum_most x.negative y.negative (size_of β x) (size_of β y),
          shifted_size hx.small l,
          shifted_size hy.small m,
          mul-le-mul_left greatest ok.base,
        )
