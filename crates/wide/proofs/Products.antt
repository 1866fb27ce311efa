-- Exact values with their powers taken together, a bound on products, and the cut of a product by its operands with all their digits.
use Rattle.theory.proofs.Prelude.{ℕ, ◌≤◌, ◌<◌, ◌+◌, ◌^◌, ◌*◌, true, false, ⊎_elim, ◌∙◌, ap₂, ◌≡◌, mul-le-mul, eqb, eqb-true, eqb-false, arith}
use mathlib.Core.Bool.{◌||◌}
use Rattle.theory.proofs.Tests.{either, neither}
use Rattle.rounding.proofs.Prelude.{pow-add, pow_pos, Scale, ScaledWithin, cut_of, positional}
use Rattle.rounding.specs.Digits.{Shifted}
use Rattle.rounding.proofs.Normals.{cut_common}

pub product_small : {B a b : ℕ} → a < B → b < B → a * b < B * B
product_small l m = omega (arith, mul-le-mul l m)

pub product_value : (β m n i j up : ℕ) → m * n * β ^ (i + j + up) ≡ m * β ^ i * (n * β ^ j) * β ^ up
product_value β m n i j up = rw (pow-add β (i + j) up, pow-add β i j) (omega arith)

pub shifted_value : (β m i up : ℕ) → m * β ^ (i + up) ≡ m * β ^ i * β ^ up
shifted_value β m i up = rw (pow-add β i up) (omega arith)

-- one of two numbers is 0, or neither
pub product_zero : (a b : ℕ) → eqb a 0 || eqb b 0 ≡ true → a * b ≡ 0
product_zero a b e =
    ⊎_elim (λ t. rw (eqb-true a 0 t) (omega arith)) (λ t. rw (eqb-true b 0 t) (omega arith)) (either (eqb a 0) (eqb b 0) e)

pub both_some : (a b : ℕ) → eqb a 0 || eqb b 0 ≡ false → (1 ≤ a) × (1 ≤ b)
both_some a b e = let t = neither (eqb a 0) (eqb b 0) e in (omega (arith, eqb-false a 0 t.0), omega (arith, eqb-false b 0 t.1))

-- the shifts go to the divisor
pub product_exact : {limit : ℕ} {s : Scale} → ScaledWithin limit s → {a b m n i j : ℕ} (up down : ℕ) → Shifted s a m i → Shifted s b n j
    → cut_of s.base s.digits (m * n * s.base ^ up) (s.base ^ (down + i + j)) ≡ cut_of s.base s.digits (a * b * s.base ^ up) (s.base ^ down)
product_exact {s} h {a} {b} {m} {n} {i} {j} up down sa sb =
    ap₂ (cut_of β s.digits) numerator denominator
    ∙ cut_common (positional h) (a * b * β ^ up) (β ^ down) (β ^ (i + j)) (pow_pos h.base_least down) (pow_pos h.base_least (i + j))
  where
    β : ℕ
    β = s.base

    numerator : m * n * β ^ up ≡ a * b * β ^ up * β ^ (i + j)
    numerator = rw (sa.is, sb.is, pow-add β i j) (omega arith)

    denominator : β ^ (down + i + j) ≡ β ^ down * β ^ (i + j)
    denominator = rw (pow-add β (down + i) j, pow-add β down i, pow-add β i j) (omega arith)
