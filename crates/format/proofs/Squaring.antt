-- Powers by repeated squaring, and the shift that is a power of two.
use Rattle.theory.proofs.Prelude.{ℕ, ◌≤◌, ◌<◌, ◌+◌, ◌^◌, ◌*◌, suc, zero, ◌%◌, ◌/◌, ◌∙◌, ap, ◌≡◌, sym, mul-le-mul_right, mul-le-mul_left, pow-zero, pow-succ', arith}
use native.Mathlib.Nat.{one-le-pow}
use lib.Dec.{lit<}
use lib.Pow.{shl_exact}

-- 1 shifted by k places, in a word of w bits
pub one_shl : (w k : ℕ) → k < w → (1 * 2 ^ k) % 2 ^ w ≡ 2 ^ k
one_shl w k h = shl_exact {a = 1} 1 k w (lit< tt) (omega arith) ∙ omega arith

pub square_power : (s q : ℕ) → s ^ (q + q) ≡ (s * s) ^ q
square_power s zero = pow-zero s ∙ sym (pow-zero (s * s))
square_power s (suc q) =
    let two : suc q + suc q ≡ suc (suc (q + q)) = omega arith in
    rw (two, pow-succ' s (suc (q + q)), pow-succ' s (q + q), pow-succ' (s * s) q, square_power s q) (omega arith)

odd_power : (s n : ℕ) → n % 2 ≡ 1 → s ^ n ≡ s * (s * s) ^ (n / 2)
odd_power s n h =
    let same : n ≡ suc (n / 2 + n / 2) = omega arith in
    ap (λ (m : ℕ). s ^ m) same ∙ pow-succ' s (n / 2 + n / 2) ∙ ap (λ (x : ℕ). s * x) (square_power s (n / 2))

even_power : (s n : ℕ) → ¬ (n % 2 ≡ 1) → s ^ n ≡ (s * s) ^ (n / 2)
even_power s n h =
    let same : n ≡ n / 2 + n / 2 = omega arith in
    ap (λ (m : ℕ). s ^ m) same ∙ square_power s (n / 2)

-- r steps of the way: what is collected, times what is left, is the power
pub record Way (power result square rest : ℕ) : Type 0 where
  pub is : result * square ^ rest ≡ power
  pub some : 1 ≤ result
  pub least : 1 ≤ square

pub way_odd : {P r s n : ℕ} → Way P r s n → n % 2 ≡ 1 → Way P (r * s) (s * s) (n / 2)
way_odd {P} {r} {s} {n} w h =
    record { is = omega (arith, w.is, ap (λ (x : ℕ). r * x) (odd_power s n h)); some = omega (arith, mul-le-mul_left r w.least, w.some); least = omega (arith, mul-le-mul_left s w.least, w.least) }

pub way_even : {P r s n : ℕ} → Way P r s n → ¬ (n % 2 ≡ 1) → Way P (r * 1) (s * s) (n / 2)
way_even {P} {r} {s} {n} w h =
    record { is = omega (arith, w.is, ap (λ (x : ℕ). r * x) (even_power s n h)); some = omega (arith, w.some); least = omega (arith, mul-le-mul_left s w.least, w.least) }

-- while more than one is left, what is collected and the square twice are at most the power
pub way_twice : {P r s : ℕ} (n : ℕ) → Way P r s n → 2 ≤ n → r * (s * s) ≤ P
way_twice zero w h = absurd (omega arith)
way_twice (suc zero) w h = absurd (omega arith)
way_twice {P} {r} {s} (suc (suc n)) w h =
    let two : s ^ suc (suc n) ≡ s * s * s ^ n = pow-succ' s (suc n) ∙ ap (λ (x : ℕ). s * x) (pow-succ' s n) ∙ omega arith in
    omega (arith, w.is, ap (λ (x : ℕ). r * x) two, mul-le-mul_left (r * (s * s)) (one-le-pow n s w.least))

-- so the next product and the next square are at most the power
pub way_product : {P r s : ℕ} (n : ℕ) → Way P r s n → 2 ≤ n → r * s ≤ P
way_product {P} {r} {s} n w h = omega (arith, way_twice n w h, mul-le-mul_left (r * s) w.least)

pub way_square : {P r s : ℕ} (n : ℕ) → Way P r s n → 2 ≤ n → s * s ≤ P
way_square {P} {r} {s} n w h = omega (arith, way_twice n w h, mul-le-mul_right (s * s) w.some)

-- what is left at the end: one factor, or none
pub way_none : {P r s : ℕ} → Way P r s 0 → r * 1 ≡ P
way_none {P} {r} {s} w = omega (arith, w.is, ap (λ (x : ℕ). r * x) (pow-zero s))

pub way_one : {P r s : ℕ} → Way P r s 1 → r * s ≡ P
way_one {P} {r} {s} w = ap (λ (x : ℕ). r * x) (sym (pow-succ' s 0 ∙ rw (pow-zero s) (omega arith))) ∙ w.is

pub way_first : (b k : ℕ) → 2 ≤ b → Way (b ^ k) 1 b k
way_first b k h = record { is = omega arith; some = omega arith; least = omega arith }
