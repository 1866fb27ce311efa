-- Powers of 10 by the bits of their exponent, and the digits of a number in base 10 by its bits: computed tests over all of them.
use Rattle.theory.proofs.Prelude.{ℕ, ◌≤◌, ◌<◌, ◌+◌, ◌^◌, ◌*◌, ◌/◌, true, Bool, ◌≡◌, refl, pow-suc, add-one, eqb, leb, ltb, eqb-true, leb-true, ltb-true, arith}
use Rattle.theory.specs.Tests.{◌and◌}
use Rattle.theory.proofs.Tests.{and_left, and_right}
use Rattle.format.proofs.Limits.{below, at_below}
use Rattle.rounding.specs.Digits.{Digits, factor_of}
use Rattle.rounding.proofs.Scales.{count_le}

-- ---- powers
abbrev pub first : ℕ → ℕ
first k = factor_of k 1 10 * factor_of k 2 100

abbrev pub low : ℕ → ℕ
low k = first k * factor_of k 4 10000

abbrev pub high : ℕ → ℕ
high k = factor_of k 8 100000000 * factor_of k 16 10000000000000000

abbrev passes : ℕ → Bool
passes k = ltb (first k) (2 ^ 64) and ltb (low k) (2 ^ 64) and ltb (high k) (2 ^ 64) and ltb (low k * high k) (2 ^ 64) and eqb (low k * high k) (10 ^ k)

all_pass : below passes 19 ≡ true
unfolding below ◌and◌
all_pass = refl

pub record Decimal (k : ℕ) : Type 0 where
  pub first_fits : first k < 2 ^ 64
  pub low_fits : low k < 2 ^ 64
  pub high_fits : high k < 2 ^ 64
  pub fits : low k * high k < 2 ^ 64
  pub is : low k * high k ≡ 10 ^ k

pub decimal : (k : ℕ) → k ≤ 18 → Decimal k
decimal k l =
    let t = at_below passes 19 all_pass k (omega arith) in
    let u = and_right _ _ t in
    let v = and_right _ _ u in
    let w = and_right _ _ v in
    record {
      first_fits = ltb-true _ _ (and_left _ _ t);
      low_fits = ltb-true _ _ (and_left _ _ u);
      high_fits = ltb-true _ _ (and_left _ _ v);
      fits = ltb-true _ _ (and_left _ _ w);
      is = eqb-true _ _ (and_right _ _ w);
    }

-- ---- digits
abbrev pub guessed : ℕ → ℕ
guessed b = b * 1233 / 4096

abbrev near : ℕ → Bool
near b = leb (guessed b) 18 and leb (2 ^ b) (10 ^ (guessed b + 1)) and leb (10 ^ guessed b) (5 * 2 ^ b)

all_near : below near 64 ≡ true
unfolding below ◌and◌
all_near = refl

module _ {n b : ℕ} (h : Digits 2 n b) (l : n < 2 ^ 63) where
  pub bits_few : b ≤ 63
  bits_few = count_le {n = n} (omega arith) b 63 h.above l

  t : near b ≡ true
  t = at_below near 64 all_near b (omega (arith, bits_few))

  upper : 2 ^ b ≤ 10 ^ (guessed b + 1)
  upper = leb-true _ _ (and_left _ _ (and_right _ _ t))

  lower : 10 ^ guessed b ≤ 5 * 2 ^ b
  lower = leb-true _ _ (and_right _ _ (and_right _ _ t))

  pub guess_few : guessed b ≤ 18
  guess_few = leb-true _ _ (and_left _ _ t)

  -- one more than the guess
  pub guess_more : 10 ^ guessed b ≤ n → Digits 10 n (guessed b + 1)
  guess_more k =
      let next : 10 ^ (guessed b + 1) ≡ 10 ^ guessed b * 10 = rw add-one (pow-suc 10 (guessed b)) in
      record { below = omega (arith, h.below, upper); above = omega (arith, next) }

  -- the guess
  pub guess_right : n < 10 ^ guessed b → Digits 10 n (guessed b)
  guess_right k = record { below = k; above = omega (arith, h.above, lower) }
