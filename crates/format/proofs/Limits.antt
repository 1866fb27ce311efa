-- The limit of each exponent, by one computed test over all of them: its power is within 2 ^ 63, and that of the next base is not.
use Rattle.theory.proofs.Prelude.{ℕ, ◌≤◌, ◌<◌, ◌+◌, ◌*◌, ◌/◌, ◌%◌, ◌^◌, suc, zero, true, false, Bool, ⊎_elim, ◌≡◌, sym, refl, subst, ℕ_discrete, le_trans, pow-le-pow_left, arith, eqb, leb, ltb, le-leb, leb-true, lt-leb, leb-false, eqb-true, ltb-true}
use native.Mathlib.Nat.{not-suc-le-zero}
use Rattle.theory.specs.Tests.{◌and◌, ◌or◌}
use Rattle.theory.proofs.Tests.{and_left, and_right, or_cases}
use Rattle.theory.proofs.Powers.{pow_le_cancel}
use Rattle.format.specs.Limits.{packed_limits, limit}

-- the test passes at each number below n
unfoldable pub below : (ℕ → Bool) → ℕ → Bool
below test zero = true
below test (suc n) = test n and below test n

pub at_below : (test : ℕ → Bool) (n : ℕ) → below test n ≡ true → (k : ℕ) → k < n → test k ≡ true
unfolding below
at_below test zero t k h = absurd (not-suc-le-zero h)
at_below test (suc n) t k h = go (ℕ_discrete k n) (at_below test n (and_right (test n) (below test n) t) k)
  where
    go : Dec (k ≡ n) → (k < n → test k ≡ true) → test k ≡ true
    go (yes e) r = subst (λ (m : ℕ). test m ≡ true) (sym e) (and_left (test n) (below test n) t)
    go (no ne) r = r (omega arith)

-- each limit is the byte of its exponent, and one more
abbrev unpacked : ℕ → ℕ
unpacked k = packed_limits (k / 8) / 2 ^ (8 * (k % 8)) % 256 + 1

all_unpacked : below (λ (k : ℕ). eqb (unpacked k) (limit k)) 64 ≡ true
unfolding below ◌and◌
all_unpacked = refl

pub unpacked_is : (k : ℕ) → k < 64 → unpacked k ≡ limit k
unpacked_is k h = eqb-true _ _ (at_below (λ (k : ℕ). eqb (unpacked k) (limit k)) 64 all_unpacked k h)

-- the limit's power is at most 2 ^ 63; that of the next base is above it, where there is one
abbrev greatest : ℕ → Bool
greatest k = leb (limit k ^ k) (2 ^ 63) and (leb 256 (limit k) or ltb (2 ^ 63) (suc (limit k) ^ k))

computed : below greatest 64 ≡ true
unfolding below ◌and◌ ◌or◌
computed = refl

-- a base up to the limit has its power within 2 ^ 63, and no other up to 256 has
within : (b k : ℕ) → k < 64 → b ≤ limit k → b ^ k ≤ 2 ^ 63
within b k h l = le_trans (pow-le-pow_left l k) (leb-true _ _ (and_left _ _ (at_below greatest 64 computed k h)))

beyond : (b k : ℕ) → k < 64 → b ≤ 256 → limit k < b → 2 ^ 63 < b ^ k
beyond b k h m l =
    ⊎_elim (λ e. absurd (omega (arith, leb-true 256 (limit k) e))) (λ e. le_trans (ltb-true _ _ e) (pow-le-pow_left l k))
    (or_cases _ _ (and_right _ _ (at_below greatest 64 computed k h)))

pub limit_test : (b k : ℕ) → k < 64 → b ≤ 256 → leb b (limit k) ≡ leb (b ^ k) (2 ^ 63)
limit_test b k h m = go (leb b (limit k)) refl
  where
    go : (t : Bool) → leb b (limit k) ≡ t → t ≡ leb (b ^ k) (2 ^ 63)
    go true e = sym (le-leb _ _ (within b k h (leb-true _ _ e)))
    go false e = sym (lt-leb _ _ (beyond b k h m (leb-false _ _ e)))

-- a power of at least 2 that is at most 2 ^ e has an exponent of at most e
pub exponent_most : (e b k : ℕ) → 2 ≤ b → b ^ k ≤ 2 ^ e → k ≤ e
exponent_most e b k h p = pow_le_cancel {β = 2} (omega arith) k e (le_trans (pow-le-pow_left h k) p)
