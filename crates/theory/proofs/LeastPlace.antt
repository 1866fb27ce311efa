-- Laws of uls: it divides n, and no greater power of β does.
use Rattle.theory.proofs.Prelude.{ℕ, ◌≤◌, ◌<◌, ◌+◌, ◌^◌, ◌*◌, suc, zero, ◌%◌, true, false, Bool, not, ap, ◌≡◌, mul-le-mul_left, le_antisymm, le_of_suc-le-suc, lt_of_not-le, add-suc, arith, eqb, T}
use native.Mathlib.Nat.{mod-eq_of_lt}
use lib.Dec.{eqb→eq}
use mir.Facts.{eqb_no}
use Rattle.theory.specs.Units.{uls, zeros, search_zeros}
use Rattle.theory.proofs.Powers.{pow_pos, pow_mono, pow-add, below_pow}
use Rattle.theory.proofs.Multiples.{Multiple, multiple_pow, multiple_one, multiple_mod, mod_multiple, multiple_times, multiple_cancel}

pub record Ends (β n k : ℕ) : Type 0 where
  pub multiple : Multiple (β ^ k) n
  pub no_more : ¬ Multiple (β ^ suc k) n

module _ {β : ℕ} (hβ : 2 ≤ β) where
  -- a positive n is no multiple of a power above it
  too_high : (n k : ℕ) → 1 ≤ n → n ≤ k → ¬ Multiple (β ^ suc k) n
  too_high n k hn h m =
      let below : n < β ^ suc k = omega (arith, below_pow hβ n, pow_mono hβ {i = n} {j = suc k} (omega arith)) in
      omega (arith, mod-eq_of_lt below, multiple_mod m)

  found : (n fuel k : ℕ) → 1 ≤ n → n ≤ k + fuel → Multiple (β ^ k) n → Ends β n (search_zeros β n fuel k)
  unfolding search_zeros
  found n zero k hn h m = record { multiple = m; no_more = too_high n k hn (omega arith) }
  found n (suc fuel) k hn h m = by (eqb (n % β ^ suc k) 0) (eqb→eq _ _) (λ t. eqb_no t) (found n fuel (suc k) hn (omega arith))
    where
      by : (b : Bool) → (T b → n % β ^ suc k ≡ 0) → (T (not b) → n % β ^ suc k ≡ 0 → ⊥) → (Multiple (β ^ suc k) n → Ends β n (search_zeros β n fuel (suc k)))
          → Ends β n (elim b [ true ↦ search_zeros β n fuel (suc k) | false ↦ k ])
      by true f g ih = ih (mod_multiple n (f tt))
      by false f g ih = record { multiple = m; no_more = λ l. g tt (multiple_mod l) }

  pub zeros_found : (n : ℕ) → 1 ≤ n → Ends β n (zeros β n)
  unfolding zeros
  zeros_found n hn = found n n 0 hn (omega arith) (multiple_one β n)

  pub uls_multiple : (n : ℕ) → Multiple (uls β (suc n)) (suc n)
  unfolding uls
  uls_multiple n = (zeros_found (suc n) (omega arith)).multiple

  pub uls_greatest : (n k : ℕ) → Multiple (β ^ k) (suc n) → β ^ k ≤ uls β (suc n)
  unfolding uls
  uls_greatest n k m =
      pow_mono hβ (le_of_suc-le-suc (lt_of_not-le (λ (h : suc (zeros β (suc n)) ≤ k). (zeros_found (suc n) (omega arith)).no_more (multiple_pow β h m))))

  -- there is one such number of zeros
  ends_le : {n i j : ℕ} → Ends β n i → Ends β n j → i ≤ j
  ends_le {i} {j} d e = le_of_suc-le-suc (lt_of_not-le (λ (h : suc j ≤ i). e.no_more (multiple_pow β h d.multiple)))

  pub ends_zeros : {n k : ℕ} → 1 ≤ n → Ends β n k → zeros β n ≡ k
  ends_zeros {n} {k} hn e = le_antisymm (ends_le (zeros_found n hn) e) (ends_le e (zeros_found n hn))

  -- digits that are written behind n add their zeros
  pub uls_shift : (m k : ℕ) → 1 ≤ m → uls β (m * β ^ k) ≡ β ^ (k + zeros β m)
  unfolding uls
  uls_shift m k hm = go (m * β ^ k) (omega (arith, mul-le-mul_left m (pow_pos hβ k))) shifted
    where
      found_m : Ends β m (zeros β m)
      found_m = zeros_found m hm

      shifted : Ends β (m * β ^ k) (k + zeros β m)
      shifted =
          record {
            multiple = rw pow-add (multiple_times (β ^ k) found_m.multiple);
            no_more = λ h. found_m.no_more (multiple_cancel (pow_pos hβ k) (rw (← add-suc k (zeros β m), pow-add) at h));
          }

      go : (n : ℕ) → 1 ≤ n → Ends β n (k + zeros β m) → uls β n ≡ β ^ (k + zeros β m)
      go zero h e = absurd (omega arith)
      go (suc n) h e = ap (λ (i : ℕ). β ^ i) (ends_zeros h e)
