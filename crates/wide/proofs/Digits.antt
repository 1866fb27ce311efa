-- The digits of a long division: the divisor above n, the digits by the definition, where they end, and how many there are.
use Rattle.theory.proofs.Prelude.{ℕ, ◌≤◌, ◌<◌, ◌+◌, ◌^◌, ◌*◌, ◌-◌, suc, zero, inl, inr, ◌⊎◌, ◌≢◌, ◌%◌, ◌/◌, ◌∙◌, ap, ◌≡◌, sym, refl, mul-le-mul_right, mul-le-mul_left, pow-zero, mul-lt-mul_of_pos_right, pow-succ', lt_of_not-le, eq-or-lt_of_le, le_antisymm, subst, div-add-mod', div-lt_iff_lt-mul, mod-lt, pow-le-pow_left, arith}
use Rattle.rounding.proofs.Prelude.{pow-add, pow_mono, power_next, Scale, Scaled, least_bound}
use Rattle.wide.specs.declared.long_division.Division.{Division}
use Rattle.wide.specs.Division.{remains, digit, digits, Taken, Ended, after, NoEnd, Divided, all_digits, lowest_place, no_rest}
-- a quotient and what remains, from what they make
pub use Rattle.two_words.proofs.Words.{quotient_made}

-- ---- the divisor above n
pub align_next : {w : ℕ} (β d t : ℕ) → w ≡ d * β ^ t → w * β ≡ d * β ^ (t + 1)
align_next β d t e = rw (← power_next β t) (omega (arith, ap (λ (x : ℕ). x * β) e))

pub align_few : {w : ℕ} (β d t : ℕ) → 2 ≤ β → 1 ≤ d → w ≡ d * β ^ t → w < 2 ^ 40 → t < 40
align_few β d t hβ hd e l =
    let two : 2 ≤ 2 = omega arith in
    let less : 2 ^ t < 2 ^ 40 = omega (arith, pow-le-pow_left hβ t, mul-le-mul_right (β ^ t) hd) in
    lt_of_not-le (λ (h : 40 ≤ t). omega (arith, pow_mono two h))

-- what is less than w and has b times as many units goes into w less than b times
goes_into : {b w r : ℕ} → r < w → 1 ≤ b → r * b / w < b
goes_into {b} {w} {r} l h =
    (div-lt_iff_lt-mul {k = w} {x = r * b} {y = b} (omega arith)).1 (omega (arith, mul-lt-mul_of_pos_right {k = b} l h))

-- ---- the digits
module _ {w n : ℕ} (β : ℕ) (h : n < w) where
  pub remains_below : (j : ℕ) → remains β w n j < w
  unfolding remains
  remains_below zero = h
  remains_below (suc j) = mod-lt (remains β w n j * β) (omega arith)

  -- each digit is below the base
  pub digit_below : 1 ≤ β → (j : ℕ) → digit β w n j < β
  digit_below hβ j = goes_into (remains_below j) hβ

  -- the digits and what remains make the dividend
  pub digits_exact : (j : ℕ) → n * β ^ j ≡ digits β w n j * w + remains β w n j
  unfolding digits remains
  digits_exact zero = rw pow-zero (omega arith)
  digits_exact (suc j) =
      rw pow-succ' (omega (arith, ap (λ (v : ℕ). v * β) (digits_exact j), div-add-mod' (remains β w n j * β) w))

  pub taken_exact : {places q r k : ℕ} → Taken β n w places q r k → (n * β ^ (places - k) ≡ q * w + r) × (r < w)
  taken_exact {places} {k = k} t = rw (t.quotient, t.remainder) (digits_exact (places - k), remains_below (places - k))

  -- none yet
  pub taken_none : (places : ℕ) → Taken β n w places 0 n places
  unfolding digits remains
  taken_none places =
      let none : places - places ≡ 0 = omega arith in
      record { quotient = rw none; remainder = rw none; within = omega arith }

  -- one digit more
  pub taken_next : {places q r k : ℕ} → Taken β n w places q r k → 1 ≤ k → Taken β n w places (q * β + r * β / w) (r * β % w) (k - 1)
  unfolding digits remains
  taken_next {places} {q} {r} {k} t l =
      let more : places - (k - 1) ≡ suc (places - k) = omega (arith, t.within) in
      record { quotient = rw (more, t.quotient, t.remainder) refl; remainder = rw (more, t.remainder) refl; within = omega (arith, t.within) }

-- ---- where they end
-- none of the three tests holds: this is no end
pub not_ended : {s : Scale} {v : Division} → v.quotient < s.least → 1 ≤ v.place → v.remainder ≢ 0 → ¬ Ended s v
not_ended l p r (all_digits h) = omega (arith, l, h)
not_ended l p r (lowest_place e) = omega (arith, p, e)
not_ended l p r (no_rest e) = r e

-- what was taken down to a place is what the definition has there
taken_after : (s : Scale) {n w places : ℕ} (v : Division) → Taken s.base n w places v.quotient v.remainder v.place
    → v ≡ after s n w places (places - v.place)
taken_after s {places = places} v t =
    let back : places - (places - v.place) ≡ v.place = omega (arith, t.within) in
    rw (← t.quotient, ← t.remainder, back) refl

-- where that is no end, no place before the next digit is one
pub no_end_next : {s : Scale} {n w places : ℕ} (v : Division) → Taken s.base n w places v.quotient v.remainder v.place → ¬ Ended s v
    → NoEnd s n w places (places - v.place) → NoEnd s n w places (places - (v.place - 1))
no_end_next {s} {n} {w} {places} v t e before i m = by (eq-or-lt_of_le upto)
  where
    upto : i ≤ places - v.place
    upto = omega (arith, m, t.within)

    by : (i ≡ places - v.place) ⊎ (i < places - v.place) → ¬ Ended s (after s n w places i)
    by (inl h) = rw (h, ← taken_after s v t) e
    by (inr h) = before i h

-- the loop has one answer: whoever stops before the first end or after it does not meet its contract
module _ {s : Scale} {n w places : ℕ} where
  divided_le : {u v : Division} → Divided s n w places u → Divided s n w places v → places - u.place ≤ places - v.place
  divided_le {u} {v} a b =
      let less : places - u.place < places - v.place + 1 =
      lt_of_not-le (λ (l : places - v.place + 1 ≤ places - u.place). a.first (places - v.place) (omega arith) (subst (Ended s) (taken_after s v b.taken) b.ended)) in
      omega arith

  pub divided_only : {u v : Division} → Divided s n w places u → Divided s n w places v → u ≡ v
  divided_only {u} {v} a b =
      taken_after s u a.taken ∙ ap (after s n w places) (le_antisymm (divided_le a b) (divided_le b a)) ∙ sym (taken_after s v b.taken)

-- a digit more has room where not all stand
pub fits_next : {s : Scale} {w q r : ℕ} → Scaled s → r < w → q < s.least → q * s.base + r * s.base / w < s.bound
fits_next {s} h m l = omega (arith, least_bound h, mul-le-mul_right s.base l, goes_into {b = s.base} m (omega (arith, h.base_least)))

-- each digit is one of the quotient's, but for the zeros before the first
pub few_digits : {β n w places q r k : ℕ} (b p : ℕ) → 2 ≤ β → 1 ≤ n → n < w → w < 2 ^ b * β → q < β ^ p → Taken β n w places q r k → places - k ≤ p + b
few_digits {β} {n} {w} {places} {q} {r} {k} b p hβ hn h hw hq t =
    let room : 2 ^ b * β ≤ β ^ suc b = rw (pow-succ' β b) (omega (arith, mul-le-mul_right β (pow-le-pow_left hβ b))) in
    let wide : β ^ p * w ≤ β ^ p * β ^ suc b = mul-le-mul_left (β ^ p) (omega arith) in
    let e = taken_exact β h t in
    let less : β ^ (places - k) < β ^ (p + suc b) =
    rw (pow-add β p (suc b)) (omega (arith, e.0, e.1, mul-le-mul_right (β ^ (places - k)) hn, mul-le-mul_right w hq)) in
    let most : places - k < p + suc b = lt_of_not-le (λ (h : p + suc b ≤ places - k). omega (arith, pow_mono hβ h)) in
    omega arith
