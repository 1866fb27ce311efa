-- From the digits that were taken to the cut of the value.
use Rattle.theory.proofs.Prelude.{ℕ, ◌≤◌, ◌<◌, ◌+◌, ◌^◌, ◌*◌, ◌-◌, suc, zero, ◌%◌, ◌/◌, inl, inr, ◌⊎◌, ◌≢◌, ◌∙◌, ap, ◌≡◌, sym, refl, mul-le-mul_right, mul-le-mul_left, pow-zero, mul-pos, mul-lt-mul_of_pos_right, pow-succ', lt_of_mul-lt-mul_right, div-add-mod', eq_of_mul-eq-mul_right, le_of_mul-le-mul_right, mod-lt, add-suc, arith}
use Rattle.rounding.proofs.Prelude.{Positional, place, pow-add, pow_pos, pow_half, Scale, ScaledWithin, Location, Exact, Below, cut_of, located, located_exact, located_below, cut_is, power_at, least_bound}
use Rattle.theory.proofs.Place.{place_fits, above_power}
use Rattle.wide.specs.declared.long_division.Division.{Division}
use Rattle.wide.proofs.Digits.{taken_exact}
use Rattle.wide.specs.Division.{Start, Quotient, Taken, Ended, all_digits, lowest_place, no_rest}

-- what was taken of n / w is a quotient of the value: the divisor has t factors of the base, and the value up - down more
pub taken_quotient : {β n d w t places q r k : ℕ} (up down : ℕ) → Start β n d w t → places + down ≡ t + up → Taken β n w places q r k
    → Quotient β (n * β ^ up) (d * β ^ down) w q r k
taken_quotient {β} {n} {d} {w} {t} {places} {q} {r} {k} up down f e v =
    let exact = taken_exact β f.above v in
    let powers : β ^ (places - k) * (β ^ down * β ^ k) ≡ β ^ t * β ^ up =
    ap (λ (x : ℕ). β ^ (places - k) * x) (sym (pow-add β down k))
    ∙ sym (pow-add β (places - k) (down + k))
    ∙ power_at β {j = t + up} (omega (arith, v.within))
    ∙ pow-add β t up in
    record {
      exact = omega (
        arith,
        ap (λ (x : ℕ). n * d * x) powers,
        ap (λ (x : ℕ). n * β ^ up * x) f.power,
        ap (λ (x : ℕ). x * (d * β ^ down * β ^ k)) exact.0,
      );
      rest = exact.1;
    }

module _ {β p : ℕ} (ok : Positional β p) where
  -- a quotient with all digits, or at the lowest place, is the cut
  module _ {N D w q r k : ℕ} (h_d : 1 ≤ D) (v : Quotient β N D w q r k) where
    size : 1 ≤ D * β ^ k
    size = mul-pos h_d (pow_pos ok.base k)

    power : β ^ (p + k) * D * w ≡ β ^ p * w * (D * β ^ k)
    power = rw (pow-add β p k) (omega arith)

    below : q < β ^ p → N < β ^ (p + k) * D
    below h =
        let less : q * w + r < β ^ p * w = omega (arith, v.rest, mul-le-mul_right w h) in
        lt_of_mul-lt-mul_right w (omega (arith, v.exact, power, mul-lt-mul_of_pos_right less size))

    above : β ^ p ≤ β * q → β ^ (p + k) * D ≤ β * N
    above h =
        le_of_mul-le-mul_right {k = w}
        (omega (arith, ap (λ (x : ℕ). β * x) v.exact, power, mul-le-mul_right (w * (D * β ^ k)) h)) (omega (arith, v.rest))

    pub quotient_cut : q < β ^ p → (k ≡ 0) ⊎ (β ^ p ≤ β * q) → cut_of β p N D ≡ record { steps = q; place = k; location = located r w }
    quotient_cut h e =
        cut_is ok h_d q r w w (D * β ^ k) (record { below = below h; normal = by e }) (omega (arith, v.rest)) size v.exact (omega arith) v.rest
      where
        by : (k ≡ 0) ⊎ (β ^ p ≤ β * q) → (k ≡ 0) ⊎ (β ^ (p + k) * D ≤ β * N)
        by (inl z) = inl z
        by (inr l) = inr (above l)

  -- the cut of a whole number M goes by M alone
  cut_whole : (M D : ℕ) → 1 ≤ D → cut_of β p (M * D) D
      ≡ record { steps = M / β ^ place β p M; place = place β p M; location = located (M % β ^ place β p M) (β ^ place β p M) }
  cut_whole M D h_d =
      let s : ℕ = β ^ place β p M in
      cut_is ok h_d (M / s) (M % s) s 1 D
      (record { below = mul-lt-mul_of_pos_right (place_fits ok M) h_d; normal = by (place β p M) (λ j l. above_power ok {n = M} {k = j} l) })
      (omega arith) h_d (omega (arith, ap (λ (x : ℕ). x * D) (div-add-mod' M s))) (omega arith) (mod-lt M (pow_pos ok.base (place β p M)))
    where
      by : (k : ℕ) → ((j : ℕ) → j < k → β ^ (p + j) ≤ M) → (k ≡ 0) ⊎ (β ^ (p + k) * D ≤ β * (M * D))
      by zero h = inl refl
      by (suc j) h = inr (rw (add-suc, pow-succ') (omega (arith, mul-le-mul_right (β * D) (h j (omega arith)))))

  -- nothing remains: the cut of q steps
  pub exact_cut : {N D w q r k : ℕ} → 1 ≤ D → Quotient β N D w q r k → r ≡ 0 → cut_of β p N D ≡ cut_of β p (q * β ^ k) (β ^ 0)
  exact_cut {N} {D} {w} {q} {r} {k} h_d v z =
      let M : ℕ = q * β ^ k in
      let whole : N ≡ M * D = eq_of_mul-eq-mul_right w (omega (arith, v.rest)) N (M * D) (v.exact ∙ rw z (omega arith)) in
      let itself : M ≡ M * β ^ 0 = rw pow-zero (omega arith) in
      ap (λ (x : ℕ). cut_of β p x D) whole ∙ cut_whole M D h_d
      ∙ sym (ap (λ (x : ℕ). cut_of β p x (β ^ 0)) itself ∙ cut_whole M (β ^ 0) (pow_pos ok.base 0))

  pub zero_cut : (D up : ℕ) → 1 ≤ D → cut_of β p (0 * β ^ up) D ≡ record { steps = 0; place = 0; location = Exact }
  zero_cut D up h_d =
      let v : Quotient β (0 * β ^ up) D 1 0 0 0 = record { exact = omega arith; rest = omega arith } in
      quotient_cut h_d v (pow_pos ok.base p) (inl refl)
      ∙ ap (λ (l : Location). record { steps = 0; place = 0; location = l }) (located_exact 0 1 refl)

  -- no digit is taken: the value is below half a step
  pub under_cut : {n d w t : ℕ} (up down : ℕ) → 1 ≤ n → 1 ≤ d → Start β n d w t → t + up < down
      → cut_of β p (n * β ^ up) (d * β ^ down) ≡ record { steps = 0; place = 0; location = Below }
  under_cut {n} {d} {w} {t} up down hn hd f l =
      let D : ℕ = d * β ^ down in
      let below : n * β ^ up < w * β ^ up = mul-lt-mul_of_pos_right f.above (pow_pos ok.base up) in
      let half : 2 * (β ^ t * β ^ up) ≤ β ^ down = rw (← pow-add β t up) (pow_half ok.base l) in
      let small : 2 * (n * β ^ up) < D = omega (arith, below, ap (λ (x : ℕ). x * β ^ up) f.power, mul-le-mul_left d half) in
      let v : Quotient β (n * β ^ up) D D 0 (n * β ^ up) 0 = record { exact = rw pow-zero (omega arith); rest = omega arith } in
      quotient_cut (mul-pos hd (pow_pos ok.base down)) v (pow_pos ok.base p) (inl refl)
      ∙ ap (λ (m : Location). record { steps = 0; place = 0; location = m })
      (located_below (n * β ^ up) D (λ z. omega (arith, mul-pos hn (pow_pos ok.base up))) small)

-- at the first two ends all digits stand, or the place is the lowest
pub ended_least : {limit : ℕ} {s : Scale} {v : Division} → ScaledWithin limit s → Ended s v → v.remainder ≢ 0 → (v.place ≡ 0) ⊎ (s.base ^ s.digits ≤ s.base * v.quotient)
ended_least {s} {v} h (all_digits l) r = inr (omega (arith, least_bound h, h.bound_power, mul-le-mul_left s.base l))
ended_least h (lowest_place z) r = inl z
ended_least h (no_rest z) r = absurd (r z)
