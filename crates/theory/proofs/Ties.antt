-- Directions 0 and 1 at a tie, where the value lies exactly in the middle of its two neighbours, n and n + 1 times the step
-- between them: direction 0 takes the even one of n and n + 1, direction 1 the one away from zero.
use Rattle.theory.proofs.Prelude.{ℕ, ◌≤◌, ◌<◌, ◌+◌, ◌^◌, ◌*◌, ◌%◌, ◌/◌, Bool, ◌∙◌, ap, ◌≡◌, ap₂, mul-le-mul_right, mul-pos, le_trans, le_antisymm, lt_of_mul-lt-mul_right, le-div_iff_mul-le, le_of_mul-le-mul_right, mul-div_cancel, div-mul-le_self, arith, eqb, ne_eqb, eq-eqb}
use native.Mathlib.Nat.{lt_of_le_of_lt}
use Rattle.theory.proofs.Words.{Positional, place, step, Wide, lower_q, upper_q}
use Rattle.theory.specs.Round.{NearestEven, NearestAway, Half, location, chosen, takes_upper, round, Tie}
use Rattle.theory.proofs.Multiples.{multiple_of, multiple_power, multiple_le, multiple_gap}
use Rattle.theory.proofs.Place.{place_fits, place_mono, step_pos}
use Rattle.theory.proofs.Wide.{wide_low, wide_multiple}
use Rattle.theory.proofs.Neighbours.{lower_multiple, lower_q_le, lower_q_greatest, upper_q_wide, le_upper_q, upper_q_least}
use Rattle.theory.proofs.Round.{location_is, middle}

between : (N s D n : ℕ) → 1 ≤ s → 1 ≤ D → 2 * N ≡ (2 * n + 1) * s * D → (n * s * D < N) × (N < (n + 1) * s * D)
between N s D n hs h_d e = let some : 1 ≤ s * D = mul-pos hs h_d in (omega arith, omega arith)

module _ {β p N D n : ℕ} (ok : Positional β p) (t : Tie β p N D n) where
  sides : (n * step β p (N / D) * D < N) × (N < (n + 1) * step β p (N / D) * D)
  sides = between N (step β p (N / D)) D n (step_pos ok (N / D)) t.divisor t.halfway

  -- n + 1 steps are a number of the wide format, and so are n
  room : (n + 1) * step β p (N / D) ≤ β ^ (p + place β p (N / D))
  unfolding step
  room =
      let under : n * step β p (N / D) < β ^ (p + place β p (N / D)) =
      lt_of_le_of_lt ((le-div_iff_mul-le t.divisor).1 (omega (arith, sides.0))) (place_fits ok (N / D)) in
      omega (arith, multiple_gap (multiple_of n) (multiple_power β p (place β p (N / D))) under)

  steps_wide : (m : ℕ) → m ≤ n + 1 → Wide β p (m * step β p (N / D))
  unfolding step
  steps_wide m h = wide_multiple ok (place β p (N / D)) (multiple_of m) (le_trans (mul-le-mul_right (step β p (N / D)) h) room)

  -- the neighbours are n and n + 1 steps
  pub tie_lower : lower_q β p N D ≡ n * step β p (N / D)
  unfolding lower_q
  tie_lower =
      le_antisymm
      (multiple_le (lower_multiple ok (N / D)) (multiple_of n)
      (lt_of_mul-lt-mul_right D (omega (arith, lower_q_le ok N t.divisor, sides.1))))
      (lower_q_greatest ok N t.divisor (steps_wide n (omega arith)) (omega (arith, sides.0)))

  pub tie_upper : upper_q β p N D ≡ (n + 1) * step β p (N / D)
  unfolding step
  tie_upper =
      let h = le_upper_q ok N t.divisor in
      let over : n * step β p (N / D) < upper_q β p N D = lt_of_mul-lt-mul_right D (omega (arith, sides.0)) in
      let whole : N / D ≤ upper_q β p N D = le_of_mul-le-mul_right (omega (arith, div-mul-le_self N D)) t.divisor in
      le_antisymm (upper_q_least ok N t.divisor (steps_wide (n + 1) (omega arith)) (omega (arith, sides.1)))
      (omega (arith, multiple_gap (multiple_of n) (wide_low ok (upper_q_wide ok N t.divisor) (place_mono ok whole)) over))

  located : location N D (lower_q β p N D) (upper_q β p N D) ≡ Half
  located =
      location_is
      (middle (λ e. omega (arith, sides.0, ap (λ (q : ℕ). q * D) tie_lower))
      (omega (arith, t.halfway, ap₂ (λ (l u : ℕ). (l + u) * D) tie_lower tie_upper)))

  parity : eqb (lower_q β p N D / step β p (N / D) % 2) 1 ≡ eqb (n % 2) 1
  parity = ap (λ (q : ℕ). eqb (q % 2) 1) (ap (λ (l : ℕ). l / step β p (N / D)) tie_lower ∙ mul-div_cancel n (step_pos ok (N / D)))

  -- direction 0: the even one of n and n + 1
  pub tie_even : (negative : Bool) → n % 2 ≡ 0 → round β p NearestEven negative N D ≡ n * step β p (N / D)
  unfolding round takes_upper chosen
  tie_even negative e = rw (located, parity, ne_eqb (n % 2) 1 (λ o. omega arith)) tie_lower

  pub tie_odd : (negative : Bool) → n % 2 ≡ 1 → round β p NearestEven negative N D ≡ (n + 1) * step β p (N / D)
  unfolding round takes_upper chosen
  tie_odd negative e = rw (located, parity, eq-eqb (n % 2) 1 e) tie_upper

  -- direction 1: the one away from zero
  pub tie_away : (negative : Bool) → round β p NearestAway negative N D ≡ (n + 1) * step β p (N / D)
  unfolding round takes_upper chosen
  tie_away negative = rw located tie_upper
