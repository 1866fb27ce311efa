-- The three steps of the sum on magnitudes in base 2, where a is smaller than b: v of a + b, x its rounding, w of x - a, z its rounding.
-- The third step is exact, so all that is off is what the second step is off.
use Rattle.theory.proofs.Prelude.{ℕ, ◌≤◌, ◌<◌, ◌+◌, ◌^◌, ◌*◌, ◌-◌, inl, inr, ◌⊎◌, ◌∙◌, ap, ◌≡◌, dec_le, mul-le-mul_left, arith}
use Rattle.theory.proofs.Words.{Positional, place, step, Wide}
use Rattle.theory.proofs.Powers.{pow-add, pow_mono}
use Rattle.theory.proofs.Multiples.{Multiple, dist, multiple_rest, multiple_add}
use Rattle.theory.proofs.Place.{place_fits, place_le, place_mono}
use Rattle.theory.proofs.Wide.{wide_pow, wide_shift, wide_low, wide_sterbenz}
use Rattle.theory.proofs.Neighbours.{Neighbour, neighbour_wide, neighbour_exact, neighbour_ge, neighbour_le, neighbour_keeps}
use Rattle.theory.proofs.Error.{error_none, error_coarse}
use Rattle.theory.proofs.Binades.{Binade, exact, normal, binade, Half, half_of, neighbour_half, error_relative}

-- the signs of a and b agree, or differ
pub data StepSizes (a b v x w : ℕ) : Type 0 where
  agree : v ≡ a + b → w + a ≡ x → StepSizes a b v x w
  differ : v + a ≡ b → w ≡ x + a → StepSizes a b v x w

module _ {p : ℕ} (ok : Positional 2 p) {a b v x w z : ℕ} (wa : Wide 2 p a) (wb : Wide 2 p b) (order : a < b)
    (first : Neighbour 2 p v x) (second : Neighbour 2 p w z) where
  -- x - a is at least half of b and at most twice b
  second_least : StepSizes a b v x w → b ≤ 2 * w
  second_least (agree e g) = omega (arith, neighbour_ge ok first wb (omega arith), neighbour_ge ok first (wide_shift ok wa) (omega arith))
  second_least (differ e g) = omega (arith, neighbour_half ok first)

  second_most : StepSizes a b v x w → w ≤ 2 * b
  second_most (agree e g) = omega (arith, neighbour_le ok first (wide_shift ok wb) (omega arith))
  second_most (differ e g) = omega (arith, neighbour_le ok first wb (omega arith))

  -- and so is z, so that b - z is in the format
  pub third_wide : StepSizes a b v x w → Wide 2 p (dist b z)
  third_wide s = go (dec_le z b)
    where
      h : Half p b
      h = half_of ok b wb

      least : b ≤ 2 * z
      least = omega (arith, h.enough, neighbour_ge ok second h.wide (omega (arith, h.least, second_least s)))

      most : z ≤ 2 * b
      most = neighbour_le ok second (wide_shift ok wb) (second_most s)

      go : Dec (z ≤ b) → Wide 2 p (dist b z)
      go (yes l) =
          let same : dist b z ≡ b - z = omega arith in
          rw same (wide_sterbenz ok wb (neighbour_wide ok second) l least)
      go (no l) =
          let same : dist b z ≡ z - b = omega arith in
          rw same (wide_sterbenz ok (neighbour_wide ok second) wb (omega arith) most)

  first_positive : StepSizes a b v x w → 1 ≤ x
  first_positive (agree e g) = neighbour_ge ok first (wide_pow ok 0) (omega arith)
  first_positive (differ e g) = neighbour_ge ok first (wide_pow ok 0) (omega arith)

  -- where the second step is off by nothing
  none : 1 ≤ x → dist w z ≡ 0 → 2 ^ p * dist w z < 3 * x
  none h e =
      let off : dist w z ≤ 0 = omega arith in
      omega (arith, mul-le-mul_left (2 ^ p) off)

  -- the signs differ, and a is between half of x and half of b: a, v, x and w are multiples of the step of a, and w is below 4 a
  module _ (e : v + a ≡ b) (g : w ≡ x + a) (x_below : x < 2 * a) (b-above : 2 * a ≤ b) where
    w_multiple : Multiple (2 ^ place 2 p a) w
    w_multiple =
        let a_multiple : Multiple (2 ^ place 2 p a) a = wide_low ok wa (omega arith) in
        let v_multiple : Multiple (2 ^ place 2 p a) v = multiple_rest v a_multiple (wide_low ok wb (place_mono ok (omega arith))) (omega arith) in
        rw g (multiple_add (neighbour_keeps ok (place 2 p a) v_multiple first) a_multiple)

    -- 4 steps of a reach a step of w
    steps : step 2 p w ≤ 4 * 2 ^ place 2 p a
    unfolding step
    steps =
        let k : ℕ = place 2 p a in
        let two : 2 ^ (k + 2) ≡ 2 ^ k * 2 ^ 2 = pow-add 2 k 2 in
        let four : 2 ^ (p + (k + 2)) ≡ 2 ^ (p + k) * 2 ^ 2 = ap (λ (i : ℕ). 2 ^ i) (omega arith) ∙ pow-add 2 (p + k) 2 in
        let reach : place 2 p w ≤ k + 2 = place_le ok (omega (arith, place_fits ok a)) in
        omega (arith, pow_mono ok.base reach)

    close : 2 ^ p * dist w z < 3 * x
    close = go (binade ok w) (error_coarse ok second (place 2 p a) w_multiple)
      where
        at_least : a ≤ x
        at_least = neighbour_ge ok first wa (omega arith)

        go : Binade p w → (dist w z ≡ 0) ⊎ (dist w z + 2 ^ place 2 p a ≤ step 2 p w) → 2 ^ p * dist w z < 3 * x
        go h (inl o) = none (omega (arith, at_least)) o
        go (exact h) (inr o) = none (omega (arith, at_least)) (error_none ok second h)
        go (normal k l u s) (inr o) = apart (dec_le w (2 ^ (p + k)))
          where
            off : 2 * dist w z ≤ 3 * 2 ^ k
            off = omega (arith, steps)

            -- a power of 2 is in the format
            apart : Dec (w ≤ 2 ^ (p + k)) → 2 ^ p * dist w z < 3 * x
            apart (yes m) =
                let same : w ≡ 2 ^ (p + k) = omega arith in
                none (omega (arith, at_least)) (error_none ok second (rw same (wide_pow ok (p + k))))
            apart (no m) = omega (arith, mul-le-mul_left (2 ^ p) off, pow-add 2 p k, at_least)

  pub second_off : StepSizes a b v x w → 2 ^ p * dist w z < 3 * x
  second_off (agree e g) =
      let b_reached : b ≤ x = neighbour_ge ok first wb (omega arith) in
      omega (arith, error_relative ok second (omega arith))
  second_off (differ e g) = go (dec_le (2 * a) x) (dec_le (2 * a) b)
    where
      positive : 1 ≤ x
      positive = first_positive (differ e g)

      go : Dec (2 * a ≤ x) → Dec (2 * a ≤ b) → 2 ^ p * dist w z < 3 * x
      go (yes l) h = omega (arith, error_relative ok second (omega (arith, positive)))
      go (no l) (yes h) = close e g (omega arith) h
      go (no l) (no h) =
          let same : b - a ≡ v = omega arith in
          let v_wide : Wide 2 p v = rw same at (wide_sterbenz ok wb wa (omega arith) (omega arith)) in
          let b_again : w ≡ b = omega (arith, neighbour_exact ok first v_wide) in
          none positive (error_none ok second (rw b_again wb))
