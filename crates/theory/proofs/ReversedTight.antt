-- The bounds of the reversed sum cannot be lowered: for every p theorem 3's is reached, and theorem 2's is missed by 6 units of 3 · 2 ^ p + 6
-- (the paper's own examples, in units of the last place). At p = 24 our own roundings give both.
use Rattle.theory.proofs.Prelude.{ℕ, ◌≤◌, ◌<◌, ◌+◌, ◌^◌, ◌*◌, ◌-◌, ◌∙◌, ◌≡◌, ℕ_discrete, refl, arith, ℤ, ◌<ℤ◌, ◌≤ℤ◌, pos, ◌+ℤ◌, nat_abs, ◌-ℤ◌, negsuc}
use Rattle.theory.proofs.Words.{Positional, place, step, Wide, lower, upper, lower_q, upper_q, WideZ, round_z}
use Rattle.theory.specs.Place.{search_place}
use Rattle.theory.specs.Neighbours.{floor_to, ceil_to}
use Rattle.theory.specs.Round.{Direction, NearestEven, Upward, round, location, takes_upper, chosen}
use Rattle.theory.specs.Faithful.{LeastAbove, equal, next_above}
use Rattle.theory.specs.Nearest.{NearestNumber}
use Rattle.theory.proofs.Powers.{pow-add, pow_pred, pow_pos, pow_mono}
use Rattle.theory.proofs.Multiples.{Multiple, multiple_gap, multiple_one}
use Rattle.theory.proofs.Place.{le_place}
use Rattle.theory.proofs.Wide.{wide_multiple, wide_pow, wide_low, wide_shift}
use Rattle.theory.proofs.Integers.{size_diff, sum_parts, diff_parts, parts_eq, parts_lt, parts_le, lt_parts, eq_by_size}
use Rattle.theory.proofs.FastTwoSum.{error}
use Rattle.theory.proofs.Reversed.{ReversedTriple, ReversedNearest}

-- ---- computed: a, b, x, z, y with 24 digits
abbrev three : (d : Direction) (a b : ℤ) → ℤ × ℤ × ℤ
three d a b =
    let x : ℤ = round_z 2 24 d (a +ℤ b) 1 in
    let z : ℤ = round_z 2 24 d (x -ℤ a) 1 in
    (x, z, round_z 2 24 d (b -ℤ z) 1)

nearest_24 : three NearestEven (negsuc 0) (pos (2 ^ 24 + 2)) ≡ (pos (2 ^ 24), pos (2 ^ 24), pos 2)
unfolding round_z round lower_q upper_q lower upper floor_to ceil_to step place search_place location takes_upper chosen
nearest_24 = refl

upward_24 : three Upward (negsuc (2 ^ 24 - 2)) (pos (2 * 2 ^ 24)) ≡ (pos (2 ^ 24 + 2), pos (2 * 2 ^ 24 + 4), negsuc 3)
unfolding round_z round lower_q upper_q lower upper floor_to ceil_to step place search_place location takes_upper chosen
upward_24 = refl

-- ---- for every p
module _ {p : ℕ} (ok : Positional 2 p) where
  halves : 2 ^ p ≡ 2 * 2 ^ (p - 1)
  halves = pow_pred 2 ok.digits

  -- from 2 ^ p on the numbers are even, from 2 ^ (p + 1) on multiples of 4
  wide_even : {n : ℕ} → Wide 2 p n → 2 ^ p ≤ n → Multiple 2 n
  wide_even w l = wide_low ok {k = 1} w (le_place ok (omega (arith, pow_mono ok.base {i = p + 0} {j = p} (omega arith))))

  wide_fours : {n : ℕ} → Wide 2 p n → 2 * 2 ^ p ≤ n → Multiple 4 n
  wide_fours w l = wide_low ok {k = 2} w (le_place ok (omega (arith, pow-add 2 p 1)))

  even_wide : Wide 2 p (2 ^ p + 2)
  even_wide = wide_multiple ok 1 (record { times = 2 ^ (p - 1) + 1; is = omega (arith, halves) }) (omega (arith, pow-add 2 p 1, halves, pow_pos ok.base (p - 1)))

  odd_not_wide : ¬ Wide 2 p (2 ^ p + 1)
  odd_not_wide w = let m : Multiple 2 (2 ^ p + 1) = wide_even w (omega arith) in omega (arith, m.is, halves)

  four_wide : Wide 2 p (2 * 2 ^ p + 4)
  four_wide =
      let same : 2 * (2 ^ p + 2) ≡ 2 * 2 ^ p + 4 = omega arith in
      rw same at (wide_shift ok even_wide)

  four_not_wide : ¬ Wide 2 p (2 * 2 ^ p + 1)
  four_not_wide w = let m : Multiple 4 (2 * 2 ^ p + 1) = wide_fours w (omega arith) in omega (arith, m.is, halves)

  -- a number is nearest to itself, and 2 ^ p to 2 ^ p + 1
  itself : (v : ℤ) → WideZ 2 p v → NearestNumber 2 p v v
  itself v h = record { number = h; nearest = λ w k. omega (arith, size_diff v v) }

  beside : NearestNumber 2 p (pos (2 ^ p + 1)) (pos (2 ^ p))
  beside = record { number = wide_pow ok p; nearest = farther }
    where
      farther : (w : ℤ) → WideZ 2 p w → nat_abs (pos (2 ^ p + 1) -ℤ pos (2 ^ p)) ≤ nat_abs (pos (2 ^ p + 1) -ℤ w)
      farther w k = go (ℕ_discrete (nat_abs (pos (2 ^ p + 1) -ℤ w)) 0)
        where
          go : Dec (nat_abs (pos (2 ^ p + 1) -ℤ w) ≡ 0) → nat_abs (pos (2 ^ p + 1) -ℤ pos (2 ^ p)) ≤ nat_abs (pos (2 ^ p + 1) -ℤ w)
          go (yes e) = absurd (odd_not_wide (rw (← eq_by_size (pos (2 ^ p + 1)) w e) at k))
          go (no e) = omega (arith, e, size_diff (pos (2 ^ p + 1)) (pos (2 ^ p)))

  -- ---- theorem 3's bound is reached: x + y is off by 1, and x is 2 ^ p
  nearest_sum : negsuc 0 +ℤ pos (2 ^ p + 2) ≡ pos (2 ^ p + 1)
  nearest_sum = parts_eq (negsuc 0 +ℤ pos (2 ^ p + 2)) (pos (2 ^ p + 1)) (omega (arith, sum_parts (negsuc 0) (pos (2 ^ p + 2))))

  pub nearest_reached : ReversedNearest p (negsuc 0) (pos (2 ^ p + 2)) (pos (2 ^ p)) (pos (2 ^ p)) (pos 2)
  nearest_reached =
      let rest : pos (2 ^ p + 2) -ℤ pos (2 ^ p) ≡ pos 2 = parts_eq (pos (2 ^ p + 2) -ℤ pos (2 ^ p)) (pos 2) (omega (arith, diff_parts (pos (2 ^ p + 2)) (pos (2 ^ p)))) in
      record {
        a_wide = wide_pow ok 0;
        b_wide = even_wide;
        order = omega (arith, pow_pos ok.base p);
        x_step = rw nearest_sum beside;
        z_step = beside;
        y_step = rw rest (itself (pos 2) (wide_pow ok 1));
      }

  pub nearest_off : 2 ^ p * error (negsuc 0) (pos (2 ^ p + 2)) (pos (2 ^ p)) (pos 2) ≡ 2 ^ p
  nearest_off =
      let off : error (negsuc 0) (pos (2 ^ p + 2)) (pos (2 ^ p)) (pos 2) ≡ 1 = rw nearest_sum (size_diff (pos (2 ^ p + 2)) (pos (2 ^ p + 1)) ∙ omega arith) in
      rw off (omega arith)

  -- ---- theorem 2's is missed by 6: x + y is off by 3, and x is 2 ^ p + 2
  upward_sum : negsuc (2 ^ p - 2) +ℤ pos (2 * 2 ^ p) ≡ pos (2 ^ p + 1)
  upward_sum =
      parts_eq (negsuc (2 ^ p - 2) +ℤ pos (2 * 2 ^ p)) (pos (2 ^ p + 1))
      (omega (arith, sum_parts (negsuc (2 ^ p - 2)) (pos (2 * 2 ^ p)), halves, pow_pos ok.base (p - 1)))

  next_even : LeastAbove 2 p (pos (2 ^ p + 1)) (pos (2 ^ p + 2))
  next_even =
      record {
        number = even_wide;
        above = parts_lt (pos (2 ^ p + 1)) (pos (2 ^ p + 2)) (omega arith);
        least = λ w h l. parts_le (pos (2 ^ p + 2)) w (omega (arith, lt_parts l));
      }

  next_four : LeastAbove 2 p (pos (2 * 2 ^ p + 1)) (pos (2 * 2 ^ p + 4))
  next_four = record { number = four_wide; above = parts_lt (pos (2 * 2 ^ p + 1)) (pos (2 * 2 ^ p + 4)) (omega arith); least = at_least }
    where
      own : Multiple 4 (2 * 2 ^ p)
      own = record { times = 2 ^ (p - 1); is = omega (arith, halves) }

      at_least : (w : ℤ) → WideZ 2 p w → pos (2 * 2 ^ p + 1) <ℤ w → pos (2 * 2 ^ p + 4) ≤ℤ w
      at_least (pos n) h l =
          let beyond : 2 * 2 ^ p < n = omega (arith, lt_parts l) in
          parts_le (pos (2 * 2 ^ p + 4)) (pos n) (omega (arith, multiple_gap own (wide_fours h (omega arith)) beyond))
      at_least (negsuc n) h l = absurd (omega (arith, lt_parts l))

  pub upward_reached : ReversedTriple p (negsuc (2 ^ p - 2)) (pos (2 * 2 ^ p)) (pos (2 ^ p + 2)) (pos (2 * 2 ^ p + 4)) (negsuc 3)
  upward_reached =
      let two : 2 ≤ 2 ^ p = omega (arith, halves, pow_pos ok.base (p - 1)) in
      let middle : pos (2 ^ p + 2) -ℤ negsuc (2 ^ p - 2) ≡ pos (2 * 2 ^ p + 1) =
      parts_eq (pos (2 ^ p + 2) -ℤ negsuc (2 ^ p - 2)) (pos (2 * 2 ^ p + 1)) (omega (arith, diff_parts (pos (2 ^ p + 2)) (negsuc (2 ^ p - 2)))) in
      let rest : pos (2 * 2 ^ p) -ℤ pos (2 * 2 ^ p + 4) ≡ negsuc 3 =
      parts_eq (pos (2 * 2 ^ p) -ℤ pos (2 * 2 ^ p + 4)) (negsuc 3) (omega (arith, diff_parts (pos (2 * 2 ^ p)) (pos (2 * 2 ^ p + 4)))) in
      record {
        a_wide = wide_multiple ok 0 (multiple_one 2 _) (omega (arith, pow_mono ok.base {i = p} {j = p + 0} (omega arith)));
        b_wide = wide_shift ok (wide_pow ok p);
        order = omega arith;
        x_step = rw upward_sum (next_above odd_not_wide next_even);
        z_step = rw middle (next_above four_not_wide next_four);
        y_step = rw rest (equal (wide_pow ok 2) refl);
      }

  pub upward_off : 2 ^ p * error (negsuc (2 ^ p - 2)) (pos (2 * 2 ^ p)) (pos (2 ^ p + 2)) (negsuc 3) + 6 ≡ 3 * (2 ^ p + 2)
  upward_off =
      let off : error (negsuc (2 ^ p - 2)) (pos (2 * 2 ^ p)) (pos (2 ^ p + 2)) (negsuc 3) ≡ 3 =
      rw upward_sum (size_diff (pos (2 ^ p + 2) +ℤ negsuc 3) (pos (2 ^ p + 1)) ∙ omega (arith, sum_parts (pos (2 ^ p + 2)) (negsuc 3))) in
      rw off (omega arith)
