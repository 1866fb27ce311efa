-- A row of queries on exact values: the walk finds the nearest line of what is left, which is the nearest of all where the queries ascend;
-- and how many lines are looked at.
use Rattle.theory.proofs.Prelude.{ℕ, ◌≤◌, ◌<◌, ◌+◌, ◌*◌, ◌-◌, suc, zero, true, false, [], ◌∷◌, List, ⊎_elim, ◌∙◌, ap, ◌≡◌, sym, refl, subst, dec_le, eq-or-lt_of_le, arith, ℤ, pos, length, drop, length-drop}
use lib.Seq.{get_or-drop}
use Rattle.theory.proofs.Integers.{above, below}
use Rattle.format.proofs.Signed.{Upto, Under}
use Rattle.saved_lines.specs.Offsets.{at, distance, nearer, nearest}
use Rattle.saved_lines.specs.Rows.{looked, row_looked}
use Rattle.saved_lines.proofs.DistanceLaws.{distance_is, nearer_true, nearer_false, nearer_made, nearer_fails}
use Rattle.saved_lines.proofs.NearestLaws.{Ascending, Rising, nearest_is, nearest_position, nearest_least, nearest_first_law}

-- v < w: w is closer exactly where v + w is below twice the query, on natural numbers
module _ (q v w : ℤ) (h : Under v w) where
  twice_below : distance w q < distance v q → above v + above w + (below q + below q) < below v + below w + (above q + above q)
  twice_below t = omega (arith, distance_is v q, distance_is w q)

  below_twice : above v + above w + (below q + below q) < below v + below w + (above q + above q) → distance w q < distance v q
  below_twice t = omega (arith, distance_is v q, distance_is w q)

  twice_above : distance v q ≤ distance w q → below v + below w + (above q + above q) ≤ above v + above w + (below q + below q)
  twice_above t = omega (arith, distance_is v q, distance_is w q)

  above_twice : below v + below w + (above q + above q) ≤ above v + above w + (below q + below q) → distance v q ≤ distance w q
  above_twice t = omega (arith, distance_is v q, distance_is w q)

-- u < v < w
farther_before : (q u v w : ℤ) → Under u v → Under v w → distance w q < distance v q → distance w q < distance u q
farther_before q u v w a b t = let g = twice_below q v w b t in below_twice q u w (omega arith) (omega arith)

farther_after : (q u v w : ℤ) → Under u v → Under v w → distance u q ≤ distance v q → distance u q ≤ distance w q
farther_after q u v w a b t = let g = twice_above q u v a t in above_twice q u w (omega arith) (omega arith)

farther_later : (q p v w : ℤ) → Under v w → Upto q p → distance w q < distance v q → distance w p < distance v p
farther_later q p v w a u t = let g = twice_below q v w a t in below_twice p v w a (omega arith)

-- ---- the walk: each line before n is followed by a closer one
abbrev pub Closing : (q : ℤ) (vs : List ℤ) (n : ℕ) → Type 0
Closing q vs n = (k : ℕ) → k < n → nearer q (at vs (suc k)) (at vs k) ≡ true

module _ (q : ℤ) where
  -- it stops at n: the next line is not closer
  pub looked_stops : (vs : List ℤ) (n : ℕ) → suc n < length vs → Closing q vs n → nearer q (at vs (suc n)) (at vs n) ≡ false → looked q vs ≡ n + 2
  unfolding looked
  looked_stops [] n h c t = absurd (omega arith)
  looked_stops (v ∷ []) n h c t = absurd (omega arith)
  looked_stops (v ∷ w ∷ vs) zero h c t = rw t refl
  looked_stops (v ∷ w ∷ vs) (suc n) h c t =
      rw (c 0 (omega arith)) (ap suc (looked_stops (w ∷ vs) n (omega arith) (λ k l. c (suc k) (omega arith)) t) ∙ omega arith)

  -- it stops at the end
  pub looked_ends : (vs : List ℤ) (n : ℕ) → suc n ≡ length vs → Closing q vs n → looked q vs ≡ suc n
  unfolding looked
  looked_ends [] n h c = absurd (omega arith)
  looked_ends (v ∷ []) n h c = omega arith
  looked_ends (v ∷ w ∷ vs) zero h c = absurd (omega arith)
  looked_ends (v ∷ w ∷ vs) (suc n) h c =
      rw (c 0 (omega arith)) (ap suc (looked_ends (w ∷ vs) n (omega arith) (λ k l. c (suc k) (omega arith))))

  module _ (vs : List ℤ) (rise : Rising vs) (n : ℕ) (h : n < length vs) (c : Closing q vs n)
      (t : suc n < length vs → nearer q (at vs (suc n)) (at vs n) ≡ false) where
    -- a line before n is farther than that at n, since it is not above the one directly before n
    before : (k : ℕ) → k < n → distance (at vs n) q < distance (at vs k) q
    before k l = by n refl
      where
        upto : {m : ℕ} → suc m ≡ n → k ≤ m
        upto e = omega arith

        by : (m : ℕ) → m ≡ n → distance (at vs n) q < distance (at vs k) q
        by zero e = absurd (omega arith)
        by (suc m) e =
            let p = nearer_true q (at vs (suc m)) (at vs m) (c m (omega arith)) in
            ⊎_elim (λ g. rw (← e) (subst (λ (x : ℕ). distance (at vs (suc m)) q < distance (at vs x) q) (sym g) p))
            (λ g. rw (← e) (farther_before q (at vs k) (at vs m) (at vs (suc m)) (rise k m g (omega arith)) (rise m (suc m) (omega arith) (omega arith)) p))
            (eq-or-lt_of_le (upto e))

    after : (k : ℕ) → n < k → k < length vs → distance (at vs n) q ≤ distance (at vs k) q
    after k l m =
        let p = nearer_false q (at vs (suc n)) (at vs n) (t (omega arith)) in
        let a = rise n (suc n) (omega arith) (omega arith) in
        ⊎_elim (λ g. rw (← g) p) (λ g.
        farther_after q (at vs n) (at vs (suc n)) (at vs k) a (rise (suc n) k g m) p) (eq-or-lt_of_le (upto l))
      where
        upto : n < k → suc n ≤ k
        upto l = omega arith

    -- where it stops is the nearest line
    pub walk_nearest : nearest vs q ≡ n
    walk_nearest = nearest_is vs q n (record { position = h; least = λ k m. beside k m (dec_le n k) }) before
      where
        beside : (k : ℕ) → k < length vs → Dec (n ≤ k) → distance (at vs n) q ≤ distance (at vs k) q
        beside k m (yes g) = ⊎_elim (λ e. rw e (omega arith)) (λ l. after k l m) (eq-or-lt_of_le g)
        beside k m (no g) = omega (arith, before k (omega arith))

-- ---- the rest of the list: every line before n is farther than that at n
abbrev pub Left : (vs : List ℤ) (q : ℤ) (n : ℕ) → Type 0
Left vs q n = (k : ℕ) → k < n → distance (at vs n) q < distance (at vs k) q

drop_at : (vs : List ℤ) (n k : ℕ) → at (drop n vs) k ≡ at vs (n + k)
drop_at vs n k = get_or-drop n vs k (pos 0)

module _ (vs : List ℤ) (q : ℤ) (n : ℕ) (h : n < length vs) where
  tail_length : length (drop n vs) ≡ length vs - n
  tail_length = length-drop n vs

  tail_some : 1 ≤ length (drop n vs)
  tail_some = omega (arith, tail_length)

  -- the nearest line of the rest is the nearest of all
  pub nearest_ahead : Left vs q n → nearest vs q ≡ n + nearest (drop n vs) q
  nearest_ahead b = nearest_is vs q (n + m) (record { position = omega (arith, position, tail_length); least = λ k l. least k l (dec_le n k) }) (λ k l. first k l (dec_le n k))
    where
      m : ℕ
      m = nearest (drop n vs) q

      position : nearest (drop n vs) q < length (drop n vs)
      position = nearest_position (drop n vs) q tail_some

      back : (k : ℕ) → n ≤ k → at (drop n vs) (k - n) ≡ at vs k
      back k g = drop_at vs n (k - n) ∙ ap (at vs) (omega arith)

      here : at (drop n vs) 0 ≡ at vs n
      here = drop_at vs n 0 ∙ ap (at vs) (omega arith)

      least_tail : (k : ℕ) → k < length (drop n vs) → distance (at vs (n + m)) q ≤ distance (at (drop n vs) k) q
      least_tail k l = rw (← drop_at vs n m) (nearest_least (drop n vs) q tail_some k l)

      least : (k : ℕ) → k < length vs → Dec (n ≤ k) → distance (at vs (n + m)) q ≤ distance (at vs k) q
      least k l (yes g) = rw (← back k g) (least_tail (k - n) (omega (arith, tail_length)))
      least k l (no g) = omega (arith, b k (omega arith), rw here at (least_tail 0 tail_some))

      first : (k : ℕ) → k < n + m → Dec (n ≤ k) → distance (at vs (n + m)) q < distance (at vs k) q
      first k l (yes g) = rw (← back k g, ← drop_at vs n m) (nearest_first_law (drop n vs) q tail_some (k - n) (omega arith))
      first k l (no g) = omega (arith, b k (omega arith), rw here at (least_tail 0 tail_some))

module _ (vs : List ℤ) (rise : Rising vs) (h : 1 ≤ length vs) where
  -- the line just found leaves the lines before it behind, for all queries from there on
  pub left_behind : (q p : ℤ) → Upto q p → Left vs p (nearest vs q)
  left_behind q p u k l =
      farther_later q p (at vs k) (at vs (nearest vs q)) (rise k (nearest vs q) l (nearest_position vs q h)) u (nearest_first_law vs q h k l)

-- ---- the count
closer_between : (q u v w : ℤ) → Under u v → Under v w → distance w q < distance u q → distance v q < distance u q
closer_between q u v w a b t = let g = twice_below q u w (omega arith) t in below_twice q u v a (omega arith)

module _ (q : ℤ) (vs : List ℤ) (rise : Rising vs) (h : 1 ≤ length vs) where
  abbrev found : ℕ
  found = nearest vs q

  -- up to the nearest line each next one is closer, and the one after it is not
  found_closing : Closing q vs (nearest vs q)
  found_closing k l =
      nearer_made q (at vs (suc k)) (at vs k)
      (⊎_elim (λ e. rw e (nearest_first_law vs q h k l))
      (λ g. closer_between q (at vs k) (at vs (suc k)) (at vs found) (rise k (suc k) (omega arith) (omega (arith, nearest_position vs q h))) (rise (suc k) found g (nearest_position vs q h)) (nearest_first_law vs q h k l))
      (eq-or-lt_of_le (upto l)))
    where
      upto : k < nearest vs q → suc k ≤ nearest vs q
      upto l = omega arith

  found_stops : suc found < length vs → nearer q (at vs (suc found)) (at vs found) ≡ false
  found_stops l = nearer_fails q (at vs (suc found)) (at vs found) (nearest_least vs q h (suc found) l)

  -- at most two more than the lines gone ahead
  pub looked_most : looked q vs ≤ nearest vs q + 2
  looked_most =
      ⊎_elim (λ e. omega (arith, looked_ends q vs found e found_closing)) (λ l. omega (arith, looked_stops q vs found l found_closing (found_stops l)))
      (eq-or-lt_of_le (upto (nearest_position vs q h)))
    where
      upto : nearest vs q < length vs → suc (nearest vs q) ≤ length vs
      upto h = omega arith

module _ (vs : List ℤ) (rise : Rising vs) (h : 1 ≤ length vs) where
  rising_drop : (n : ℕ) → Rising (drop n vs)
  rising_drop n j k l m = rw (drop_at vs n j, drop_at vs n k) (rise (n + j) (n + k) (omega arith) (omega (arith, length-drop n vs)))

  -- the rest of a row, from the line at n on
  pub row_most : (qs : List ℤ) (n : ℕ) → n < length vs → Ascending qs → ((k : ℕ) → k < length qs → Left vs (at qs k) n)
      → row_looked vs n qs + n ≤ length vs + 2 * length qs
  unfolding row_looked
  row_most [] n p asc left = omega arith
  row_most (q ∷ qs) n p asc left =
      let e = nearest_ahead vs q n p (left 0 (omega arith)) in
      let m = looked_most q (drop n vs) (rising_drop n) (tail_some vs q n p) in
      let r = row_most qs (nearest vs q) (nearest_position vs q h) (λ j k a b. asc (suc j) (suc k) (omega arith) (omega arith))
      (λ k l. left_behind vs rise h q (at qs k) (asc 0 (suc k) (omega arith) (omega arith))) in
      omega (arith, e, m, r)
