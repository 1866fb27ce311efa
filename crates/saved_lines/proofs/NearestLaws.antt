-- The nearest line in the words of requests 2 and 7: it is a position of the list, no line is nearer, at equal distance the smaller
-- offset wins, and at most one other line is as near.
use Rattle.theory.proofs.Prelude.{ℕ, ◌≤◌, ◌<◌, ◌+◌, ◌-◌, suc, zero, true, false, Bool, not, [], ◌∷◌, List, ⊎_elim, ◌≢◌, ◌∙◌, ap, ◌≡◌, sym, refl, dec_le, eq-or-lt_of_le, arith, ℤ, pos, length, ◌<ℤ◌}
use Rattle.theory.proofs.Integers.{above, below, parts_lt, lt_parts, parts_eq}
use Rattle.theory.proofs.Lists.{first_is, first_before, first_passes, first_position, none_at, none_made, neighbours_made, neighbours_fail}
use Rattle.theory.proofs.Tests.{never, and_made}
use Rattle.format.proofs.Signed.{Upto, Under, lt_false, make_lt, make_ge}
use Rattle.saved_lines.specs.Offsets.{at, distance, nearer, is_nearest, nearest, falls, descends, equals, repeats}
use Rattle.saved_lines.proofs.DistanceLaws.{distance_is, nearer_false, nearer_fails}

-- ---- no offset is nearer to q than that at n
pub record Least (vs : List ℤ) (q : ℤ) (n : ℕ) : Type 0 where
  pub position : n < length vs
  pub least : (k : ℕ) → k < length vs → distance (at vs n) q ≤ distance (at vs k) q

record Some (vs : List ℤ) (q : ℤ) : Type 0 where
  place : ℕ
  is_least : Least vs q place

some : (v : ℤ) (vs : List ℤ) (q : ℤ) → Some (v ∷ vs) q
some v [] q =
    record {
      place = 0;
      is_least = record { position = omega arith; least = alone };
    }
  where
    alone : (k : ℕ) → k < 1 → distance v q ≤ distance (at (v ∷ []) k) q
    alone zero l = omega arith
    alone (suc k) l = absurd (omega arith)
some v (w ∷ vs) q = by (some w vs q)
  where
    by : Some (w ∷ vs) q → Some (v ∷ w ∷ vs) q
    by r = pick (dec_le (distance v q) (distance (at (w ∷ vs) r.place) q))
      where
        pick : Dec (distance v q ≤ distance (at (w ∷ vs) r.place) q) → Some (v ∷ w ∷ vs) q
        pick (yes l) = record { place = 0; is_least = record { position = omega arith; least = here } }
          where
            here : (k : ℕ) → k < suc (length (w ∷ vs)) → distance v q ≤ distance (at (v ∷ w ∷ vs) k) q
            here zero m = omega arith
            here (suc k) m = omega (arith, r.is_least.least k (omega arith))
        pick (no l) =
            record { place = suc r.place; is_least = record { position = omega (arith, r.is_least.position); least = there } }
          where
            there : (k : ℕ) → k < suc (length (w ∷ vs)) → distance (at (w ∷ vs) r.place) q ≤ distance (at (v ∷ w ∷ vs) k) q
            there zero m = omega arith
            there (suc k) m = r.is_least.least k (omega arith)

module _ (vs : List ℤ) (q : ℤ) where
  least_passes : {n : ℕ} → Least vs q n → is_nearest vs q (at vs n) ≡ true
  unfolding is_nearest
  least_passes {n} h = none_made (λ (w : ℤ). nearer q w (at vs n)) (pos 0) vs (λ k l. nearer_fails q (at vs k) (at vs n) (h.least k l))

  passed_least : (n k : ℕ) → is_nearest vs q (at vs n) ≡ true → k < length vs → distance (at vs n) q ≤ distance (at vs k) q
  unfolding is_nearest
  passed_least n k h l = nearer_false q (at vs k) (at vs n) (none_at (λ (w : ℤ). nearer q w (at vs n)) (pos 0) vs h k l)

  module _ (h : 1 ≤ length vs) where
    -- it is a position of the list
    pub nearest_position : nearest vs q < length vs
    unfolding nearest
    nearest_position = by vs h refl
      where
        by : (us : List ℤ) → 1 ≤ length us → us ≡ vs → nearest vs q < length vs
        by [] l e = absurd (omega arith)
        by (u ∷ us) l e = found (rw e at (some u us q))
          where
            found : Some vs q → nearest vs q < length vs
            found r = first_position (is_nearest vs q) (pos 0) vs r.place r.is_least.position (least_passes r.is_least)

    -- no line is nearer
    pub nearest_least : (k : ℕ) → k < length vs → distance (at vs (nearest vs q)) q ≤ distance (at vs k) q
    unfolding nearest
    nearest_least k l = passed_least (nearest vs q) k (first_passes (is_nearest vs q) (pos 0) vs nearest_position) l

    -- every line before it is farther
    pub nearest_first_law : (k : ℕ) → k < nearest vs q → distance (at vs (nearest vs q)) q < distance (at vs k) q
    unfolding nearest
    nearest_first_law k l = by (dec_le (distance (at vs k) q) (distance (at vs (nearest vs q)) q))
      where
        fails : is_nearest vs q (at vs k) ≡ false
        fails = first_before (is_nearest vs q) (pos 0) vs k l

        by : Dec (distance (at vs k) q ≤ distance (at vs (nearest vs q)) q) → distance (at vs (nearest vs q)) q < distance (at vs k) q
        by (yes m) =
            absurd (never (sym (least_passes {n = k} (record { position = omega (arith, nearest_position); least = λ i b. omega (arith, nearest_least i b) })) ∙ fails))
        by (no m) = omega arith

  -- and these say which it is
  pub nearest_is : (n : ℕ) → Least vs q n → ((k : ℕ) → k < n → distance (at vs n) q < distance (at vs k) q) → nearest vs q ≡ n
  unfolding nearest
  nearest_is n h b = first_is (is_nearest vs q) (pos 0) vs n h.position (least_passes h) farther
    where
      farther : (k : ℕ) → k < n → is_nearest vs q (at vs k) ≡ false
      farther k l = by (is_nearest vs q (at vs k)) refl
        where
          by : (t : Bool) → is_nearest vs q (at vs k) ≡ t → t ≡ false
          by true e = absurd (omega (arith, b k l, passed_least k n e h.position))
          by false e = refl

-- ---- lists that ascend
abbrev pub Ascending : List ℤ → Type 0
Ascending vs = (j k : ℕ) → j ≤ k → k < length vs → Upto (at vs j) (at vs k)

-- ---- and those that rise strictly
abbrev pub Rising : List ℤ → Type 0
Rising vs = (j k : ℕ) → j < k → k < length vs → Under (at vs j) (at vs k)

module _ (vs : List ℤ) where
  -- 13 exactly where some offset is above the next
  pub descends_made : (k : ℕ) → suc k < length vs → at vs (suc k) <ℤ at vs k → descends vs ≡ true
  unfolding descends falls
  descends_made k h l = neighbours_made falls (pos 0) vs k h (make_lt (at vs (suc k)) (at vs k) (lt_parts l))

  rises : descends vs ≡ false → (k : ℕ) → suc k < length vs → Upto (at vs k) (at vs (suc k))
  unfolding descends falls
  rises h k l = lt_false (at vs (suc k)) (at vs k) (neighbours_fail falls (pos 0) vs h k l)

  pub ascends : descends vs ≡ false → Ascending vs
  ascends h j zero l m = rw (zeros l) (omega arith)
    where
      zeros : j ≤ 0 → j ≡ 0
      zeros l = omega arith
  ascends h j (suc k) l m = ⊎_elim (λ e. rw e (omega arith)) (λ b. omega (arith, ascends h j k (omega arith) (omega arith), rises h k m)) (eq-or-lt_of_le l)

  -- 15 exactly where some offset equals the next
  pub repeats_made : (k : ℕ) → suc k < length vs → at vs k ≡ at vs (suc k) → repeats vs ≡ true
  unfolding repeats equals
  repeats_made k h e =
      neighbours_made equals (pos 0) vs k h
      (and_made (ap not (make_ge (at vs k) (at vs (suc k)) (rw e (omega arith)))) (ap not (make_ge (at vs (suc k)) (at vs k) (rw e (omega arith)))))

  not_equal : repeats vs ≡ false → (k : ℕ) → suc k < length vs → at vs k ≡ at vs (suc k) → ⊥
  not_equal h k l e = never (sym (repeats_made k l e) ∙ h)

  -- 13 and 15 passed: the offsets rise strictly
  pub rises_strictly : descends vs ≡ false → repeats vs ≡ false → Rising vs
  rises_strictly d r j zero l m = absurd (omega arith)
  rises_strictly d r j (suc k) l m = ⊎_elim last (λ b. before (rises_strictly d r j k b (omega arith))) (eq-or-lt_of_le (upto l))
    where
      upto : j < suc k → j ≤ k
      upto l = omega arith

      step : Under (at vs k) (at vs (suc k))
      step = by (dec_le (above (at vs (suc k)) + below (at vs k)) (above (at vs k) + below (at vs (suc k))))
        where
          by : Dec (above (at vs (suc k)) + below (at vs k) ≤ above (at vs k) + below (at vs (suc k))) → Under (at vs k) (at vs (suc k))
          by (yes g) = absurd (not_equal r k m (parts_eq (at vs k) (at vs (suc k)) (omega (arith, rises d k m))))
          by (no g) = omega arith

      last : j ≡ k → Under (at vs j) (at vs (suc k))
      last e = rw e step

      before : Under (at vs j) (at vs k) → Under (at vs j) (at vs (suc k))
      before b = omega (arith, step)

  pub rising_upto : Rising vs → Ascending vs
  rising_upto h j k l m = ⊎_elim (λ e. rw e (omega arith)) (λ b. omega (arith, h j k b m)) (eq-or-lt_of_le l)

  -- at equal distance the smaller offset wins
  pub smaller_wins : (q : ℤ) → Rising vs → (k : ℕ) → k < length vs → k ≢ nearest vs q → distance (at vs k) q ≡ distance (at vs (nearest vs q)) q
      → at vs (nearest vs q) <ℤ at vs k
  smaller_wins q h k l n e = by (dec_le k (nearest vs q))
    where
      by : Dec (k ≤ nearest vs q) → at vs (nearest vs q) <ℤ at vs k
      by (yes m) = absurd (⊎_elim n (λ b. omega (arith, nearest_first_law vs q (omega arith) k b)) (eq-or-lt_of_le m))
      by (no m) = parts_lt _ _ (h (nearest vs q) k (omega arith) l)

  -- at most one other line is as near
  pub one_tie : (q : ℤ) → Rising vs → (j k : ℕ) → j < k → k < length vs → j ≢ nearest vs q → k ≢ nearest vs q
      → distance (at vs j) q ≡ distance (at vs (nearest vs q)) q → distance (at vs k) q ≡ distance (at vs (nearest vs q)) q → ⊥
  one_tie q h j k l m u w e f =
      omega (
        arith,
        distance_is (at vs j) q,
        distance_is (at vs k) q,
        distance_is (at vs (nearest vs q)) q,
        lt_parts (smaller_wins q h j (omega arith) u e),
        h j k l m,
        e,
        f,
      )

-- ---- which of the two lines beside the query is nearest
module _ (vs : List ℤ) (q : ℤ) (asc : Rising vs) (j : ℕ) (low : (k : ℕ) → k < j → Under (at vs k) q)
    (high : (k : ℕ) → j ≤ k → k < length vs → Upto q (at vs k)) where
  -- the offset at j, if there is one, is not nearer than the one before
  pub left_nearest : 0 < j → j ≤ length vs → (j < length vs → distance (at vs (j - 1)) q ≤ distance (at vs j) q) → nearest vs q ≡ j - 1
  left_nearest p m t =
      nearest_is vs q (j - 1)
      (record { position = omega arith; least = λ k h. beside k h (dec_le j k) })
      (λ k h. omega (arith, distance_is (at vs (j - 1)) q, distance_is (at vs k) q, asc k (j - 1) h (omega arith), low (j - 1) (omega arith)))
    where
      beside : (k : ℕ) → k < length vs → Dec (j ≤ k) → distance (at vs (j - 1)) q ≤ distance (at vs k) q
      beside k h (yes g) =
          omega (arith, t (omega arith), distance_is (at vs j) q, distance_is (at vs k) q, high j (omega arith) (omega arith), rising_upto vs asc j k g h)
      beside k h (no g) =
          omega (arith, distance_is (at vs (j - 1)) q, distance_is (at vs k) q, low (j - 1) (omega arith), rising_upto vs asc k (j - 1) (omega arith) (omega arith))

  -- the offset before j, if there is one, is farther
  pub right_nearest : j < length vs → (0 < j → distance (at vs j) q < distance (at vs (j - 1)) q) → nearest vs q ≡ j
  right_nearest m t =
      nearest_is vs q j (record { position = m; least = λ k h. beside k h (dec_le j k) }) before
    where
      before : (k : ℕ) → k < j → distance (at vs j) q < distance (at vs k) q
      before k h =
          omega (arith, t (omega arith), distance_is (at vs (j - 1)) q, distance_is (at vs k) q, low (j - 1) (omega arith), rising_upto vs asc k (j - 1) (omega arith) (omega arith))

      beside : (k : ℕ) → k < length vs → Dec (j ≤ k) → distance (at vs j) q ≤ distance (at vs k) q
      beside k h (yes g) = omega (arith, distance_is (at vs j) q, distance_is (at vs k) q, high j (omega arith) m, rising_upto vs asc j k g h)
      beside k h (no g) = omega (arith, before k (omega arith))
