-- Laws of a list and a test, for every test.
use Rattle.theory.proofs.Prelude.{ℕ, ◌≤◌, ◌<◌, ◌+◌, ◌-◌, suc, zero, true, false, Bool, cond, [], ◌∷◌, List, ⊎_elim, ◌∙◌, ap, ◌≡◌, sym, refl, subst, dec_le, eq-or-lt_of_le, arith, length, get_or, le-leb, leb-true}
use Rattle.theory.specs.Tests.{◌or◌}
use Rattle.theory.proofs.Tests.{never, and_left, and_right, and_made}
use Rattle.theory.specs.Lists.{all, first_where, none, some_neighbours, numbers}

module _ {A : Type 0} (test : A → Bool) (d : A) where
  -- the position that passes, where none before it does
  pub first_is : (xs : List A) (n : ℕ) → n < length xs → test (get_or xs n d) ≡ true → ((k : ℕ) → k < n → test (get_or xs k d) ≡ false)
      → first_where test xs ≡ n
  unfolding first_where
  first_is [] n h t b = absurd (omega arith)
  first_is (x ∷ xs) zero h t b = rw t
  first_is (x ∷ xs) (suc n) h t b =
      rw (b 0 (omega arith)) (ap suc (first_is xs n (omega arith) t (λ k l. b (suc k) (omega arith))))

  pub first_none : (xs : List A) → ((k : ℕ) → k < length xs → test (get_or xs k d) ≡ false) → first_where test xs ≡ length xs
  unfolding first_where
  first_none [] b = refl
  first_none (x ∷ xs) b = rw (b 0 (omega arith)) (ap suc (first_none xs (λ k l. b (suc k) (omega arith))))

  pub first_before : (xs : List A) (k : ℕ) → k < first_where test xs → test (get_or xs k d) ≡ false
  unfolding first_where
  first_before [] k h = absurd (omega arith)
  first_before (x ∷ xs) k h = by (test x) refl (first_before xs) k h
    where
      by : (t : Bool) → test x ≡ t → ((k : ℕ) → k < first_where test xs → test (get_or xs k d) ≡ false) → (k : ℕ)
          → k < cond t 0 (suc (first_where test xs)) → test (get_or (x ∷ xs) k d) ≡ false
      by true e b k h = absurd (omega arith)
      by false e b zero h = e
      by false e b (suc k) h = b k (omega arith)

  pub first_passes : (xs : List A) → first_where test xs < length xs → test (get_or xs (first_where test xs) d) ≡ true
  unfolding first_where
  first_passes [] h = absurd (omega arith)
  first_passes (x ∷ xs) h = by (test x) refl (first_passes xs) h
    where
      by : (t : Bool) → test x ≡ t → (first_where test xs < length xs → test (get_or xs (first_where test xs) d) ≡ true)
          → cond t 0 (suc (first_where test xs)) < length (x ∷ xs) → test (get_or (x ∷ xs) (cond t 0 (suc (first_where test xs))) d) ≡ true
      by true e p h = e
      by false e p h = p (omega arith)

  pub first_most : (xs : List A) → first_where test xs ≤ length xs
  unfolding first_where
  first_most [] = omega arith
  first_most (x ∷ xs) = by (test x) (first_most xs)
    where
      by : (t : Bool) → first_where test xs ≤ length xs → cond t 0 (suc (first_where test xs)) ≤ length (x ∷ xs)
      by true l = omega arith
      by false l = omega arith

  -- where some entry passes, the first is a position
  pub first_position : (xs : List A) (n : ℕ) → n < length xs → test (get_or xs n d) ≡ true → first_where test xs < length xs
  first_position xs n h t = by (dec_le (length xs) (first_where test xs))
    where
      by : Dec (length xs ≤ first_where test xs) → first_where test xs < length xs
      by (yes l) = absurd (never (sym t ∙ first_before xs n (omega arith)))
      by (no l) = omega arith

  -- ---- all entries
  pub all_at : (xs : List A) → all test xs ≡ true → (k : ℕ) → k < length xs → test (get_or xs k d) ≡ true
  unfolding all
  all_at [] h k l = absurd (omega arith)
  all_at (x ∷ xs) h zero l = and_left (test x) (all test xs) h
  all_at (x ∷ xs) h (suc k) l = all_at xs (and_right (test x) (all test xs) h) k (omega arith)

  pub all_made : (xs : List A) → ((k : ℕ) → k < length xs → test (get_or xs k d) ≡ true) → all test xs ≡ true
  unfolding all
  all_made [] h = refl
  all_made (x ∷ xs) h = and_made (h 0 (omega arith)) (all_made xs (λ k l. h (suc k) (omega arith)))

  -- an entry that fails
  pub all_fails : (xs : List A) (k : ℕ) → k < length xs → test (get_or xs k d) ≡ false → all test xs ≡ false
  all_fails xs k l e = by (all test xs) refl
    where
      by : (t : Bool) → all test xs ≡ t → t ≡ false
      by true g = absurd (never (sym (all_at xs g k l) ∙ e))
      by false g = refl

  -- ---- no entry
  pub none_at : (xs : List A) → none test xs ≡ true → (k : ℕ) → k < length xs → test (get_or xs k d) ≡ false
  unfolding none
  none_at xs h k l = first_before xs k (omega (arith, leb-true (length xs) (first_where test xs) h))

  pub none_made : (xs : List A) → ((k : ℕ) → k < length xs → test (get_or xs k d) ≡ false) → none test xs ≡ true
  unfolding none
  none_made xs b = le-leb (length xs) (first_where test xs) (omega (arith, first_none xs b))

-- ---- neighbours
module _ {A : Type 0} (test : A → A → Bool) (d : A) where
  pub neighbours_made : (xs : List A) (k : ℕ) → suc k < length xs → test (get_or xs k d) (get_or xs (suc k) d) ≡ true → some_neighbours test xs ≡ true
  unfolding some_neighbours ◌or◌
  neighbours_made [] k h t = absurd (omega arith)
  neighbours_made (x ∷ []) k h t = absurd (omega arith)
  neighbours_made (x ∷ y ∷ xs) zero h t = rw (t, ◌or◌)
  neighbours_made (x ∷ y ∷ xs) (suc k) h t = by (test x y) (neighbours_made (y ∷ xs) k (omega arith) t)
    where
      by : (s : Bool) {r : Bool} → r ≡ true → s or r ≡ true
      by true e = refl
      by false e = e

  -- an entry that passes with the next
  pub record Neighbours (xs : List A) : Type 0 where
    pub place : ℕ
    pub inside : suc place < length xs
    pub passes : test (get_or xs place d) (get_or xs (suc place) d) ≡ true

  pub some_neighbours_law : (xs : List A) → some_neighbours test xs ≡ true → Neighbours xs
  unfolding some_neighbours ◌or◌
  some_neighbours_law [] h = absurd (never (sym h))
  some_neighbours_law (x ∷ []) h = absurd (never (sym h))
  some_neighbours_law (x ∷ y ∷ xs) h = by (test x y) refl h (some_neighbours_law (y ∷ xs))
    where
      by : (t : Bool) → test x y ≡ t → t or some_neighbours test (y ∷ xs) ≡ true → (some_neighbours test (y ∷ xs) ≡ true → Neighbours (y ∷ xs)) → Neighbours (x ∷ y ∷ xs)
      by true e h r = record { place = 0; inside = omega arith; passes = e }
      by false e h r = let n = r h in record { place = suc n.place; inside = omega (arith, n.inside); passes = n.passes }

  pub neighbours_fail : (xs : List A) → some_neighbours test xs ≡ false → (k : ℕ) → suc k < length xs → test (get_or xs k d) (get_or xs (suc k) d) ≡ false
  neighbours_fail xs h k l = by (test (get_or xs k d) (get_or xs (suc k) d)) refl
    where
      by : (t : Bool) → test (get_or xs k d) (get_or xs (suc k) d) ≡ t → t ≡ false
      by true e = absurd (never (sym (neighbours_made xs k l e) ∙ h))
      by false e = refl

  pub no_neighbours : (xs : List A) → ((k : ℕ) → suc k < length xs → test (get_or xs k d) (get_or xs (suc k) d) ≡ false) → some_neighbours test xs ≡ false
  unfolding some_neighbours ◌or◌
  no_neighbours [] b = refl
  no_neighbours (x ∷ []) b = refl
  no_neighbours (x ∷ y ∷ xs) b = rw (b 0 (omega arith), ◌or◌) (no_neighbours (y ∷ xs) (λ k l. b (suc k) (omega arith)))

-- ---- for loops
module _ {A : Type 0} (test : A → Bool) (d : A) where
  -- all fail before n, and all pass from n on
  pub first_between : (xs : List A) (n : ℕ) → n ≤ length xs → ((k : ℕ) → k < n → test (get_or xs k d) ≡ false)
      → ((k : ℕ) → n ≤ k → k < length xs → test (get_or xs k d) ≡ true) → first_where test xs ≡ n
  first_between xs n h low high = ⊎_elim ended inside (eq-or-lt_of_le h)
    where
      ended : n ≡ length xs → first_where test xs ≡ n
      ended e = first_none test d xs (λ k l. low k (omega arith)) ∙ sym e

      inside : n < length xs → first_where test xs ≡ n
      inside l = first_is test d xs n l (high n (omega arith) l) low

-- one more pair of neighbours
pub neighbours_more : {P : ℕ → Type 0} (i : ℕ) → 1 ≤ i → ((k : ℕ) → suc k < i → P k) → P (i - 1) → (k : ℕ) → suc k < i + 1 → P k
neighbours_more {P} i h before here k l = ⊎_elim (λ e. subst P (last e) here) (λ m. before k m) (eq-or-lt_of_le (upto l))
  where
    upto : suc k < i + 1 → suc k ≤ i
    upto l = omega arith

    last : suc k ≡ i → i - 1 ≡ k
    last e = omega arith

-- ---- a test that is computed at every number below n says the same of each
numbers_length : (i n : ℕ) → length (numbers i n) ≡ n
numbers_length i zero = refl
numbers_length i (suc n) = ap suc (numbers_length (suc i) n)

numbers_at : (i n k : ℕ) → k < n → get_or (numbers i n) k 0 ≡ i + k
numbers_at i zero k h = absurd (omega arith)
numbers_at i (suc n) zero h = omega arith
numbers_at i (suc n) (suc k) h = let later = numbers_at (suc i) n k (omega arith) in omega arith

pub at_number : (test : ℕ → Bool) (n : ℕ) → all test (numbers 0 n) ≡ true → (k : ℕ) → k < n → test k ≡ true
at_number test n e k h =
    let place : get_or (numbers 0 n) k 0 ≡ k = omega (arith, numbers_at 0 n k h) in
    subst (λ (i : ℕ). test i ≡ true) place (all_at test 0 (numbers 0 n) e k (omega (arith, numbers_length 0 n)))
