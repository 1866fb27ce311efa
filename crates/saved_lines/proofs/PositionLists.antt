-- Lists of positions: those of the entries that pass a test, a range of them, and lists that are the same up to their order.
use Rattle.theory.proofs.Prelude.{ℕ, ◌≤◌, ◌<◌, ◌+◌, suc, zero, true, false, Bool, cond, [], ◌∷◌, List, ◌++◌, ◌≢◌, ◌∙◌, ap, ◌≡◌, sym, refl, subst, le_antisymm, add-zero, arith, length, get_or}
use Rattle.saved_lines.specs.Positions.{without}
use Rattle.saved_lines.specs.Positions.{positions_from, range, Among, Lists}

-- ---- ranges
pub range_length : (i n : ℕ) → length (range i n) ≡ n
unfolding range
range_length i zero = refl
range_length i (suc n) = ap suc (range_length (suc i) n)

-- one number more
pub range_more : (i n : ℕ) (xs : List ℕ) → range i (suc n) ++ xs ≡ range i n ++ ((i + n) ∷ xs)
unfolding range
range_more i zero xs = ap (λ (k : ℕ). k ∷ xs) (omega arith)
range_more i (suc n) xs = ap (λ (ys : List ℕ). i ∷ ys) (range_more (suc i) n xs ∙ ap (λ (k : ℕ). range (suc i) n ++ (k ∷ xs)) (omega arith))

-- ---- positions of the entries that pass
module _ {A : Type 0} (test : A → Bool) (d : A) where
  pub positions_none : (i : ℕ) (xs : List A) → ((k : ℕ) → k < length xs → test (get_or xs k d) ≡ false) → positions_from test i xs ≡ []
  unfolding positions_from
  positions_none i [] h = refl
  positions_none i (x ∷ xs) h = rw (h 0 (omega arith)) (positions_none (suc i) xs (λ k l. h (suc k) (omega arith)))

  -- n entries pass after `from` others, and no others do
  pub positions_range : (xs : List A) (i from n : ℕ) → from + n ≤ length xs → ((k : ℕ) → k < from → test (get_or xs k d) ≡ false)
      → ((k : ℕ) → from ≤ k → k < from + n → test (get_or xs k d) ≡ true)
      → ((k : ℕ) → from + n ≤ k → k < length xs → test (get_or xs k d) ≡ false)
      → positions_from test i xs ≡ range (i + from) n
  unfolding positions_from range
  positions_range [] i from n h low mid high = let e : n ≡ 0 = omega arith in rw e
  positions_range (x ∷ xs) i zero zero h low mid high = positions_none i (x ∷ xs) (λ k l. high k (omega arith) l)
  positions_range (x ∷ xs) i zero (suc n) h low mid high =
      rw (mid 0 (omega arith) (omega arith), add-zero)
      (ap (λ (ys : List ℕ). i ∷ ys)
      (positions_range xs (suc i) zero n (omega arith) (λ k l. absurd (omega arith)) (λ k l m. mid (suc k) (omega arith) (omega arith)) (λ k l m. high (suc k) (omega arith) (omega arith))
      ∙ ap (λ (j : ℕ). range j n) (omega arith)))
  positions_range (x ∷ xs) i (suc from) n h low mid high =
      rw (low 0 (omega arith))
      (positions_range xs (suc i) from n (omega arith) (λ k l. low (suc k) (omega arith)) (λ k l m. mid (suc k) (omega arith) (omega arith)) (λ k l m. high (suc k) (omega arith) (omega arith))
      ∙ ap (λ (j : ℕ). range j n) (omega arith))

  -- what the list of positions has: the positions of the entries that pass
  pub position_found : (xs : List A) (i n : ℕ) → n < length xs → test (get_or xs n d) ≡ true → Among (i + n) (positions_from test i xs)
  unfolding positions_from
  position_found [] i n h t = absurd (omega arith)
  position_found (x ∷ xs) i zero h t = rw t (record { place = 0; inside = omega arith; is = omega arith })
  position_found (x ∷ xs) i (suc n) h t = by (test x) (position_found xs (suc i) n (omega arith) t)
    where
      by : (s : Bool) → Among (suc i + n) (positions_from test (suc i) xs)
          → Among (i + suc n) (cond s (i ∷ positions_from test (suc i) xs) (positions_from test (suc i) xs))
      by true a = record { place = suc a.place; inside = omega (arith, a.inside); is = omega (arith, a.is) }
      by false a = record { place = a.place; inside = a.inside; is = omega (arith, a.is) }

  -- the k-th number of the list is such a position
  pub record Passing (xs : List A) (i m : ℕ) : Type 0 where
    pub place : ℕ
    pub inside : place < length xs
    pub is : m ≡ i + place
    pub passes : test (get_or xs place d) ≡ true

  pub found_position : (xs : List A) (i k : ℕ) → k < length (positions_from test i xs) → Passing xs i (get_or (positions_from test i xs) k 0)
  unfolding positions_from
  found_position [] i k h = absurd (omega arith)
  found_position (x ∷ xs) i k h = by (test x) refl (found_position xs (suc i)) k h
    where
      later : {m : ℕ} → Passing xs (suc i) m → Passing (x ∷ xs) i m
      later p = record { place = suc p.place; inside = omega (arith, p.inside); is = omega (arith, p.is); passes = p.passes }

      by : (s : Bool) → test x ≡ s → ((k : ℕ) → k < length (positions_from test (suc i) xs) → Passing xs (suc i) (get_or (positions_from test (suc i) xs) k 0))
          → (k : ℕ) → k < length (cond s (i ∷ positions_from test (suc i) xs) (positions_from test (suc i) xs))
          → Passing (x ∷ xs) i (get_or (cond s (i ∷ positions_from test (suc i) xs) (positions_from test (suc i) xs)) k 0)
      by true e r zero h = record { place = 0; inside = omega arith; is = omega arith; passes = e }
      by true e r (suc k) h = later (r k (omega arith))
      by false e r k h = later (r k h)

-- ---- lists up to their order
-- the numbers rise
abbrev pub Rises : List ℕ → Type 0
Rises xs = (j k : ℕ) → j < k → k < length xs → get_or xs j 0 < get_or xs k 0

pub lists_itself : (xs : List ℕ) → Rises xs → Lists xs xs
lists_itself xs h = record { all = λ n a. a; only = λ n a. a; once = λ j k l m e. omega (arith, h j k l m) }

pub range_at : (i n k : ℕ) → k < n → get_or (range i n) k 0 ≡ i + k
unfolding range
range_at i zero k h = absurd (omega arith)
range_at i (suc n) zero h = omega arith
range_at i (suc n) (suc k) h = range_at (suc i) n k (omega arith) ∙ omega arith

-- the entries are determined up to their order
pub lists_determined : {found a b : List ℕ} → Lists found a → Lists found b → Lists a b
lists_determined f g = record { all = λ n x. g.all n (f.only n x); only = λ n x. f.all n (g.only n x); once = g.once }

-- ---- and so is how many there are
-- no number twice
abbrev pub Once : List ℕ → Type 0
Once xs = (j k : ℕ) → j < k → k < length xs → get_or xs j 0 ≡ get_or xs k 0 → ⊥

pub without_length : (p : ℕ) (xs : List ℕ) → p < length xs → length xs ≡ suc (length (without p xs))
unfolding without
without_length p [] h = absurd (omega arith)
without_length zero (x ∷ xs) h = refl
without_length (suc p) (x ∷ xs) h = ap suc (without_length p xs (omega arith))

-- what stands at another place stays
pub stays : (p r : ℕ) (xs : List ℕ) → r < length xs → p ≢ r → Among (get_or xs r 0) (without p xs)
unfolding without
stays p r [] h n = absurd (omega arith)
stays zero zero (x ∷ xs) h n = absurd (n refl)
stays zero (suc r) (x ∷ xs) h n = record { place = r; inside = omega arith; is = refl }
stays (suc p) zero (x ∷ xs) h n = record { place = 0; inside = omega arith; is = refl }
stays (suc p) (suc r) (x ∷ xs) h n =
    let a = stays p r xs (omega arith) (λ e. n (ap suc e)) in
    record { place = suc a.place; inside = omega (arith, a.inside); is = a.is }

fits_among : (a b : List ℕ) → Once a → ((n : ℕ) → Among n a → Among n b) → length a ≤ length b
fits_among [] b o f = omega arith
fits_among (x ∷ a) b o f =
    let p = f x (record { place = 0; inside = omega arith; is = refl }) in
    omega (arith, without_length p.place b p.inside, fits_among a (without p.place b) (λ j k l m. o (suc j) (suc k) (omega arith) (omega arith)) (rest p))
  where
    rest : (p : Among x b) (n : ℕ) → Among n a → Among n (without p.place b)
    rest p n m =
        let r = f n (record { place = suc m.place; inside = omega (arith, m.inside); is = m.is }) in
        subst (λ (i : ℕ). Among i (without p.place b)) r.is
        (stays p.place r.place b r.inside
        (λ e. o 0 (suc m.place) (omega arith) (omega (arith, m.inside)) (sym p.is ∙ ap (λ (i : ℕ). get_or b i 0) e ∙ r.is ∙ sym m.is)))

-- two lists of what was found are equally long
pub lists_length : {found a b : List ℕ} → Lists found a → Lists found b → length a ≡ length b
lists_length {found} {a} {b} f g =
    le_antisymm (fits_among a b f.once (λ n x. g.all n (f.only n x))) (fits_among b a g.once (λ n x. f.all n (g.only n x)))
