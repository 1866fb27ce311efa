-- The order of request 8: the definition's list has what was found, each entry is nearer than the next or as near with the smaller
-- offset, and the first is the line of request 2.
use Rattle.theory.proofs.Prelude.{ℕ, ◌≤◌, ◌<◌, ◌+◌, suc, zero, true, false, Bool, cond, [], ◌∷◌, List, map, ⊎_elim, inl, inr, ◌⊎◌, ◌≢◌, ◌∙◌, ap, ◌≡◌, sym, refl, subst, dec_le, eq-or-lt_of_le, arith, ℤ, pos, length, get_or, ◌<ℤ◌}
use Rattle.theory.proofs.Integers.{parts_lt, lt_parts}
use Rattle.binary32.specs.Patterns.{pattern_value, pattern_values}
use Rattle.binary32.proofs.PatternValues.{values_length}
use Rattle.saved_lines.specs.Positions.{positions_from, positions_where, without, Among, Lists}
use Rattle.saved_lines.specs.Offsets.{at, distance, nearest, is_within, nearest_place, nearest_ones, nearest_first}
use Rattle.saved_lines.specs.Lines.{Checked, lines_found, lines_in_order}
use Rattle.saved_lines.proofs.NearestLaws.{Rising, rising_upto, nearest_position, nearest_least, nearest_first_law}
use Rattle.saved_lines.proofs.Offsets.{offsets_rise}
use Rattle.saved_lines.proofs.PositionLists.{Rises, without_length, stays, Once, lists_itself, lists_determined, lists_length, position_found, found_position}
use Rattle.saved_lines.proofs.Walks.{map_at, map_length, nearest_then}

-- ---- a list without one of its entries
without_low : (p : ℕ) (xs : List ℕ) (k : ℕ) → k < p → get_or (without p xs) k 0 ≡ get_or xs k 0
unfolding without
without_low p [] k h = refl
without_low zero (x ∷ xs) k h = absurd (omega arith)
without_low (suc p) (x ∷ xs) zero h = refl
without_low (suc p) (x ∷ xs) (suc k) h = without_low p xs k (omega arith)

without_high : (p : ℕ) (xs : List ℕ) (k : ℕ) → p ≤ k → get_or (without p xs) k 0 ≡ get_or xs (suc k) 0
unfolding without
without_high p [] k h = refl
without_high zero (x ∷ xs) k h = refl
without_high (suc p) (x ∷ xs) zero h = absurd (omega arith)
without_high (suc p) (x ∷ xs) (suc k) h = without_high p xs k (omega arith)

module _ (p : ℕ) (xs : List ℕ) (h : p < length xs) where
  -- an entry that stayed stands elsewhere in the list
  record Elsewhere (n : ℕ) : Type 0 where
    place : ℕ
    inside : place < length xs
    other : place ≢ p
    is : get_or xs place 0 ≡ n

  elsewhere : (k : ℕ) → k < length (without p xs) → Elsewhere (get_or (without p xs) k 0)
  elsewhere k m = by (dec_le p k)
    where
      by : Dec (p ≤ k) → Elsewhere (get_or (without p xs) k 0)
      by (yes l) = record { place = suc k; inside = omega (arith, without_length p xs h); other = λ e. omega arith; is = sym (without_high p xs k l) }
      by (no l) = record { place = k; inside = omega (arith, without_length p xs h); other = λ e. omega arith; is = sym (without_low p xs k (omega arith)) }

  among_elsewhere : {n : ℕ} → Among n (without p xs) → Elsewhere n
  among_elsewhere a = subst Elsewhere a.is (elsewhere a.place a.inside)

  without_rises : Rises xs → Rises (without p xs)
  without_rises r j k l m = by (dec_le p j) (dec_le p k)
    where
      by : Dec (p ≤ j) → Dec (p ≤ k) → get_or (without p xs) j 0 < get_or (without p xs) k 0
      by (yes a) (yes b) = omega (arith, without_high p xs j a, without_high p xs k b, r (suc j) (suc k) (omega arith) (omega (arith, without_length p xs h)))
      by (yes a) (no b) = absurd (omega arith)
      by (no a) (yes b) = omega (arith, without_low p xs j (omega arith), without_high p xs k b, r j (suc k) (omega arith) (omega (arith, without_length p xs h)))
      by (no a) (no b) = omega (arith, without_low p xs j (omega arith), without_low p xs k (omega arith), r j k l (omega (arith, without_length p xs h)))

  without_most : {bound : ℕ} → ((k : ℕ) → k < length xs → get_or xs k 0 < bound) → (k : ℕ) → k < length (without p xs) → get_or (without p xs) k 0 < bound
  without_most b k m = let e = elsewhere k m in omega (arith, e.is, b e.place e.inside)

-- ---- the positions found rise
module _ {A : Type 0} (test : A → Bool) (d : A) where
  positions_rise : (i : ℕ) (xs : List A) → Rises (positions_from test i xs)
  unfolding positions_from
  positions_rise i [] j k l m = absurd (omega arith)
  positions_rise i (x ∷ xs) j k l m = by (test x) (positions_rise (suc i) xs) j k l m
    where
      by : (s : Bool) → Rises (positions_from test (suc i) xs) → Rises (cond s (i ∷ positions_from test (suc i) xs) (positions_from test (suc i) xs))
      by true r j zero l m = absurd (omega arith)
      by true r zero (suc k) l m = omega (arith, (found_position test d xs (suc i) k (omega arith)).is)
      by true r (suc j) (suc k) l m = r j k (omega arith) (omega arith)
      by false r j k l m = r j k l m

  positions_most : (xs : List A) (k : ℕ) → k < length (positions_where test xs) → get_or (positions_where test xs) k 0 < length xs
  positions_most xs k h = let p = found_position test d xs 0 k h in omega (arith, p.is, p.inside)

-- ---- one position more at the front
module _ (p : ℕ) (ps : List ℕ) (h : p < length ps) (r : Rises ps) {others : List ℕ} (f : Lists (without p ps) others) where
  abbrev whole : List ℕ
  whole = get_or ps p 0 ∷ others

  later : {n : ℕ} → Among n others → Among n whole
  later a = record { place = suc a.place; inside = omega (arith, a.inside); is = a.is }

  back : {n : ℕ} → Elsewhere p ps h n → Among n ps
  back e = record { place = e.place; inside = e.inside; is = e.is }

  all_there : (n : ℕ) → Among n ps → Among n whole
  all_there n a = by (dec_le p a.place) (dec_le a.place p)
    where
      by : Dec (p ≤ a.place) → Dec (a.place ≤ p) → Among n whole
      by (yes x) (yes y) =
          let e : p ≡ a.place = omega arith in
          record { place = 0; inside = omega arith; is = ap (λ (i : ℕ). get_or ps i 0) e ∙ a.is }
      by (no x) y = later (f.all n (subst (λ (m : ℕ). Among m (without p ps)) a.is (stays p a.place ps a.inside (λ e. omega arith))))
      by (yes x) (no y) = later (f.all n (subst (λ (m : ℕ). Among m (without p ps)) a.is (stays p a.place ps a.inside (λ e. omega arith))))

  only_those : (n k : ℕ) → k < length whole → get_or whole k 0 ≡ n → Among n ps
  only_those n zero m e = record { place = p; inside = h; is = e }
  only_those n (suc k) m e = back (among_elsewhere p ps h (f.only n (record { place = k; inside = omega arith; is = e })))

  -- an entry after the first is another position
  another : (k : ℕ) → k < length others → Elsewhere p ps h (get_or others k 0)
  another k m = among_elsewhere p ps h (f.only (get_or others k 0) (record { place = k; inside = m; is = refl }))

  not_twice : (j k : ℕ) → j < k → k < length whole → get_or whole j 0 ≡ get_or whole k 0 → ⊥
  not_twice j zero l m e = omega arith
  not_twice zero (suc k) l m e = by (another k (omega arith))
    where
      by : Elsewhere p ps h (get_or others k 0) → ⊥
      by w = side (dec_le w.place p)
        where
          side : Dec (w.place ≤ p) → ⊥
          side (yes a) = ⊎_elim w.other (λ b. omega (arith, r w.place p b h, w.is, e)) (eq-or-lt_of_le a)
          side (no a) = omega (arith, r p w.place (omega arith) w.inside, w.is, e)
  not_twice (suc j) (suc k) l m e = f.once j k (omega arith) (omega arith) e

  lists_more : Lists ps whole
  lists_more = record { all = all_there; only = λ n a. only_those n a.place a.inside a.is; once = not_twice }

-- ---- the order
module _ (vs : List ℤ) (q : ℤ) where
  -- the line m comes before the line n: it is not farther from q, and where it is as near its offset is the smaller
  pub record Before (m n : ℕ) : Type 0 where
    pub near : distance (at vs m) q ≤ distance (at vs n) q
    pub smaller : distance (at vs m) q ≡ distance (at vs n) q → at vs m <ℤ at vs n

  abbrev pub Ordered : List ℕ → Type 0
  Ordered ns = (j k : ℕ) → j < k → k < length ns → Before (get_or ns j 0) (get_or ns k 0)

  module _ (h : Rising vs) where
    -- the nearest of the positions ps comes before the others
    module _ (ps : List ℕ) (r : Rises ps) (b : (k : ℕ) → k < length ps → get_or ps k 0 < length vs) (s : 1 ≤ length ps) where
      some : 1 ≤ length (map (at vs) ps)
      some = omega (arith, map_length vs ps)

      abbrev here : ℕ
      here = nearest_place vs q ps

      place_inside : here < length ps
      place_inside = omega (arith, nearest_position (map (at vs) ps) q some, map_length vs ps)

      nearest_before : (k : ℕ) → k < length ps → k ≢ here → Before (get_or ps here 0) (get_or ps k 0)
      nearest_before k m o = record { near = near; smaller = λ e. side e (dec_le k here) }
        where
          near : distance (at vs (get_or ps here 0)) q ≤ distance (at vs (get_or ps k 0)) q
          near = rw (← map_at vs ps here place_inside, ← map_at vs ps k m) (nearest_least (map (at vs) ps) q some k (omega (arith, map_length vs ps)))

          farther : k < here → distance (at vs (get_or ps here 0)) q < distance (at vs (get_or ps k 0)) q
          farther a = rw (← map_at vs ps here place_inside, ← map_at vs ps k m) (nearest_first_law (map (at vs) ps) q some k a)

          side : distance (at vs (get_or ps here 0)) q ≡ distance (at vs (get_or ps k 0)) q → Dec (k ≤ here) → at vs (get_or ps here 0) <ℤ at vs (get_or ps k 0)
          side e (yes a) = absurd (⊎_elim o (λ c. omega (arith, farther c, e)) (eq-or-lt_of_le a))
          side e (no a) = parts_lt _ _ (h (get_or ps here 0) (get_or ps k 0) (r here k (omega arith) m) (b k m))

    -- it lists what it is given, in this order
    pub record Sorted (ps ns : List ℕ) : Type 0 where
      pub lists : Lists ps ns
      pub ordered : Ordered ns

    sorted_from : (n : ℕ) (ps : List ℕ) → length ps ≡ n → Rises ps → ((k : ℕ) → k < length ps → get_or ps k 0 < length vs) → Sorted ps (nearest_first vs q ps)
    unfolding nearest_ones
    sorted_from zero [] e r b =
        record { lists = record { all = λ m a. a; only = λ m a. a; once = λ j k l m e. omega arith }; ordered = λ j k l m. absurd (omega arith) }
    sorted_from zero (p ∷ ps) e r b = absurd (omega arith)
    sorted_from (suc n) ps e r b =
        subst (Sorted ps) (sym (nearest_then vs q ps refl inside))
        (by (sorted_from n (without here ps) (omega (arith, without_length here ps inside)) (without_rises here ps inside r) (without_most here ps inside b)))
      where
        here : ℕ
        here = nearest_place vs q ps

        inside : here < length ps
        inside = place_inside ps r b (omega arith)

        by : Sorted (without here ps) (nearest_first vs q (without here ps)) → Sorted ps (get_or ps here 0 ∷ nearest_first vs q (without here ps))
        by t = record { lists = lists_more here ps inside r t.lists; ordered = order }
          where
            order : Ordered (get_or ps here 0 ∷ nearest_first vs q (without here ps))
            order j zero l m = absurd (omega arith)
            order zero (suc k) l m =
                let w = another here ps inside r t.lists k (omega arith) in
                subst (Before (get_or ps here 0)) w.is (nearest_before ps r b (omega arith) w.place w.inside w.other)
            order (suc j) (suc k) l m = t.ordered j k (omega arith) (omega arith)

    nearest_first_sorted : (ps : List ℕ) → Rises ps → ((k : ℕ) → k < length ps → get_or ps k 0 < length vs) → Sorted ps (nearest_first vs q ps)
    nearest_first_sorted ps r b = sorted_from (length ps) ps refl r b

-- ---- no other list is in this order
module _ (vs : List ℤ) (q : ℤ) where
  -- of two lines only one comes before the other
  not_both : (m n : ℕ) → Before vs q m n → Before vs q n m → ⊥
  not_both m n a b = omega (arith, lt_parts (a.smaller same), lt_parts (b.smaller (sym same)))
    where
      same : distance (at vs m) q ≡ distance (at vs n) q
      same = omega (arith, a.near, b.near)

  heads_equal : (x y : ℕ) (xs ys : List ℕ) → Lists (x ∷ xs) (y ∷ ys) → Ordered vs q (x ∷ xs) → Ordered vs q (y ∷ ys) → x ≡ y
  heads_equal x y xs ys f a b = by (f.all x (record { place = 0; inside = omega arith; is = refl })) (f.only y (record { place = 0; inside = omega arith; is = refl }))
    where
      later : {z n : ℕ} (zs : List ℕ) → Ordered vs q (z ∷ zs) → (k : ℕ) → k < length (z ∷ zs) → get_or (z ∷ zs) k 0 ≡ n → (z ≡ n) ⊎ Before vs q z n
      later zs o zero m e = inl e
      later {z} zs o (suc k) m e = inr (subst (Before vs q z) e (o 0 (suc k) (omega arith) m))

      by : Among x (y ∷ ys) → Among y (x ∷ xs) → x ≡ y
      by c d =
          ⊎_elim sym (λ (u : Before vs q y x). ⊎_elim (λ (e : x ≡ y). e) (λ (v : Before vs q x y). absurd (not_both x y v u)) (later xs a d.place d.inside d.is))
          (later ys b c.place c.inside c.is)

  -- the tails list one another too
  tails_list : (x : ℕ) (xs ys : List ℕ) → Lists (x ∷ xs) (x ∷ ys) → Once (x ∷ xs) → Lists xs ys
  tails_list x xs ys f o =
      record {
        all = λ n a. kept ys (f.all n (more a)) (λ e. o 0 (suc a.place) (omega arith) (omega (arith, a.inside)) (e ∙ sym a.is));
        only = λ n a. kept xs (f.only n (more a)) (λ e. f.once 0 (suc a.place) (omega arith) (omega (arith, a.inside)) (e ∙ sym a.is));
        once = λ j k l m. f.once (suc j) (suc k) (omega arith) (omega arith);
      }
    where
      more : {n : ℕ} {zs : List ℕ} → Among n zs → Among n (x ∷ zs)
      more a = record { place = suc a.place; inside = omega (arith, a.inside); is = a.is }

      kept : {n : ℕ} (zs : List ℕ) → Among n (x ∷ zs) → x ≢ n → Among n zs
      kept {n} zs a u = by a.place a.inside a.is
        where
          by : (k : ℕ) → k < length (x ∷ zs) → get_or (x ∷ zs) k 0 ≡ n → Among n zs
          by zero m e = absurd (u e)
          by (suc k) m e = record { place = k; inside = omega arith; is = e }

  ordered_unique : (xs ys : List ℕ) → Lists xs ys → Once xs → Ordered vs q xs → Ordered vs q ys → xs ≡ ys
  ordered_unique [] [] f o a b = refl
  ordered_unique [] (y ∷ ys) f o a b = absurd (omega (arith, (f.only y (record { place = 0; inside = omega arith; is = refl })).inside))
  ordered_unique (x ∷ xs) [] f o a b = absurd (omega (arith, (f.all x (record { place = 0; inside = omega arith; is = refl })).inside))
  ordered_unique (x ∷ xs) (y ∷ ys) f o a b =
      let e : x ≡ y = heads_equal x y xs ys f a b in
      ap (λ (z : ℕ). z ∷ xs) e
      ∙ ap (λ (zs : List ℕ). y ∷ zs)
      (ordered_unique xs ys (tails_list x xs ys (rw (← e) at f) o) (λ j k l m. o (suc j) (suc k) (omega arith) (omega arith))
      (λ j k l m. a (suc j) (suc k) (omega arith) (omega arith)) (λ j k l m. b (suc j) (suc k) (omega arith) (omega arith)))

-- ---- request 8
module _ (l : List ℕ) (c : Checked l) (q d : ℕ) where
  sorted : Sorted (pattern_values l) (pattern_value q) (offsets_rise l c) (lines_found l q d) (lines_in_order l q d)
  sorted =
      nearest_first_sorted (pattern_values l) (pattern_value q) (offsets_rise l c) (lines_found l q d)
      (positions_rise (is_within (pattern_value q) (pattern_value d)) (pos 0) 0 (pattern_values l)) (positions_most (is_within (pattern_value q) (pattern_value d)) (pos 0) (pattern_values l))

  -- what request 5 says: all that was found, nothing else, nothing twice
  pub order_lists : Lists (lines_found l q d) (lines_in_order l q d)
  order_lists = sorted.lists

  -- each entry is nearer than every later one, or as near with the smaller offset
  pub order_ordered : Ordered (pattern_values l) (pattern_value q) (lines_in_order l q d)
  order_ordered = sorted.ordered

  -- and these two say which list it is
  pub order_unique : (ns : List ℕ) → Lists (lines_found l q d) ns → Ordered (pattern_values l) (pattern_value q) ns → lines_in_order l q d ≡ ns
  order_unique ns f o =
      ordered_unique (pattern_values l) (pattern_value q) (lines_in_order l q d) ns (lists_determined order_lists f) order_lists.once order_ordered o

  -- as many as were found
  pub order_length : length (lines_in_order l q d) ≡ length (lines_found l q d)
  order_length =
      lists_length order_lists (lists_itself (lines_found l q d) (positions_rise (is_within (pattern_value q) (pattern_value d)) (pos 0) 0 (pattern_values l)))

  -- the first is the line of request 2, where that is within reach
  abbrev line : ℕ
  line = nearest (pattern_values l) (pattern_value q)

  abbrev first : ℕ
  first = get_or (lines_in_order l q d) 0 0

  some_lines : 1 ≤ length (pattern_values l)
  some_lines = omega (arith, c.some, values_length l)

  -- the first is a line, and cannot be one that comes before the nearest
  first_line : 0 < length (lines_in_order l q d) → first < length (pattern_values l)
  first_line h =
      let a = order_lists.only first (record { place = 0; inside = h; is = refl }) in
      omega (arith, positions_most (is_within (pattern_value q) (pattern_value d)) (pos 0) (pattern_values l) a.place a.inside, a.is)

  none_before : first < length (pattern_values l) → Before (pattern_values l) (pattern_value q) first line → ⊥
  none_before m b = side (dec_le line first)
    where
      same : distance (at (pattern_values l) first) (pattern_value q) ≡ distance (at (pattern_values l) line) (pattern_value q)
      same = omega (arith, b.near, nearest_least (pattern_values l) (pattern_value q) some_lines first m)

      side : Dec (line ≤ first) → ⊥
      side (yes a) = omega (arith, lt_parts (b.smaller same), rising_upto (pattern_values l) (offsets_rise l c) line first a m)
      side (no a) = omega (arith, same, nearest_first_law (pattern_values l) (pattern_value q) some_lines first (omega arith))

  pub order_first : is_within (pattern_value q) (pattern_value d) (at (pattern_values l) line) ≡ true → first ≡ line
  order_first w = by there.place there.inside there.is
    where
      there : Among line (lines_in_order l q d)
      there =
          let none_before_it : 0 + line ≡ line = omega arith in
          order_lists.all line
          (subst (λ (n : ℕ). Among n (lines_found l q d)) none_before_it
          (position_found (is_within (pattern_value q) (pattern_value d)) (pos 0) (pattern_values l) 0 line (nearest_position (pattern_values l) (pattern_value q) some_lines) w))

      by : (k : ℕ) → k < length (lines_in_order l q d) → get_or (lines_in_order l q d) k 0 ≡ line → first ≡ line
      by zero m e = e
      by (suc k) m e =
          absurd (none_before (first_line (omega arith)) (subst (Before (pattern_values l) (pattern_value q) first) e (order_ordered 0 (suc k) (omega arith) m)))
