-- The walk outward: the nearest of the positions that are left stands at the inner end of one of the two ranges.
use Rattle.theory.proofs.Prelude.{ℕ, ◌≤◌, ◌<◌, ◌+◌, ◌-◌, suc, zero, true, false, Bool, [], ◌∷◌, List, ◌++◌, append-nil, map, ◌∙◌, ap, ◌≡◌, sym, refl, ap₂, dec_le, add-one, arith, ℤ, length, get_or, take, set, length-map, take_all}
use lib.ListN.{length-append}
use lib.Seq.{get_or_at, get_or-append-add, take-suc-set}
use Rattle.binary32.specs.Patterns.{pattern_value, pattern_values}
use Rattle.binary32.proofs.PatternValues.{value_at, values_length}
use Rattle.format.proofs.Signed.{Upto, Under}
use Rattle.saved_lines.specs.Positions.{range, without}
use Rattle.saved_lines.specs.Offsets.{at, nearer, nearest_place, nearest_ones, nearest_first}
use Rattle.saved_lines.specs.Lines.{Checked}
use Rattle.saved_lines.specs.Walks.{Walk, outside, Next, before, after}
use Rattle.saved_lines.proofs.NearestLaws.{Rising, left_nearest, right_nearest}
use Rattle.saved_lines.proofs.DistanceLaws.{nearer_true, nearer_false}
use Rattle.saved_lines.proofs.Offsets.{offsets_rise}
use Rattle.saved_lines.proofs.Positions.{below_query, from_query}
use Rattle.saved_lines.proofs.PositionLists.{range_length, range_more, range_at, Rises, without_length}

-- ---- lists
get_d_left : (xs ys : List ℕ) (k : ℕ) → k < length xs → get_or (xs ++ ys) k 0 ≡ get_or xs k 0
get_d_left [] ys k h = absurd (omega arith)
get_d_left (x ∷ xs) ys zero h = refl
get_d_left (x ∷ xs) ys (suc k) h = get_d_left xs ys k (omega arith)

without_at : (xs : List ℕ) (y : ℕ) (ys : List ℕ) (n : ℕ) → length xs ≡ n → without n (xs ++ y ∷ ys) ≡ xs ++ ys
unfolding without
without_at [] y ys zero h = refl
without_at [] y ys (suc n) h = absurd (omega arith)
without_at (x ∷ xs) y ys zero h = absurd (omega arith)
without_at (x ∷ xs) y ys (suc n) h = ap (λ (zs : List ℕ). x ∷ zs) (without_at xs y ys n (omega arith))

pub map_at : (vs : List ℤ) (ps : List ℕ) (k : ℕ) → k < length ps → at (map (at vs) ps) k ≡ at vs (get_or ps k 0)
map_at vs [] k h = absurd (omega arith)
map_at vs (p ∷ ps) zero h = refl
map_at vs (p ∷ ps) (suc k) h = map_at vs ps k (omega arith)

pub map_length : (vs : List ℤ) (ps : List ℕ) → length (map (at vs) ps) ≡ length ps
map_length vs ps = length-map ps (at vs)

-- the offsets at positions that rise, in a list that rises
map_rises : (vs : List ℤ) (ps : List ℕ) → Rising vs → Rises ps → ((k : ℕ) → k < length ps → get_or ps k 0 < length vs) → Rising (map (at vs) ps)
map_rises vs ps h g b j k l m =
    let n : k < length ps = omega (arith, map_length vs ps) in
    let i : j < length ps = omega arith in
    rw (map_at vs ps j i, map_at vs ps k n) (h (get_or ps j 0) (get_or ps k 0) (g j k l n) (b k n))

-- ---- the two ranges
module _ (first left right end : ℕ) where
  outside_length : length (outside first left right end) ≡ left - first + (end - right)
  outside_length = length-append (range first (left - first)) (range right (end - right)) ∙ omega (arith, range_length first (left - first), range_length right (end - right))

  outside_low : (k : ℕ) → k < left - first → get_or (outside first left right end) k 0 ≡ first + k
  outside_low k h =
      get_d_left (range first (left - first)) (range right (end - right)) k (omega (arith, range_length first (left - first))) ∙ range_at first (left - first) k h

  outside_high : (k : ℕ) → k < end - right → get_or (outside first left right end) (left - first + k) 0 ≡ right + k
  outside_high k h =
      ap (λ (n : ℕ). get_or (outside first left right end) (n + k) 0) (sym (range_length first (left - first)))
      ∙ get_or-append-add (range first (left - first)) (range right (end - right)) k 0
      ∙ range_at right (end - right) k h

  outside_after : right < end → outside first left right end ≡ range first (left - first) ++ right ∷ range (suc right) (end - suc right)
  unfolding range
  outside_after h = let e : end - right ≡ suc (end - suc right) = omega arith in rw e

outside_before : (first r right end : ℕ) → first ≤ r → outside first (suc r) right end ≡ range first (r - first) ++ r ∷ range right (end - right)
outside_before first r right end h = more ∙ ap (λ (k : ℕ). range first (r - first) ++ k ∷ range right (end - right)) (omega arith)
  where
    more : outside first (suc r) right end ≡ range first (r - first) ++ (first + (r - first)) ∷ range right (end - right)
    more = let e : suc r - first ≡ suc (r - first) = omega arith in rw e (range_more first (r - first) (range right (end - right)))

range_append : (i a b : ℕ) → range i a ++ range (i + a) b ≡ range i (a + b)
unfolding range
range_append i zero b =
    let e : i + 0 ≡ i = omega arith in
    let f : 0 + b ≡ b = omega arith in
    rw (e, f)
range_append i (suc a) b =
    let e : i + suc a ≡ suc i + a = omega arith in
    let f : suc a + b ≡ suc (a + b) = omega arith in
    rw (e, f) (ap (λ (zs : List ℕ). i ∷ zs) (range_append (suc i) a b))

-- before the first step all of the range is left
outside_whole : (first split end : ℕ) → first ≤ split → split ≤ end → outside first split split end ≡ range first (end - first)
outside_whole first split end h g =
    let e : first + (split - first) ≡ split = omega arith in
    let f : split - first + (end - split) ≡ end - first = omega arith in
    rw (← f) (ap (λ (i : ℕ). range first (split - first) ++ range i (end - split)) (sym e) ∙ range_append first (split - first) (end - split))

-- ---- the nearest of them
module _ (l : List ℕ) (c : Checked l) (q first left right end : ℕ) (w : Walk l q first left right end) where
  abbrev ps : List ℕ
  ps = outside first left right end

  abbrev vs : List ℤ
  vs = pattern_values l

  data Entry (k : ℕ) : Type 0 where
    on_left : k < left - first → get_or ps k 0 ≡ first + k → Entry k
    on_right : left - first ≤ k → get_or ps k 0 ≡ right + (k - (left - first)) → Entry k

  entry : (k : ℕ) → k < length ps → Entry k
  entry k h = by (dec_le (left - first) k)
    where
      by : Dec (left - first ≤ k) → Entry k
      by (yes g) =
          let e : left - first + (k - (left - first)) ≡ k = omega arith in
          on_right g (ap (λ (n : ℕ). get_or ps n 0) (sym e) ∙ outside_high first left right end (k - (left - first)) (omega (arith, outside_length first left right end)))
      by (no g) = on_left (omega arith) (outside_low first left right end k (omega arith))

  entry_most : (k : ℕ) → k < length ps → get_or ps k 0 < length vs
  entry_most k h = by (entry k h)
    where
      by : Entry k → get_or ps k 0 < length vs
      by (on_left g e) = omega (arith, e, w.below, w.above, w.high, w.most, values_length l)
      by (on_right g e) = omega (arith, e, outside_length first left right end, h, w.most, values_length l)

  outside_rises : Rises ps
  outside_rises j k a b = by (entry j (omega arith)) (entry k b)
    where
      by : Entry j → Entry k → get_or ps j 0 < get_or ps k 0
      by (on_left g e) (on_left h f) = omega (arith, e, f)
      by (on_left g e) (on_right h f) = omega (arith, e, f, w.below, w.above)
      by (on_right g e) (on_left h f) = absurd (omega arith)
      by (on_right g e) (on_right h f) = omega (arith, e, f)

  abbrev us : List ℤ
  us = map (at vs) ps

  us_length : length us ≡ left - first + (end - right)
  us_length = map_length vs ps ∙ outside_length first left right end

  us_rises : Rising us
  us_rises = map_rises vs ps (offsets_rise l c) outside_rises entry_most

  us_low : (k : ℕ) → k < left - first → Under (at us k) (pattern_value q)
  us_low k h =
      rw (map_at vs ps k (omega (arith, outside_length first left right end)), outside_low first left right end k h)
      (below_query l c q refl (first + k) (omega (arith, w.below)))

  us_high : (k : ℕ) → left - first ≤ k → k < length us → Upto (pattern_value q) (at us k)
  us_high k h m = by (entry k (omega (arith, map_length vs ps)))
    where
      by : Entry k → Upto (pattern_value q) (at us k)
      by (on_left g e) = absurd (omega arith)
      by (on_right g e) =
          rw (map_at vs ps k (omega (arith, map_length vs ps)), e)
          (from_query l c q refl (right + (k - (left - first))) (omega (arith, w.above)) (omega (arith, us_length, w.most, values_length l)))

  at_left : first < left → at us (left - first - 1) ≡ pattern_value (get_or l (left - 1) 0)
  at_left h =
      let e : first + (left - first - 1) ≡ left - 1 = omega arith in
      map_at vs ps (left - first - 1) (omega (arith, outside_length first left right end))
      ∙ ap (at vs) (outside_low first left right end (left - first - 1) (omega arith) ∙ e)
      ∙ value_at l (left - 1)

  at_right : right < end → at us (left - first) ≡ pattern_value (get_or l right 0)
  at_right h =
      let e : left - first + 0 ≡ left - first = omega arith in
      let f : right + 0 ≡ right = omega arith in
      map_at vs ps (left - first) (omega (arith, outside_length first left right end))
      ∙ ap (at vs) (ap (λ (n : ℕ). get_or ps n 0) (sym e) ∙ outside_high first left right end 0 (omega arith) ∙ f)
      ∙ value_at l right

  abbrev test : Bool
  test = nearer (pattern_value q) (pattern_value (get_or l right 0)) (pattern_value (get_or l (left - 1) 0))

  -- the one at `right`, where there is no other or where it is nearer
  pub right_next : right < end → (first < left → test ≡ true) → Next l q first left right end right
  right_next h t =
      after refl h
      (right_nearest us (pattern_value q) us_rises (left - first) us_low us_high (omega (arith, us_length))
      (λ p. rw (at_left (omega arith), at_right h) (nearer_true (pattern_value q) (pattern_value (get_or l right 0)) (pattern_value (get_or l (left - 1) 0)) (t (omega arith)))))

  -- the one before `left`, where there is no other or where that is not nearer
  pub left_next : first < left → (right < end → test ≡ false) → Next l q first left right end (left - 1)
  left_next h t =
      before {r = left - 1} (omega arith) (omega arith)
      (left_nearest us (pattern_value q) us_rises (left - first) us_low us_high (omega arith) (omega (arith, us_length))
      (λ p. let g : right < end = omega (arith, us_length) in rw (at_left h, at_right g) (nearer_false (pattern_value q) (pattern_value (get_or l right 0)) (pattern_value (get_or l (left - 1) 0)) (t g)))
      ∙ omega arith)

  pub next_inside : {r : ℕ} → Next l q first left right end r → r < end
  next_inside (before e f g) = omega (arith, w.below, w.above, w.high)
  next_inside (after e f g) = f

-- ---- one step
-- the nearest, then the others in their order
pub nearest_then : (vs : List ℤ) (q : ℤ) (ps : List ℕ) {p : ℕ} → nearest_place vs q ps ≡ p → p < length ps
    → nearest_first vs q ps ≡ get_or ps p 0 ∷ nearest_first vs q (without p ps)
unfolding nearest_ones
nearest_then vs q ps {p} e h =
    ap (λ (n : ℕ). nearest_ones vs q n ps) (without_length p ps h)
    ∙ ap (λ (i : ℕ). get_or ps i 0 ∷ nearest_ones vs q (length (without p ps)) (without i ps)) e

nearest_nothing : (vs : List ℤ) (q : ℤ) (ps : List ℕ) → length ps ≡ 0 → nearest_first vs q ps ≡ []
unfolding nearest_ones
nearest_nothing vs q ps z = ap (λ (n : ℕ). nearest_ones vs q n ps) z

snoc : (xs : List ℕ) (y : ℕ) (ys : List ℕ) → (xs ++ (y ∷ [])) ++ ys ≡ xs ++ (y ∷ ys)
snoc [] y ys = refl
snoc (x ∷ xs) y ys = ap (λ (zs : List ℕ). x ∷ zs) (snoc xs y ys)

-- i positions are written: what is written, then what is left in its order, is the whole in its order
pub record Written (l : List ℕ) (q first end : ℕ) (out : List ℕ) (left right i : ℕ) : Type 0 where
  pub walk : Walk l q first left right end
  pub count : i + (left - first) + (end - right) ≡ end - first
  pub so_far : take i out ++ nearest_first (pattern_values l) (pattern_value q) (outside first left right end) ≡ nearest_first (pattern_values l) (pattern_value q) (range first (end - first))

module _ (l : List ℕ) (q first end : ℕ) {out : List ℕ} where
  pub none_written : (left right : ℕ) → right ≡ left → Walk l q first left right end → Written l q first end out left right 0
  none_written left right e w =
      record {
        walk = w;
        count = omega (arith, w.low, w.high);
        so_far = ap (nearest_first (pattern_values l) (pattern_value q)) (rw e (outside_whole first left end w.low (omega (arith, w.high))));
      }

  pub all_written : {left right i : ℕ} → Written l q first end out left right i → i ≡ end - first → length out ≤ i
      → out ≡ nearest_first (pattern_values l) (pattern_value q) (range first (end - first))
  all_written {left} {right} {i} w e h = sym (take_all i out h) ∙ sym (append-nil (take i out)) ∙ ap (λ (xs : List ℕ). take i out ++ xs) (sym none_left) ∙ w.so_far
    where
      none_left : nearest_first (pattern_values l) (pattern_value q) (outside first left right end) ≡ []
      none_left = nearest_nothing (pattern_values l) (pattern_value q) (outside first left right end) (omega (arith, outside_length first left right end, w.count))

  module _ {left right i : ℕ} (w : Written l q first end out left right i) (h : i < length out) where
    abbrev left_over : List ℕ
    left_over = outside first left right end

    more : {p r : ℕ} {rest : List ℕ} → nearest_place (pattern_values l) (pattern_value q) left_over ≡ p → p < length left_over → get_or left_over p 0 ≡ r → without p left_over ≡ rest
        → take (i + 1) (set out i r) ++ nearest_first (pattern_values l) (pattern_value q) rest ≡ nearest_first (pattern_values l) (pattern_value q) (range first (end - first))
    more {p} {r} {rest} e m f g =
        rw (add-one, take-suc-set out i r h)
        (snoc (take i out) r (nearest_first (pattern_values l) (pattern_value q) rest)
        ∙ ap (λ (xs : List ℕ). take i out ++ xs)
        (sym (nearest_then (pattern_values l) (pattern_value q) left_over e m ∙ ap₂ (λ (x : ℕ) (xs : List ℕ). x ∷ nearest_first (pattern_values l) (pattern_value q) xs) f g))
        ∙ w.so_far)

    pub went_left : (r : ℕ) → Next l q first left right end r → r < left → Written l q first end (set out i r) r right (i + 1)
    went_left r (after e f g) b = absurd (omega (arith, w.walk.below, w.walk.above))
    went_left r (before e f g) b =
        record {
          walk = record { low = f; below = omega (arith, w.walk.below); above = w.walk.above; high = w.walk.high; most = w.walk.most };
          count = omega (arith, w.count);
          so_far = more g (omega (arith, outside_length first left right end))
              (ap (λ (xs : List ℕ). get_or xs (r - first) 0) split ∙ get_or_at (range first (r - first)) r (range right (end - right)) 0 (r - first) (range_length first (r - first)))
              (ap (without (r - first)) split ∙ without_at (range first (r - first)) r (range right (end - right)) (r - first) (range_length first (r - first)));
        }
      where
        split : left_over ≡ range first (r - first) ++ r ∷ range right (end - right)
        split = ap (λ (n : ℕ). outside first n right end) (sym e) ∙ outside_before first r right end f

    pub went_right : (r : ℕ) → Next l q first left right end r → left ≤ r → Written l q first end (set out i r) left (r + 1) (i + 1)
    went_right r (before e f g) b = absurd (omega arith)
    went_right r (after e f g) b =
        record {
          walk = record { low = w.walk.low; below = w.walk.below; above = omega (arith, w.walk.above); high = omega arith; most = w.walk.most };
          count = omega (arith, w.count);
          so_far = more g (omega (arith, outside_length first left right end))
              (ap (λ (xs : List ℕ). get_or xs (left - first) 0) split ∙ get_or_at (range first (left - first)) right (range (suc right) (end - suc right)) 0 (left - first) (range_length first (left - first)) ∙ sym e)
              (ap (without (left - first)) split ∙ without_at (range first (left - first)) right (range (suc right) (end - suc right)) (left - first) (range_length first (left - first)) ∙ next);
        }
      where
        inside : right < end
        inside = omega arith

        split : left_over ≡ range first (left - first) ++ right ∷ range (suc right) (end - suc right)
        split = outside_after first left right end inside

        next : range first (left - first) ++ range (suc right) (end - suc right) ≡ outside first left (r + 1) end
        next = ap (λ (n : ℕ). range first (left - first) ++ range n (end - n)) (omega arith)
