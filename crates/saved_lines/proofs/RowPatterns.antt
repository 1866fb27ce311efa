-- A row of queries on lists of patterns: what the walk and the loop over the queries go by.
use Rattle.theory.proofs.Prelude.{ℕ, ◌≤◌, ◌<◌, ◌+◌, ◌*◌, ◌-◌, suc, zero, true, false, Bool, [], ◌∷◌, List, ◌++◌, append-nil, map, ◌∙◌, ap, ◌≡◌, sym, refl, ap₂, add-one, arith, ℤ, pos, length, get_or, drop, take, set, length-drop, length-map, drop-cons, drop-length, take_all}
use native.Mathlib.Nat.{zero-add}
use lib.Seq.{get_or-drop, length-take-le, take-suc, append_snoc, set_at}
use Rattle.theory.specs.Lists.{none, some_neighbours}
use Rattle.theory.proofs.Lists.{none_at, none_made, neighbours_fail, no_neighbours}
use Rattle.format.proofs.Signed.{Upto}
use Rattle.binary32.specs.Patterns.{not_finite, pattern_value, pattern_values}
use Rattle.binary32.proofs.PatternValues.{value_at, values_length}
use Rattle.saved_lines.specs.Offsets.{at, nearer, nearest, falls, descends, equals, repeats}
use Rattle.saved_lines.specs.Lines.{Checked}
use Rattle.saved_lines.specs.Rows.{looked, row_looked, row_found, Queried}
use Rattle.saved_lines.proofs.NearestLaws.{nearest_position, ascends}
use Rattle.saved_lines.proofs.Offsets.{offsets_rise}
use Rattle.saved_lines.proofs.RowLaws.{Closing, looked_stops, looked_ends, walk_nearest, looked_most, Left, nearest_ahead, left_behind, row_most}

-- ---- a list that passed the checks, and its tails
values_some : (l : List ℕ) → Checked l → 1 ≤ length (pattern_values l)
values_some l s = omega (arith, values_length l, s.some)

-- entries that pass no test, in a tail
none_drop : {A : Type 0} (test : A → Bool) (d : A) (xs : List A) (n : ℕ) → none test xs ≡ true → none test (drop n xs) ≡ true
none_drop test d xs n h =
    none_made test d (drop n xs) (λ k l. ap test (get_or-drop n xs k d) ∙ none_at test d xs h (n + k) (omega (arith, length-drop n xs)))

neighbours_drop : {A : Type 0} (test : A → A → Bool) (d : A) (xs : List A) (n : ℕ) → some_neighbours test xs ≡ false → some_neighbours test (drop n xs) ≡ false
neighbours_drop test d xs n h = no_neighbours test d (drop n xs) (λ k l. ap₂ test (get_or-drop n xs k d) (get_or-drop n xs (suc k) d ∙ ap (λ (i : ℕ). get_or xs i d) (omega arith))
    ∙ neighbours_fail test d xs h (n + k) (omega (arith, length-drop n xs)))

map_drop : {A B : Type 0} (f : A → B) (n : ℕ) (xs : List A) → map f (drop n xs) ≡ drop n (map f xs)
map_drop f zero xs = refl
map_drop f (suc n) [] = refl
map_drop f (suc n) (x ∷ xs) = map_drop f n xs

descends_drop : (vs : List ℤ) (n : ℕ) → descends vs ≡ false → descends (drop n vs) ≡ false
unfolding descends
descends_drop vs n h = neighbours_drop falls (pos 0) vs n h

repeats_drop : (vs : List ℤ) (n : ℕ) → repeats vs ≡ false → repeats (drop n vs) ≡ false
unfolding repeats
repeats_drop vs n h = neighbours_drop equals (pos 0) vs n h

-- the part `&l[n..]`, as the code has it
tail_is : (l : List ℕ) (n : ℕ) → take (length l - n) (drop n l) ≡ drop n l
tail_is l n = take_all (length l - n) (drop n l) (omega (arith, length-drop n l))

checked_drop : (l : List ℕ) (n : ℕ) → n < length l → Checked l → Checked (drop n l)
checked_drop l n h s =
    record {
      some = omega (arith, length-drop n l);
      most = omega (arith, length-drop n l, s.most);
      finite = none_drop not_finite 0 l n s.finite;
      order = ap descends (map_drop pattern_value n l) ∙ descends_drop (pattern_values l) n s.order;
      strict = ap repeats (map_drop pattern_value n l) ∙ repeats_drop (pattern_values l) n s.strict;
    }

pub checked_tail : (l : List ℕ) (n : ℕ) → n < length l → Checked l → Checked (take (length l - n) (drop n l))
checked_tail l n h s = rw (tail_is l n) (checked_drop l n h s)

-- ---- the walk: each line before i - 1 is followed by a closer one
abbrev pub Nearing : (l : List ℕ) (q i : ℕ) → Type 0
Nearing l q i = (k : ℕ) → suc k < i → nearer (pattern_value q) (pattern_value (get_or l (suc k) 0)) (pattern_value (get_or l k 0)) ≡ true

module _ (l : List ℕ) (s : Checked l) (q n : ℕ) where
  pair_is : (k : ℕ) {t : Bool} → nearer (pattern_value q) (pattern_value (get_or l (suc k) 0)) (pattern_value (get_or l k 0)) ≡ t
      → nearer (pattern_value q) (at (pattern_values l) (suc k)) (at (pattern_values l) k) ≡ t
  pair_is k e = rw (value_at l k, value_at l (suc k)) e

  closing : Nearing l q (suc n) → Closing (pattern_value q) (pattern_values l) n
  closing m k b = pair_is k (m k (omega arith))

  -- it stops before the end
  pub stopped : suc n < length l → Nearing l q (suc n) → nearer (pattern_value q) (pattern_value (get_or l (suc n) 0)) (pattern_value (get_or l n 0)) ≡ false
      → (n ≡ nearest (pattern_values l) (pattern_value q)) × (n + 2 ≡ looked (pattern_value q) (pattern_values l))
  stopped h m t =
      let c = closing m in
      let f = pair_is n t in
      (sym (walk_nearest (pattern_value q) (pattern_values l) (offsets_rise l s) n (omega (arith, values_length l)) c (λ x. f)), sym (looked_stops (pattern_value q) (pattern_values l) n (omega (arith, values_length l)) c f))

  -- it goes to the end
  pub ended : suc n ≡ length l → Nearing l q (suc n) → (n ≡ nearest (pattern_values l) (pattern_value q)) × (suc n ≡ looked (pattern_value q) (pattern_values l))
  ended h m =
      let c = closing m in
      (sym (walk_nearest (pattern_value q) (pattern_values l) (offsets_rise l s) n (omega (arith, values_length l)) c (λ x. absurd (omega (arith, values_length l)))), sym (looked_ends (pattern_value q) (pattern_values l) n (omega (arith, values_length l)) c))

-- the same by the place i that the loop is at
module _ (l : List ℕ) (s : Checked l) (q i : ℕ) (p : 1 ≤ i) (m : Nearing l q i) where
  here : suc (i - 1) ≡ i
  here = omega arith

  pub stopped_at : i < length l → nearer (pattern_value q) (pattern_value (get_or l i 0)) (pattern_value (get_or l (i - 1) 0)) ≡ false
      → (i - 1 ≡ nearest (pattern_values l) (pattern_value q)) × (i + 1 ≡ looked (pattern_value q) (pattern_values l))
  stopped_at h t =
      let r = stopped l s q (i - 1) (rw here h) (rw here m) (rw here t) in
      let e : i + 1 ≡ i - 1 + 2 = omega arith in
      (r.0, e ∙ r.1)

pub ended_at : (l : List ℕ) (s : Checked l) (q : ℕ) → Nearing l q (length l)
    → (length l - 1 ≡ nearest (pattern_values l) (pattern_value q)) × (length l ≡ looked (pattern_value q) (pattern_values l))
ended_at l s q m =
    let e : suc (length l - 1) ≡ length l = omega (arith, s.some) in
    let r = ended l s q (length l - 1) e (rw e m) in
    (r.0, sym e ∙ r.1)

-- ---- the row
-- what was written: the first i of what is to be found, and then what the slice held
found_length : (vs : List ℤ) (qs : List ℕ) → length (row_found vs (pattern_values qs)) ≡ length qs
found_length vs qs = length-map (pattern_values qs) (nearest vs) ∙ values_length qs

pub found_at : (vs : List ℤ) (qs : List ℕ) (i : ℕ) → i < length qs → get_or (row_found vs (pattern_values qs)) i 0 ≡ nearest vs (pattern_value (get_or qs i 0))
found_at vs [] i h = absurd (omega arith)
found_at vs (q ∷ qs) zero h = refl
found_at vs (q ∷ qs) (suc i) h = found_at vs qs i (omega arith)

write_more : (found old : List ℕ) (i v : ℕ) {out : List ℕ} → i < length found → i < length old → v ≡ get_or found i 0 → out ≡ take i found ++ drop i old
    → set out i v ≡ take (i + 1) found ++ drop (i + 1) old
write_more found old i v {out} h g e w =
    rw (w, drop-cons old i 0 g) (set_at (take i found) _ (drop (suc i) old) v i (length-take-le i found (omega arith)))
    ∙ ap (λ (k : ℕ). take i found ++ (k ∷ drop (suc i) old)) e
    ∙ sym (append_snoc (take i found) (get_or found i 0) (drop (suc i) old))
    ∙ ap (λ (xs : List ℕ). xs ++ drop (suc i) old) (sym (take-suc found i 0 h))
    ∙ rw add-one

-- the loop over the queries, where the next one is i and starts at the line p
pub record Gone (l qs old : List ℕ) (p count i : ℕ) (out : List ℕ) : Type 0 where
  pub inside : p < length l
  pub few : count ≤ p + 2 * i
  pub counted : count + row_looked (pattern_values l) p (pattern_values (drop i qs)) ≡ row_looked (pattern_values l) 0 (pattern_values qs)
  pub written : out ≡ take i (row_found (pattern_values l) (pattern_values qs)) ++ drop i old
  pub ahead : (k : ℕ) → i ≤ k → k < length qs → Left (pattern_values l) (pattern_value (get_or qs k 0)) p

pub gone_first : (l qs old : List ℕ) → Checked l → Gone l qs old 0 0 0 old
gone_first l qs old s = record { inside = s.some; few = omega arith; counted = zero-add _; written = refl; ahead = λ k a b j c. absurd (omega arith) }

module _ (l : List ℕ) (s : Checked l) (qs : List ℕ) (qd : Queried qs) {old out : List ℕ} {p count i : ℕ} (r : Gone l qs old p count i out) (g : i < length qs) {m c : ℕ}
    (e : m ≡ nearest (pattern_values (take (length l - p) (drop p l))) (pattern_value (get_or qs i 0)))
    (f : c ≡ looked (pattern_value (get_or qs i 0)) (pattern_values (take (length l - p) (drop p l)))) where
  abbrev vs : List ℤ
  vs = pattern_values l

  abbrev q : ℤ
  q = pattern_value (get_or qs i 0)

  tail_offsets : pattern_values (take (length l - p) (drop p l)) ≡ drop p vs
  tail_offsets = ap pattern_values (tail_is l p) ∙ map_drop pattern_value p l

  step_nearest : p + m ≡ nearest vs q
  step_nearest =
      ap (λ (k : ℕ). p + k) (e ∙ ap (λ (ws : List ℤ). nearest ws q) tail_offsets)
      ∙ sym (nearest_ahead vs q p (omega (arith, r.inside, values_length l)) (r.ahead i (omega arith) g))

  pub step_place : p + m < length l
  step_place = omega (arith, step_nearest, nearest_position vs q (values_some l s), values_length l)

  pub step_looked : c ≤ m + 2
  step_looked =
      let t = checked_tail l p r.inside s in
      omega (arith, e, f, looked_most q (pattern_values (take (length l - p) (drop p l))) (offsets_rise _ t) (values_some _ t))

  counted_more : count + c + row_looked vs (p + m) (pattern_values (drop (i + 1) qs)) ≡ row_looked vs 0 (pattern_values qs)
  unfolding row_looked
  counted_more =
      let a : row_looked vs p (pattern_values (drop i qs)) ≡ looked q (drop p vs) + row_looked vs (nearest vs q) (pattern_values (drop (suc i) qs)) =
      ap (λ (xs : List ℕ). row_looked vs p (pattern_values xs)) (drop-cons qs i 0 g) in
      let x : row_looked vs (p + m) (pattern_values (drop (i + 1) qs)) ≡ row_looked vs (nearest vs q) (pattern_values (drop (suc i) qs)) =
      ap₂ (λ (n : ℕ) (j : ℕ). row_looked vs n (pattern_values (drop j qs))) step_nearest (add-one i) in
      let y : c ≡ looked q (drop p vs) = f ∙ ap (looked q) tail_offsets in
      omega (arith, a, x, y, r.counted)

  pub gone_more : length old ≡ length qs → Gone l qs old (p + m) (count + c) (i + 1) (set out i (p + m))
  gone_more n =
      record {
        inside = step_place;
        few = omega (arith, r.few, step_looked);
        counted = counted_more;
        written = write_more (row_found vs (pattern_values qs)) old i (p + m) (omega (arith, found_length vs qs)) (omega arith) (step_nearest ∙ sym (found_at vs qs i g)) r.written;
        ahead = λ k a d. rw step_nearest (left_behind vs (offsets_rise l s) (values_some l s) q (pattern_value (get_or qs k 0)) (later k a d));
      }
    where
      later : (k : ℕ) → i + 1 ≤ k → k < length qs → Upto q (pattern_value (get_or qs k 0))
      later k a d = rw (← value_at qs i, ← value_at qs k) (ascends (pattern_values qs) qd.order i k (omega arith) (omega (arith, values_length qs)))

-- all queries are gone through
module _ {l qs old out : List ℕ} {p count i : ℕ} (g : Gone l qs old p count i out) (e : i ≡ length qs) where
  pub gone_count : count ≡ row_looked (pattern_values l) 0 (pattern_values qs)
  unfolding row_looked
  gone_count =
      let n : row_looked (pattern_values l) p (pattern_values (drop i qs)) ≡ 0 = ap (λ (xs : List ℕ). row_looked (pattern_values l) p (pattern_values xs)) (ap (λ (k : ℕ). drop k qs) e ∙ drop-length qs) in
      omega (arith, n, g.counted)

  pub gone_written : length old ≡ length qs → out ≡ row_found (pattern_values l) (pattern_values qs)
  gone_written n =
      g.written
      ∙ ap₂ ◌++◌ (take_all i (row_found (pattern_values l) (pattern_values qs)) (omega (arith, found_length (pattern_values l) qs))) (ap (λ (k : ℕ). drop k old) (e ∙ sym n) ∙ drop-length old)
      ∙ append-nil (row_found (pattern_values l) (pattern_values qs))

-- ---- the lines looked at are at most the saved lines and twice the queries
pub count_most : (l qs : List ℕ) → Checked l → Queried qs → row_looked (pattern_values l) 0 (pattern_values qs) ≤ length l + 2 * length qs
count_most l qs s qd =
    omega (
      arith,
      row_most (pattern_values l) (offsets_rise l s) (values_some l s) (pattern_values qs) 0 (values_some l s) (ascends (pattern_values qs) qd.order) (λ k b j c. absurd (omega arith)),
      values_length l,
      values_length qs,
    )
