-- The lines within reach stand side by side, from the first that reaches the query up to the first beyond it.
use Rattle.theory.proofs.Prelude.{ℕ, ◌≤◌, ◌<◌, ◌+◌, ◌-◌, true, false, Bool, not, List, ◌∙◌, ap, ◌≡◌, sym, refl, dec_le, arith, leb, ℤ, pos, ◌+ℤ◌, length, get_or, le_z, le-leb, lt-leb, not-true, not-false, ⊎_elim, inl, inr, ◌⊎◌}
use Rattle.theory.specs.Lists.{first_where}
use Rattle.theory.specs.Tests.{◌and◌, unless}
use Rattle.std.proofs.Math.Nat.{lt_of_not-le}
use Rattle.theory.proofs.Lists.{first_before, first_most}
use Rattle.theory.proofs.Tests.{never, unless_passed, unless_failed}
use Rattle.theory.proofs.Integers.{above, below, sum_parts}
use Rattle.format.specs.Given.{Given, gives, refused, ◌then◌, given_at}
use Rattle.format.proofs.Signed.{Upto, Under, apart, le_true, le_false, make_le}
use Rattle.binary32.specs.Patterns.{finite, pattern_value, pattern_values}
use Rattle.binary32.proofs.PatternValues.{value_at, values_length}
use Rattle.std.specs.Prelude.{Result, Ok, Err, IsErr, IsErrAnd}
use Rattle.format.specs.declared.ListRefusal.{ListRefusal}
use Rattle.format.specs.declared.ListRefusal.TheVariants.{Whole, Entry}
use Rattle.saved_lines.specs.Positions.{range}
use Rattle.saved_lines.specs.Offsets.{at, distance, is_within}
use Rattle.saved_lines.specs.Searches.{at_least, reaching, beyond}
use Rattle.saved_lines.specs.Lines.{passed, lines_checked, Checked, lines_found, lines_within, within_written}
use Rattle.saved_lines.specs.Walks.{Around}
use Rattle.saved_lines.proofs.Checking.{refused_by, passed_by}
use Rattle.saved_lines.proofs.DistanceLaws.{distance_is}
use Rattle.saved_lines.proofs.Offsets.{rising}
use Rattle.saved_lines.proofs.Searches.{Parted, from_first, later_reaching, later_beyond}
use Rattle.saved_lines.proofs.Positions.{next_most, below_query, from_query}
use Rattle.saved_lines.proofs.PositionLists.{range_length, positions_range}

-- ---- within reach: v + r is at least q, and v is at most q + r
module _ (q r v : ℤ) where
  within_made : le_z q (v +ℤ r) ≡ true → le_z v (q +ℤ r) ≡ true → is_within q r v ≡ true
  unfolding is_within
  within_made h g =
      make_le (pos (distance v q)) r
      (omega (arith, distance_is v q, le_true q (v +ℤ r) h, le_true v (q +ℤ r) g, sum_parts v r, sum_parts q r, apart r))

  -- each of the two tests is enough on its side of q
  within_below : Under v q → le_z q (v +ℤ r) ≡ true → is_within q r v ≡ true
  within_below b h = within_made h (make_le v (q +ℤ r) (omega (arith, b, le_true q (v +ℤ r) h, sum_parts v r, sum_parts q r)))

  within_above : Upto q v → le_z v (q +ℤ r) ≡ true → is_within q r v ≡ true
  within_above b h = within_made (make_le q (v +ℤ r) (omega (arith, b, le_true v (q +ℤ r) h, sum_parts v r, sum_parts q r))) h

  within_parts : is_within q r v ≡ true → Upto q (v +ℤ r) × Upto v (q +ℤ r)
  unfolding is_within
  within_parts h =
      let w = le_true (pos (distance v q)) r h in
      (omega (arith, distance_is v q, sum_parts v r), omega (arith, distance_is v q, sum_parts q r))

  -- not reached, or beyond
  not_reached : le_z q (v +ℤ r) ≡ false → is_within q r v ≡ false
  not_reached h = by (is_within q r v) refl
    where
      by : (t : Bool) → is_within q r v ≡ t → t ≡ false
      by true e = absurd (omega (arith, (within_parts e).0, le_false q (v +ℤ r) h))
      by false e = refl

  beyond_reach : le_z v (q +ℤ r) ≡ false → is_within q r v ≡ false
  beyond_reach h = by (is_within q r v) refl
    where
      by : (t : Bool) → is_within q r v ≡ t → t ≡ false
      by true e = absurd (omega (arith, (within_parts e).1, le_false v (q +ℤ r) h))
      by false e = refl

-- ---- the two ends
reached_at : (q d n : ℕ) → reaching q d n ≡ le_z (pattern_value q) (pattern_value n +ℤ pattern_value d)
unfolding reaching
reached_at q d n = refl

beyond_at : (q d n : ℕ) → beyond q d n ≡ not (le_z (pattern_value n) (pattern_value q +ℤ pattern_value d))
unfolding beyond
beyond_at q d n = refl

at_most : {a b : ℕ} → ¬ (b < a) → a ≤ b
at_most h = omega (arith, lt_of_not-le h)

-- the lines below the query, and those from it on
module _ (l : List ℕ) (c : Checked l) (q : ℕ) {split : ℕ} (s : split ≡ first_where (at_least q) l) where
  lower : (k : ℕ) → k < split → Under (pattern_value (get_or l k 0)) (pattern_value q)
  lower k h = rw (value_at l k) at (below_query l c q s k h)

  upper : (k : ℕ) → split ≤ k → k < length l → Upto (pattern_value q) (pattern_value (get_or l k 0))
  upper k h m = rw (value_at l k) at (from_query l c q s k h (omega (arith, values_length l)))

-- `first` parts the lines below the query, `rest` those from it on
module _ (l : List ℕ) (c : Checked l) (q d : ℕ) {split first rest : ℕ} (s : split ≡ first_where (at_least q) l)
    (f : Parted l (reaching q d) 0 first split) (g : Parted l (beyond q d) split rest (length l - split)) where
  abbrev within : ℤ → Bool
  within = is_within (pattern_value q) (pattern_value d)

  fails_before : (k : ℕ) → k < first → within (at (pattern_values l) k) ≡ false
  fails_before k h =
      ap within (value_at l k)
      ∙ not_reached (pattern_value q) (pattern_value d) (pattern_value (get_or l k 0))
      (sym (reached_at q d (get_or l k 0)) ∙ f.fails k (omega arith) (omega arith))

  fails_after : (k : ℕ) → split + rest ≤ k → k < length (pattern_values l) → within (at (pattern_values l) k) ≡ false
  fails_after k h m =
      ap within (value_at l k)
      ∙ beyond_reach (pattern_value q) (pattern_value d) (pattern_value (get_or l k 0))
      (not-true _ (sym (beyond_at q d (get_or l k 0)) ∙ g.passes k h (omega (arith, values_length l))))

  passes_below : (k : ℕ) → first ≤ k → k < split → within (at (pattern_values l) k) ≡ true
  passes_below k h m =
      ap within (value_at l k)
      ∙ within_below (pattern_value q) (pattern_value d) (pattern_value (get_or l k 0)) (lower l c q s k m)
      (sym (reached_at q d (get_or l k 0)) ∙ f.passes k (omega arith) (omega arith))

  passes_above : (k : ℕ) → split ≤ k → k < split + rest → within (at (pattern_values l) k) ≡ true
  passes_above k h m =
      ap within (value_at l k)
      ∙ within_above (pattern_value q) (pattern_value d) (pattern_value (get_or l k 0))
      (upper l c q s k h (omega (arith, g.most, next_most l c q s)))
      (not-false _ (sym (beyond_at q d (get_or l k 0)) ∙ g.fails k h m))

  passes_between : (k : ℕ) → first ≤ k → k < split + rest → within (at (pattern_values l) k) ≡ true
  passes_between k h m = by (dec_le split k)
    where
      by : Dec (split ≤ k) → within (at (pattern_values l) k) ≡ true
      by (yes a) = passes_above k a m
      by (no a) = passes_below k h (omega arith)

  pub around : Around l q d first split (split + rest)
  around =
      record {
        found = sym (positions_range within (pos 0) (pattern_values l) 0 first (split + rest - first) (omega (arith, f.most, g.most, next_most l c q s, values_length l)) fails_before
            (λ k a b. passes_between k a (omega (arith, f.most))) (λ k a b. fails_after k (omega (arith, f.most)) b)
            ∙ ap (λ (i : ℕ). range i (split + rest - first)) (omega arith));
        walk = record { low = f.most; below = omega arith; above = omega arith; high = omega arith; most = omega (arith, g.most, next_most l c q s) };
      }

-- ---- the same with each end sought in the whole list: the lines within reach stand between them, or there are none
module _ (l : List ℕ) (c : Checked l) (q d : ℕ) {first end : ℕ} (e : first ≡ first_where (reaching q d) l)
    (g : end ≡ first_where (beyond q d) l) where
  abbrev value : ℕ → ℤ
  value k = pattern_value (get_or l k 0)

  falls_short : (k : ℕ) → k < first → reaching q d (get_or l k 0) ≡ false
  falls_short k h = first_before (reaching q d) 0 l k (omega arith)

  reaches : (k : ℕ) → first ≤ k → k < length l → reaching q d (get_or l k 0) ≡ true
  reaches k h m = from_first l (rising l c) (later_reaching q d) k (omega arith) m

  not_beyond : (k : ℕ) → k < end → beyond q d (get_or l k 0) ≡ false
  not_beyond k h = first_before (beyond q d) 0 l k (omega arith)

  is_beyond : (k : ℕ) → end ≤ k → k < length l → beyond q d (get_or l k 0) ≡ true
  is_beyond k h m = from_first l (rising l c) (later_beyond q d) k (omega arith) m

  -- these as orders
  short : (k : ℕ) → k < first → Under (value k +ℤ pattern_value d) (pattern_value q)
  short k h = le_false (pattern_value q) (value k +ℤ pattern_value d) (sym (reached_at q d (get_or l k 0)) ∙ falls_short k h)

  reached : (k : ℕ) → first ≤ k → k < length l → Upto (pattern_value q) (value k +ℤ pattern_value d)
  reached k h m = le_true (pattern_value q) (value k +ℤ pattern_value d) (sym (reached_at q d (get_or l k 0)) ∙ reaches k h m)

  near : (k : ℕ) → k < end → Upto (value k) (pattern_value q +ℤ pattern_value d)
  near k h = le_true (value k) (pattern_value q +ℤ pattern_value d) (not-false _ (sym (beyond_at q d (get_or l k 0)) ∙ not_beyond k h))

  far : (k : ℕ) → end ≤ k → k < length l → Under (pattern_value q +ℤ pattern_value d) (value k)
  far k h m = le_false (value k) (pattern_value q +ℤ pattern_value d) (not-true _ (sym (beyond_at q d (get_or l k 0)) ∙ is_beyond k h m))

  module _ {split : ℕ} (s : split ≡ first_where (at_least q) l) where
    -- a distance of at least zero has the query between the two ends; with one below zero they meet or cross there
    at_least_zero : below (pattern_value d) ≤ above (pattern_value d) → (first ≤ split) × (split ≤ end)
    at_least_zero h = (
      at_most (λ a. omega (arith, h, short split a, upper l c q s split (omega arith) (omega (arith, first_most (reaching q d) 0 l)), sum_parts (value split) (pattern_value d))),
      at_most (λ a. omega (arith, h, far end (omega arith) (omega (arith, next_most l c q s)), lower l c q s end a, sum_parts (pattern_value q) (pattern_value d))),
    )

    below_zero : above (pattern_value d) < below (pattern_value d) → (end ≤ split) × (split ≤ first)
    below_zero h = (
      at_most (λ a. omega (arith, h, near split a, upper l c q s split (omega arith) (omega (arith, first_most (beyond q d) 0 l)), sum_parts (pattern_value q) (pattern_value d))),
      at_most (λ a. omega (arith, h, reached first (omega arith) (omega (arith, next_most l c q s)), lower l c q s first a, sum_parts (value first) (pattern_value d))),
    )

    sides : ((first ≤ split) × (split ≤ end)) ⊎ ((end ≤ split) × (split ≤ first))
    sides = by (dec_le (below (pattern_value d)) (above (pattern_value d)))
      where
        by : Dec (below (pattern_value d) ≤ above (pattern_value d)) → ((first ≤ split) × (split ≤ end)) ⊎ ((end ≤ split) × (split ≤ first))
        by (yes a) = inl (at_least_zero a)
        by (no a) = inr (below_zero (omega arith))

    pub around_none : end ≤ first → Around l q d split split split
    around_none h =
        let z : split + 0 ≡ split = omega arith in
        rw z at (around l c q d {first = split} {rest = 0} s
        (record { most = omega arith; fails = λ k a b. falls_short k (omega (arith, crossed.1)); passes = λ k a b. absurd (omega arith) })
        (record { most = omega arith; fails = λ k a b. absurd (omega arith); passes = λ k a b. is_beyond k (omega (arith, crossed.0)) (omega (arith, next_most l c q s)) }))
      where
        crossed : (end ≤ split) × (split ≤ first)
        crossed = ⊎_elim (λ p. (omega (arith, p.0, p.1), omega (arith, p.0, p.1))) (λ p. p) sides

    pub around_some : first < end → Around l q d first split end
    around_some h =
        let z : split + (end - split) ≡ end = omega (arith, between.1) in
        rw z at (around l c q d {rest = end - split} s
        (record { most = between.0; fails = λ k a b. falls_short k (omega arith); passes = λ k a b. reaches k (omega arith) (omega (arith, next_most l c q s)) })
        (record {
          most = omega (arith, first_most (beyond q d) 0 l);
          fails = λ k a b. not_beyond k (omega (arith, between.1));
          passes = λ k a b. is_beyond k (omega (arith, between.1)) (omega (arith, next_most l c q s));
        }))
      where
        between : (first ≤ split) × (split ≤ end)
        between = ⊎_elim (λ p. p) (λ p. absurd (omega (arith, p.0, p.1))) sides

-- ---- the answers of lines_within
module _ (l : List ℕ) (q d room : ℕ) where
  abbrev found : List ℕ
  found = lines_found l q d

  abbrev by_count : Given ℕ
  by_count = unless (leb (length found) room) (refused 14) (gives (length found))

  pub within_refused : {A : Type 0} {t : Bool} → t ≡ (finite q and finite d) → (c : Result A ListRefusal) {why : ListRefusal} (r : Result ℕ ListRefusal) → c ≡ Err why
      → IsErrAnd r (λ z. z ≡ why) → (given_at c then λ _. passed) ≡ lines_checked l t → given_at r ≡ lines_within l q d room
  unfolding lines_within
  within_refused f c r g h e = refused_by (λ _. by_count) c r g h (e ∙ ap (lines_checked l) f)

  -- after the checks, where n lines from `first` on are those found
  module _ {t : Bool} (f : t ≡ (finite q and finite d)) (e : passed ≡ lines_checked l t) (first n : ℕ) (g : range first n ≡ found) where
    count_is : n ≡ length found
    count_is = sym (range_length first n) ∙ ap length g

    counted : by_count ≡ lines_within l q d room
    unfolding lines_within
    counted = passed_by (λ _. by_count) (e ∙ ap (lines_checked l) f)

    pub within_short : room < n → refused 14 ≡ lines_within l q d room
    within_short h = sym (unless_failed _ _ (lt-leb (length found) room (omega (arith, count_is)))) ∙ counted

    pub within_found : n ≤ room → gives n ≡ lines_within l q d room
    within_found h = ap gives count_is ∙ sym (unless_passed _ _ (le-leb (length found) room (omega (arith, count_is)))) ∙ counted

-- a refusal leaves what was lent
pub within_kept : (r : Result ℕ ListRefusal) → IsErr r → (listed old : List ℕ) → old ≡ within_written (given_at r) listed old
within_kept (Ok n) h listed old = absurd (never (sym h))
within_kept (Err (Whole why)) h listed old = refl
within_kept (Err (Entry why index)) h listed old = refl
