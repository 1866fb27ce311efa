-- The tests of a binary search: on a list that ascends they pass from some position on, which the search finds.
use Rattle.theory.proofs.Prelude.{ℕ, ◌≤◌, ◌<◌, ◌+◌, ◌-◌, true, false, Bool, not, List, ◌∙◌, ap, ◌≡◌, sym, refl, arith, ℤ, pos, ◌+ℤ◌, length, get_or, drop, take, lt_z, le_z, length-drop, not-true, not-false}
use lib.Seq.{get_or-take, get_or-drop, length-take-le}
use Rattle.std.proofs.lemmas.List.{get_or_default}
use Rattle.std.proofs.lemmas.List.Sorted.{IsPartitionPoint-from_clause}
use Rattle.std.specs.Fn.{Called, ComputesKey}
use Rattle.std.specs.List.Sorted.{IsPartitionedBy, IsPartitionPoint}
use denote.Param.Members.{Mut}
use denote.Ref.{Bor}
use Rattle.theory.specs.Lists.{first_where}
use Rattle.theory.proofs.Integers.{sum_parts, parts_eq}
use Rattle.theory.proofs.Lists.{first_before, first_passes, first_most, first_between}
use Rattle.theory.proofs.Tests.{never}
use Rattle.binary32.specs.Patterns.{pattern_value}
use Rattle.binary32.proofs.PatternValues.{zero_value}
use Rattle.format.proofs.Signed.{Upto, Under, le_true, le_false, lt_true, lt_false, make_le, make_ge}
use Rattle.saved_lines.specs.Searches.{at_least, reaching, beyond}
use Rattle.saved_lines.proofs.Offsets.{Ascending}

make_gt : (a b : ℤ) → Under b a → le_z a b ≡ false
make_gt a b h = by (le_z a b) refl
  where
    by : (t : Bool) → le_z a b ≡ t → t ≡ false
    by true e = absurd (omega (arith, le_true a b e))
    by false e = refl

not_made : {t : Bool} → t ≡ false → not t ≡ true
not_made e = ap not e

not_not : (t : Bool) → t ≡ not (not t)
not_not true = refl
not_not false = refl

-- ---- a greater offset passes too
pub record Later (test : ℕ → Bool) : Type 0 where
  pub later : (m n : ℕ) → Upto (pattern_value m) (pattern_value n) → test m ≡ true → test n ≡ true

pub later_at_least : (x : ℕ) → Later (at_least x)
unfolding at_least
later_at_least x =
    record { later = λ m n h t. not_made (make_ge (pattern_value n) (pattern_value x) (omega (arith, lt_false (pattern_value m) (pattern_value x) (not-true _ t)))) }

pub later_reaching : (q r : ℕ) → Later (reaching q r)
unfolding reaching
later_reaching q r =
    record {
      later = λ m n h t.
          make_le (pattern_value q) (pattern_value n +ℤ pattern_value r)
          (omega (arith, le_true (pattern_value q) (pattern_value m +ℤ pattern_value r) t, sum_parts (pattern_value m) (pattern_value r), sum_parts (pattern_value n) (pattern_value r)));
    }

pub later_beyond : (q r : ℕ) → Later (beyond q r)
unfolding beyond
later_beyond q r =
    record {
      later = λ m n h t.
          not_made (make_gt (pattern_value n) (pattern_value q +ℤ pattern_value r) (omega (arith, le_false (pattern_value m) (pattern_value q +ℤ pattern_value r) (not-true _ t))));
    }

-- ---- on a list that ascends
module _ (l : List ℕ) (u : Ascending l) {test : ℕ → Bool} (s : Later test) where
  -- from the first position that passes on, all pass
  pub from_first : (k : ℕ) → first_where test l ≤ k → k < length l → test (get_or l k 0) ≡ true
  from_first k h m = s.later _ _ (u (first_where test l) k h m) (first_passes test 0 l (omega arith))

  parted : IsPartitionedBy (λ n. not (test n)) l
  parted i j d h m t = by (test (get_or l i d)) refl
    where
      at : (k : ℕ) → k < length l → get_or l k d ≡ get_or l k 0
      at k a = get_or_default l k d 0 a

      by : (b : Bool) → test (get_or l i d) ≡ b → not b ≡ true
      by false e = refl
      by true e = absurd (never (sym (ap test (at j m) ∙ s.later _ _ (u i j h m) (sym (ap test (at i (omega arith))) ∙ e)) ∙ not-true _ t))

  -- the search for the last that fails finds it
  pub searched : {F : Type 0} {g : Mut F (Bor ℕ × Unit {0}) Bool} {f : F} {i : ℕ} → i ≤ length l
      → ((p : ℕ → Bool) → ComputesKey g p f → IsPartitionedBy p l → IsPartitionPoint (λ n. p n ≡ true) (λ n. p n ≡ false) l i)
      → ((a : Bor ℕ × Unit {0}) (r : Bool) (f' : F) → Called g f a r f' → (r ≡ not (test a.0.now)) × (f' ≡ f)) → i ≡ first_where test l
  searched {i = i} h clause told =
      let point = IsPartitionPoint-from_clause (λ n. not (test n)) l i clause parted told in
      sym (first_between test 0 l i h (λ k m. not-true _ (point.0 k 0 (omega arith) m)) (λ k a m. not-false _ (point.1 k 0 a m)))

-- ---- on a part of it: the m offsets from the n-th on
-- those before the i-th of the part fail, and the others pass
pub record Parted (l : List ℕ) (test : ℕ → Bool) (n i m : ℕ) : Type 0 where
  pub most : i ≤ m
  pub fails : (k : ℕ) → n ≤ k → k < n + i → test (get_or l k 0) ≡ false
  pub passes : (k : ℕ) → n + i ≤ k → k < n + m → test (get_or l k 0) ≡ true

module _ (l : List ℕ) (n m : ℕ) (h : n + m ≤ length l) where
  abbrev part : List ℕ
  part = take m (drop n l)

  part_length : length part ≡ m
  part_length = length-take-le m (drop n l) (omega (arith, length-drop n l))

  part_at : (k : ℕ) → k < m → get_or part k 0 ≡ get_or l (n + k) 0
  part_at k b = get_or-take m (drop n l) k 0 b ∙ get_or-drop n l k 0

  module _ (u : Ascending l) {test : ℕ → Bool} (s : Later test) where
    part_rising : Ascending part
    part_rising j k a b =
        rw (part_at j (omega (arith, part_length)), part_at k (omega (arith, part_length))) (u (n + j) (n + k) (omega arith) (omega (arith, part_length)))

    first_parts : {i : ℕ} → i ≡ first_where test part → Parted l test n i m
    first_parts {i} e =
        record {
          most = most;
          fails = λ k a b. at k a (omega (arith, most)) ∙ first_before test 0 part (k - n) (omega arith);
          passes = λ k a b. at k (omega arith) b ∙ from_first part part_rising s (k - n) (omega arith) (omega (arith, part_length));
        }
      where
        most : i ≤ m
        most = omega (arith, first_most test 0 part, part_length)

        at : (k : ℕ) → n ≤ k → k < n + m → test (get_or l k 0) ≡ test (get_or part (k - n) 0)
        at k a b =
            let f : n + (k - n) ≡ k = omega arith in
            ap (λ (j : ℕ). test (get_or l j 0)) (sym f) ∙ ap test (sym (part_at (k - n) (omega arith)))

    pub searched_part : {F : Type 0} {g : Mut F (Bor ℕ × Unit {0}) Bool} {f : F} {i : ℕ} → i ≤ length part
        → ((p : ℕ → Bool) → ComputesKey g p f → IsPartitionedBy p part → IsPartitionPoint (λ n. p n ≡ true) (λ n. p n ≡ false) part i)
        → ((a : Bor ℕ × Unit {0}) (r : Bool) (f' : F) → Called g f a r f' → (r ≡ not (test a.0.now)) × (f' ≡ f)) → Parted l test n i m
    searched_part b clause told = first_parts (searched part part_rising s b clause told)

-- ---- the test that was told: a number is compared as its sum with zero
plus_zero : (n : ℕ) → pattern_value n +ℤ pattern_value 0 ≡ pattern_value n
plus_zero n =
    ap (λ (z : ℤ). pattern_value n +ℤ z) zero_value
    ∙ parts_eq (pattern_value n +ℤ pos 0) (pattern_value n) (omega (arith, sum_parts (pattern_value n) (pos 0)))

pub told_at_least : (x n : ℕ) {t : Bool} → t ≡ lt_z (pattern_value n) (pattern_value x) → t ≡ not (at_least x n)
unfolding at_least
told_at_least x n h = h ∙ not_not _

pub told_reaching : (q r n : ℕ) {t : Bool} → t ≡ not (le_z (pattern_value q +ℤ pattern_value 0) (pattern_value n +ℤ pattern_value r)) → t ≡ not (reaching q r n)
unfolding reaching
told_reaching q r n h = h ∙ ap (λ (v : ℤ). not (le_z v (pattern_value n +ℤ pattern_value r))) (plus_zero q)

pub told_beyond : (q r n : ℕ) {t : Bool} → t ≡ le_z (pattern_value n +ℤ pattern_value 0) (pattern_value q +ℤ pattern_value r) → t ≡ not (beyond q r n)
unfolding beyond
told_beyond q r n h = h ∙ ap (λ (v : ℤ). le_z v (pattern_value q +ℤ pattern_value r)) (plus_zero n) ∙ not_not _

-- ---- what the first test says of the values
module _ (x n : ℕ) where
  pub below_number : at_least x n ≡ false → Under (pattern_value n) (pattern_value x)
  unfolding at_least
  below_number h = lt_true (pattern_value n) (pattern_value x) (not-false _ h)

  pub from_number : at_least x n ≡ true → Upto (pattern_value x) (pattern_value n)
  unfolding at_least
  from_number h = lt_false (pattern_value n) (pattern_value x) (not-true _ h)
