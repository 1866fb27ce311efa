-- What a sum of slices answers and writes, in the words of document 01: the lengths (11), the direction (2), then 9 and 5 entry by
-- entry, the lower index first; and each entry that is written is the sum of the two entries that it was made of.
use Rattle.theory.proofs.Prelude.{ℕ, ◌≤◌, ◌<◌, ◌+◌, suc, zero, true, false, Bool, [], List, ⊎_elim, inl, inr, ◌⊎◌, ◌∙◌, ap, ◌≡◌, sym, refl, ap₂, subst, dec_le, add-one, arith, eqb, leb, ℤ, ◌+ℤ◌, length, get_or, drop, length-map, eq-eqb, leb-true, leb-false, eqb-true}
use lib.ListN.{get_or-map, get_or-eq_default}
use Rattle.theory.specs.Tests.{◌and◌, unless}
use Rattle.theory.specs.Lists.{first_where}
use Rattle.theory.specs.declared.Direction.{Direction}
use Rattle.theory.proofs.Tests.{never, and_left, and_right, and_made}
use Rattle.theory.proofs.Lists.{first_before, first_passes}
use Rattle.format.specs.Given.{Given, gives, refused, refused_at, ◌then◌}
use Rattle.format.proofs.GivenLaws.{gives_same, gives_not_refused, gives_not_refused_at}
use Rattle.format.specs.Directions.{is_direction, direction}
use Rattle.format.specs.Published.{binary32}
use Rattle.number.specs.Numbers.{value}
use Rattle.number.specs.declared.Number.{Number}
use Rattle.arithmetic.specs.Operations.{rounded_sum}
use Rattle.arithmetic.specs.Marked.{marked}
use Rattle.arithmetic.specs.Outcomes.{Outcome, given, too_large}
use Rattle.arithmetic.proofs.Outcome.{rounded_z_outcome}
use Rattle.binary32.proofs.Fields.{binary32_limits}
use Rattle.binary32.specs.Patterns.{finite, number_read, pattern_value, pattern_of, answer_written}
use Rattle.binary32_arithmetic.specs.declared.MarkedPattern.{MarkedPattern}
use Rattle.binary32_arithmetic.specs.Calls.{Sum, rounded_written, pattern_alone, on_patterns}
use Rattle.binary32_arithmetic.proofs.CallLaws.{alone}
use Rattle.binary32_arithmetic.specs.Slices.{entry_sum, is_refused, answer_at, written, entries, first_refused, sums, slices_answer, inexact_in, inexact_entries, entry_of, Sums, Inexact, none, exact, more, SameLengths, Ends, lengths_differ, no_direction, refused_entry, all_written}
use Rattle.theory.proofs.Integers.{times_one}
use Rattle.theory.proofs.Marks.{inexact_counted}
use Rattle.arithmetic.proofs.Results.{sum_member}
use Rattle.binary32.proofs.RoundTrips.{reads, written_read}
use Rattle.binary32.proofs.PatternValues.{read_is_value}
use Rattle.binary32_arithmetic.proofs.Passes.{entries_length, entry_at, inexact_step, inexact_end}

-- ---- the entries
-- it is written, or refused by 9 or by 5, without an index: the slice's answer adds that
data Entry : Given ℕ → Type 0 where
  summed : (n : ℕ) → Entry (gives n)
  not_finite_case : Entry (refused 9)
  above_greatest : Entry (refused 5)

entry_ends : (d : Direction) (x y : ℕ) → Entry (entry_sum d x y)
unfolding unless
entry_ends d x y = subst Entry (sym (alone Sum d x y)) (by_finite (finite x and finite y))
  where
    v : ℤ
    v = value binary32 (number_read x) +ℤ value binary32 (number_read y)

    by_outcome : {r : Given Number} → Outcome binary32 d v 1 r → Entry (answer_written r)
    by_outcome (given g) = summed _
    by_outcome (too_large l) = above_greatest

    by_finite : (t : Bool) → Entry (unless t (refused 9) (answer_written (rounded_sum binary32 d (number_read x) (number_read y))))
    by_finite true = by_outcome (rounded_z_outcome binary32_limits d _ v)
    by_finite false = not_finite_case

pub entry_refusals : (d : Direction) (x y : ℕ) {k : ℕ} → entry_sum d x y ≡ refused k → (k ≡ 9) ⊎ (k ≡ 5)
entry_refusals d x y {k} h = by (entry_ends d x y) h
  where
    by : {g : Given ℕ} → Entry g → g ≡ refused k → (k ≡ 9) ⊎ (k ≡ 5)
    by (summed n) e = absurd (gives_not_refused e)
    by not_finite_case e = inl cc
    by above_greatest e = inr cc

never_at : {g : Given ℕ} {k i : ℕ} → Entry g → g ≡ refused_at k i → ⊥
never_at (summed n) e = gives_not_refused_at e
never_at not_finite_case e = let z : ◌≡◌ {A = ℕ} 0 1 = cc in omega arith
never_at above_greatest e = let z : ◌≡◌ {A = ℕ} 0 1 = cc in omega arith

-- there are as many sums as entries
pub sums_length : (d : Direction) (a b : List ℕ) → length a ≡ length b → length (sums d a b) ≡ length a
unfolding sums
sums_length d a b e = length-map (entries d a b) written ∙ entries_length d a b e

-- an entry that is not refused is written
module _ (d : Direction) (a b : List ℕ) (e : length a ≡ length b) where
  sum_at : (i : ℕ) → i < length a → is_refused (get_or (entries d a b) i (gives 0)) ≡ false → entry_of d a b i ≡ gives (get_or (sums d a b) i 0)
  unfolding sums
  sum_at i l h =
      sym (entry_at d a b e i l)
      ∙ by (get_or (entries d a b) i (gives 0)) h
      ∙ ap gives (sym (get_or-map written (entries d a b) i (gives 0)))
    where
      by : (p : Given ℕ) → is_refused p ≡ false → p ≡ gives (written p)
      by (gives n) h = refl
      by (refused k) h = absurd (never h)
      by (refused_at k i) h = absurd (never h)

  sums_upto : (n : ℕ) → n ≤ length a → n ≤ first_where is_refused (entries d a b) → Sums d a b n
  sums_upto n l h i k = sum_at i (omega arith) (first_before is_refused (gives 0) (entries d a b) i (omega arith))

-- ---- marks
-- of an entry that is written, 1 is counted exactly where it is not the exact sum
module _ (d : Direction) (x y : ℕ) where
  pub entry_counted : {n : ℕ} → entry_sum d x y ≡ gives n
      → ((inexact_in (on_patterns Sum d x y) ≡ 0) × (pattern_value n ≡ pattern_value x +ℤ pattern_value y))
      ⊎ ((inexact_in (on_patterns Sum d x y) ≡ 1) × (¬ (pattern_value n ≡ pattern_value x +ℤ pattern_value y)))
  unfolding on_patterns unless marked
  entry_counted {n} h = by_read (finite x and finite y) refl h
    where
      Counted : ℕ → ℕ → Type 0
      Counted c n = ((c ≡ 0) × (pattern_value n ≡ pattern_value x +ℤ pattern_value y)) ⊎ ((c ≡ 1) × (¬ (pattern_value n ≡ pattern_value x +ℤ pattern_value y)))

      sum : Given Number → Given MarkedPattern
      sum g = rounded_written (marked binary32 (value binary32 (number_read x) +ℤ value binary32 (number_read y)) 1 g)

      by_sum : finite x and finite y ≡ true → (g : Given Number) → rounded_sum binary32 d (number_read x) (number_read y) ≡ g → pattern_alone (sum g) ≡ gives n
          → Counted (inexact_in (sum g)) n
      by_sum e (gives z) k w =
          let r = reads (pattern_of z) (written_read z (sum_member binary32_limits d (number_read x) (number_read y) k)) in
          let written : n ≡ pattern_of z = sym (gives_same w) in
          let kept : value binary32 z ≡ pattern_value n = ap (value binary32) r.is ∙ read_is_value (pattern_of z) r.finite ∙ ap pattern_value (sym written) in
          let exact : value binary32 (number_read x) +ℤ value binary32 (number_read y) ≡ pattern_value x +ℤ pattern_value y =
          ap₂ ◌+ℤ◌ (read_is_value x (and_left _ _ e)) (read_is_value y (and_right _ _ e)) in
          rw (kept, exact) (rw (times_one (pattern_value n)) at (inexact_counted (pattern_value n) (pattern_value x +ℤ pattern_value y) 1))
      by_sum e (refused m) k w = absurd (gives_not_refused (sym w))
      by_sum e (refused_at m i) k w = absurd (gives_not_refused_at (sym w))

      by_read : (t : Bool) → finite x and finite y ≡ t → pattern_alone (unless t (refused 9) (sum (rounded_sum binary32 d (number_read x) (number_read y)))) ≡ gives n
          → Counted (inexact_in (unless t (refused 9) (sum (rounded_sum binary32 d (number_read x) (number_read y))))) n
      by_read true e k = by_sum e (rounded_sum binary32 d (number_read x) (number_read y)) refl k
      by_read false e k = absurd (gives_not_refused (sym k))

-- of the first n sums, none refused, as many are not exact as are counted
module _ (d : Direction) (a b : List ℕ) (e : length a ≡ length b) where
  record Upto (n : ℕ) : Type 0 where
    count : ℕ
    inexact : Inexact d a b n count
    rest : count + inexact_entries d (drop n a) (drop n b) ≡ inexact_entries d a b

  upto : (n : ℕ) → n ≤ length a → Sums d a b n → Upto n
  upto zero l s = record { count = 0; inexact = none; rest = omega arith }
  upto (suc n) l s =
      let u = upto n (omega arith) (λ i k. s i (omega arith)) in
      let t : inexact_entries d (drop n a) (drop n b) ≡ inexact_in (on_patterns Sum d (get_or a n 0) (get_or b n 0)) + inexact_entries d (drop (suc n) a) (drop (suc n) b) =
      rw add-one at (inexact_step d n a b (omega arith) e) in
      ⊎_elim
      (λ k. record { count = u.count; inexact = exact u.inexact k.1; rest = omega (arith, u.rest, t, k.0) })
      (λ k. record { count = suc u.count; inexact = more u.inexact k.1; rest = omega (arith, u.rest, t, k.0) })
      (entry_counted d (get_or a n 0) (get_or b n 0) (s n (omega arith)))

  pub inexact_counts : Sums d a b (length a) → Inexact d a b (length a) (inexact_entries d a b)
  inexact_counts s =
      let u = upto (length a) (omega arith) s in
      subst (Inexact d a b (length a)) (omega (arith, u.rest, inexact_end d (length a) a b refl)) u.inexact

-- ---- the call
pub slices_end : (d : ℕ) (a b out : List ℕ) → Ends d a b out (slices_answer d a b out)
unfolding slices_answer is_direction unless first_refused
slices_end d a b out = by_lengths (eqb (length a) (length b) and eqb (length a) (length out)) refl
  where
    first : ℕ
    first = first_where is_refused (entries (direction d) a b)

    counted : Given Unit → Given ℕ
    counted g = g then (λ done. gives (inexact_entries (direction d) a b))

    by_entry : SameLengths a b out → d ≤ 4 → first < length a → (p : Given ℕ) → get_or (entries (direction d) a b) first (gives 0) ≡ p
        → Ends d a b out (counted (answer_at p first))
    by_entry l h m (gives n) e =
        absurd (never (sym (first_passes is_refused (gives 0) (entries (direction d) a b) (omega (arith, entries_length (direction d) a b l.0))) ∙ ap is_refused e))
    by_entry l h m (refused_at k i) e = absurd (never_at (entry_ends (direction d) (get_or a first 0) (get_or b first 0)) (sym (entry_at (direction d) a b l.0 first m) ∙ e))
    by_entry l h m (refused k) e =
        refused_entry l h
        (record {
          within = m;
          refused = sym (entry_at (direction d) a b l.0 first m) ∙ e;
          earlier = sums_upto (direction d) a b l.0 first (omega arith) (omega arith);
        })
        refl

    by_first : SameLengths a b out → d ≤ 4 → Dec (length a ≤ first) → Ends d a b out (counted (first_refused (entries (direction d) a b)))
    by_first l h (yes m) =
        let past : length (entries (direction d) a b) ≤ first = omega (arith, entries_length (direction d) a b l.0) in
        let all = sums_upto (direction d) a b l.0 (length a) (omega arith) m in
        all_written l h all (inexact_counts (direction d) a b l.0 all)
        (ap (λ (p : Given ℕ). counted (answer_at p first)) (get_or-eq_default (entries (direction d) a b) (gives 0) past))
    by_first l h (no m) = by_entry l h (omega arith) (get_or (entries (direction d) a b) first (gives 0)) refl

    by_direction : SameLengths a b out → (t : Bool) → leb d 4 ≡ t
        → Ends d a b out (unless t (refused 2) (counted (first_refused (entries (direction d) a b))))
    by_direction l true h = by_first l (leb-true d 4 h) (dec_le (length a) first)
    by_direction l false h = no_direction l (leb-false d 4 h) refl

    by_lengths : (t : Bool) → eqb (length a) (length b) and eqb (length a) (length out) ≡ t
        → Ends d a b out (unless t (refused 11) (unless (leb d 4) (refused 2) (counted (first_refused (entries (direction d) a b)))))
    by_lengths true h = by_direction (eqb-true _ _ (and_left _ _ h), eqb-true _ _ (and_right _ _ h)) (leb d 4) refl
    by_lengths false h = lengths_differ (λ l. never (sym (and_made (eq-eqb _ _ l.0) (eq-eqb _ _ l.1)) ∙ h)) refl

-- three empty slices: the direction alone is examined
pub empty_slices : (d : ℕ) → slices_answer d [] [] [] ≡ unless (is_direction d) (refused 2) (gives 0)
unfolding slices_answer first_refused entries inexact_entries ◌and◌ unless first_where
empty_slices d = refl
