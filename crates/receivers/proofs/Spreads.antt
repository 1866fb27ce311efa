-- The extremes of a list as the code finds them, and spreads compared by sums.
use Rattle.theory.proofs.Prelude.{ℕ, ◌≤◌, ◌<◌, ◌+◌, true, false, Bool, cond, [], ◌∷◌, List, ◌∙◌, ap, ◌≡◌, sym, refl, ap₂, add-one, arith, ℤ, ◌+ℤ◌, ◌-ℤ◌, length, get_or, drop, take, drop-cons, lt_z, le_z, subst, ◌-◌}
use lib.ListN.{drop_of_length-le}
use Rattle.theory.proofs.Integers.{sum_parts, diff_parts}
use Rattle.format.proofs.Signed.{le_true, le_false}
use Rattle.binary32.specs.Patterns.{finite, pattern_value, pattern_values}
use Rattle.binary32.proofs.PatternValues.{all_finite, later_entry}
use Rattle.receivers.specs.declared.Extremes.{Extremes}
use Rattle.receivers.specs.Stretches.{greater, lesser, greatest_from, least_from, greatest_of, least_of, spread, calm_as}
use Rattle.receivers.specs.Spreads.{ExtremesOf, Logged}

-- ---- two differences are in the order of two sums
differences : (g l i m : ℤ) → le_z (g +ℤ m) (i +ℤ l) ≡ le_z (g -ℤ l) (i -ℤ m)
differences g l i m = by (le_z (g +ℤ m) (i +ℤ l)) (le_z (g -ℤ l) (i -ℤ m)) refl refl
  where
    by : (s t : Bool) → le_z (g +ℤ m) (i +ℤ l) ≡ s → le_z (g -ℤ l) (i -ℤ m) ≡ t → s ≡ t
    by true true hs ht = refl
    by false false hs ht = refl
    by true false hs ht =
        absurd (omega (arith, le_true (g +ℤ m) (i +ℤ l) hs, le_false (g -ℤ l) (i -ℤ m) ht, sum_parts g m, sum_parts i l, diff_parts g l, diff_parts i m))
    by false true hs ht =
        absurd (omega (arith, le_false (g +ℤ m) (i +ℤ l) hs, le_true (g -ℤ l) (i -ℤ m) ht, sum_parts g m, sum_parts i l, diff_parts g l, diff_parts i m))

pub calm_told : (first second : List ℕ) {a b : Extremes} {t : Bool} → ExtremesOf first a → ExtremesOf second b
    → t ≡ le_z (pattern_value a.greatest +ℤ pattern_value b.least) (pattern_value b.greatest +ℤ pattern_value a.least) → t ≡ calm_as first second
unfolding calm_as spread
calm_told first second {a} {b} x y e =
    e
    ∙ differences (pattern_value a.greatest) (pattern_value a.least) (pattern_value b.greatest) (pattern_value b.least)
    ∙ ap₂ le_z (ap₂ ◌-ℤ◌ x.greatest_is x.least_is) (ap₂ ◌-ℤ◌ y.greatest_is y.least_is)

-- ---- the value that a branch hands back
pub taken_is : {t r : Bool} (x y : ℕ) → r ≡ t → r ≡ true → x ≡ cond t x y
taken_is x y e h = rw (sym e ∙ h)

pub left_is : {t r : Bool} (x y : ℕ) → r ≡ t → r ≡ false → y ≡ cond t x y
left_is x y e h = rw (sym e ∙ h)

-- ---- the loop: what is left, from what was found, answers what the whole list answers
pub record Reached (l : List ℕ) (i m n : ℕ) : Type 0 where
  pub least_is : least_from (pattern_value m) (pattern_values (drop i l)) ≡ least_of (pattern_values l)
  pub greatest_is : greatest_from (pattern_value n) (pattern_values (drop i l)) ≡ greatest_of (pattern_values l)
  pub least_finite : finite m ≡ true
  pub greatest_finite : finite n ≡ true

first_least : (l : List ℕ) → 1 ≤ length l → least_from (pattern_value (get_or l 0 0)) (pattern_values (drop 1 l)) ≡ least_of (pattern_values l)
unfolding least_of
first_least [] h = absurd (omega arith)
first_least (x ∷ xs) h = refl

first_greatest : (l : List ℕ) → 1 ≤ length l → greatest_from (pattern_value (get_or l 0 0)) (pattern_values (drop 1 l)) ≡ greatest_of (pattern_values l)
unfolding greatest_of
first_greatest [] h = absurd (omega arith)
first_greatest (x ∷ xs) h = refl

pub reached_first : (l : List ℕ) → Logged l → Reached l 1 (get_or l 0 0) (get_or l 0 0)
reached_first l h =
    record {
      least_is = first_least l h.some;
      greatest_is = first_greatest l h.some;
      least_finite = all_finite l h.finite 0 h.some;
      greatest_finite = all_finite l h.finite 0 h.some;
    }

chosen : (t : Bool) (x m : ℕ) → pattern_value (cond t x m) ≡ cond t (pattern_value x) (pattern_value m)
chosen true x m = refl
chosen false x m = refl

chosen_finite : (t : Bool) (x m : ℕ) → finite x ≡ true → finite m ≡ true → finite (cond t x m) ≡ true
chosen_finite true x m h g = h
chosen_finite false x m h g = g

module _ (l : List ℕ) (i : ℕ) (b : i < length l) where
  abbrev here : ℕ
  here = get_or l i 0

  least_step : (v : ℤ) → least_from v (pattern_values (drop i l)) ≡ least_from (lesser v (pattern_value here)) (pattern_values (drop (i + 1) l))
  unfolding least_from
  least_step v = rw (add-one, drop-cons l i 0)

  greatest_step : (v : ℤ) → greatest_from v (pattern_values (drop i l)) ≡ greatest_from (greater v (pattern_value here)) (pattern_values (drop (i + 1) l))
  unfolding greatest_from
  greatest_step v = rw (add-one, drop-cons l i 0)

  reached_more : (m n : ℕ) → Logged l → Reached l i m n → {m' n' : ℕ} → m' ≡ cond (lt_z (pattern_value here) (pattern_value m)) here m
      → n' ≡ cond (lt_z (pattern_value n) (pattern_value here)) here n → Reached l (i + 1) m' n'
  reached_more m n h r {m'} {n'} e f =
      record {
        least_is =
            ap (λ (v : ℤ). least_from v (pattern_values (drop (i + 1) l))) (ap pattern_value e ∙ chosen (lt_z (pattern_value here) (pattern_value m)) here m)
            ∙ sym (least_step (pattern_value m))
            ∙ r.least_is;
        greatest_is =
            ap (λ (v : ℤ). greatest_from v (pattern_values (drop (i + 1) l))) (ap pattern_value f ∙ chosen (lt_z (pattern_value n) (pattern_value here)) here n)
            ∙ sym (greatest_step (pattern_value n))
            ∙ r.greatest_is;
        least_finite = rw e (chosen_finite (lt_z (pattern_value here) (pattern_value m)) _ _ (all_finite l h.finite i b) r.least_finite);
        greatest_finite = rw f (chosen_finite (lt_z (pattern_value n) (pattern_value here)) _ _ (all_finite l h.finite i b) r.greatest_finite);
      }

-- one more entry of `patterns[1..]`
pub reached_item : (l : List ℕ) (i m n : ℕ) → i < length (take (length l - 1) (drop 1 l)) → Logged l → Reached l (i + 1) m n → {m' n' : ℕ}
    → let x = get_or (take (length l - 1) (drop 1 l)) i 0 in
    m' ≡ cond (lt_z (pattern_value x) (pattern_value m)) x m → n' ≡ cond (lt_z (pattern_value n) (pattern_value x)) x n → Reached l (i + 1 + 1) m' n'
reached_item l i m n h g r {m'} {n'} =
    subst
    (λ (x : ℕ). m' ≡ cond (lt_z (pattern_value x) (pattern_value m)) x m → n' ≡ cond (lt_z (pattern_value n) (pattern_value x)) x n → Reached l (i + 1 + 1) m' n')
    (sym (later_entry l i h).1)
    (reached_more l (i + 1) (later_entry l i h).0 m n g r)

pub reached_all : (l : List ℕ) (i m n : ℕ) → length l ≤ i → Reached l i m n → ExtremesOf l (record { least = m; greatest = n })
unfolding least_from greatest_from
reached_all l i m n h r =
    let none : drop i l ≡ [] = drop_of_length-le l h in
    record {
      least_is = ap (λ (xs : List ℕ). least_from (pattern_value m) (pattern_values xs)) (sym none) ∙ r.least_is;
      greatest_is = ap (λ (xs : List ℕ). greatest_from (pattern_value n) (pattern_values xs)) (sym none) ∙ r.greatest_is;
      least_finite = r.least_finite;
      greatest_finite = r.greatest_finite;
    }
