-- What lines_within answers and writes, in the words of request 5.
use Rattle.theory.proofs.Prelude.{ℕ, ◌<◌, ◌+◌, true, false, Bool, [], List, ◌∙◌, ap, ◌≡◌, sym, refl, subst, arith, leb, ℤ, pos, length, le_z, ◌<ℤ◌, le-leb, leb-true, leb-false}
use Rattle.theory.specs.Tests.{◌and◌, unless}
use Rattle.theory.proofs.Integers.{above, below, parts_le, parts_eq, le_parts, lt_parts}
use Rattle.theory.proofs.Tests.{unless_passed}
use Rattle.format.specs.Given.{Given, gives, refused, ◌then◌}
use Rattle.format.proofs.Signed.{le_true, make_le}
use Rattle.binary32.specs.Patterns.{finite, pattern_value, pattern_values}
use Rattle.binary32.proofs.PatternValues.{value_at, values_length}
use Rattle.saved_lines.specs.Offsets.{at, distance, is_within}
use Rattle.saved_lines.specs.Positions.{Among}
use Rattle.saved_lines.specs.Lines.{lines_checked, Checked, lines_found, lines_within}
use Rattle.saved_lines.specs.Outcomes as outcomes
use Rattle.saved_lines.specs.Outcomes.{Within, ReachEnds}
use Rattle.saved_lines.proofs.DistanceLaws.{distance_is}
use Rattle.saved_lines.proofs.PositionLists.{position_found, Passing, found_position, positions_none}
use Rattle.saved_lines.proofs.Refusals.{offset, checks_end}

module _ (l : List ℕ) (q d : ℕ) where
  -- ---- the positions found are those of the lines at most the distance away
  pub within_is_found : (n : ℕ) → Within l q d n → Among n (lines_found l q d)
  unfolding is_within
  within_is_found n w =
      let none_before : 0 + n ≡ n = omega arith in
      subst (λ (m : ℕ). Among m (lines_found l q d)) none_before
      (position_found (is_within (pattern_value q) (pattern_value d)) (pos 0) (pattern_values l) 0 n (omega (arith, w.position, values_length l))
      (rw (value_at l n) (make_le (pos (distance (offset l n) (pattern_value q))) (pattern_value d) (le_parts w.near))))

  pub found_is_within : (n : ℕ) → Among n (lines_found l q d) → Within l q d n
  unfolding is_within
  found_is_within n a =
      let p = found_position (is_within (pattern_value q) (pattern_value d)) (pos 0) (pattern_values l) 0 a.place a.inside in
      subst (Within l q d) (sym (p.is ∙ omega arith) ∙ a.is) (passing p)
    where
      passing : {m : ℕ} (p : Passing (is_within (pattern_value q) (pattern_value d)) (pos 0) (pattern_values l) 0 m) → Within l q d p.place
      passing p =
          record {
            position = omega (arith, p.inside, values_length l);
            near = rw (← value_at l p.place) (parts_le (pos (distance (at (pattern_values l) p.place) (pattern_value q))) (pattern_value d) (le_true (pos (distance (at (pattern_values l) p.place) (pattern_value q))) (pattern_value d) p.passes));
          }

  -- a distance below zero finds none
  pub below_zero_none : pattern_value d <ℤ pos 0 → lines_found l q d ≡ []
  unfolding is_within
  below_zero_none h = positions_none (is_within (pattern_value q) (pattern_value d)) (pos 0) 0 (pattern_values l) (λ k m. far (at (pattern_values l) k))
    where
      far : (v : ℤ) → le_z (pos (distance v (pattern_value q))) (pattern_value d) ≡ false
      far v = by (le_z (pos (distance v (pattern_value q))) (pattern_value d)) refl
        where
          by : (t : Bool) → le_z (pos (distance v (pattern_value q))) (pattern_value d) ≡ t → t ≡ false
          by true e = absurd (omega (arith, le_true (pos (distance v (pattern_value q))) (pattern_value d) e, lt_parts h))
          by false e = refl

  -- a distance of zero finds the offsets equal to the query
  pub zero_equal : pattern_value d ≡ pos 0 → (n : ℕ) → Within l q d n → offset l n ≡ pattern_value q
  zero_equal z n w = parts_eq (offset l n) (pattern_value q) (omega (arith, le_parts (rw z at w.near), distance_is (offset l n) (pattern_value q)))

  pub equal_zero : pattern_value d ≡ pos 0 → (n : ℕ) → n < length l → offset l n ≡ pattern_value q → Within l q d n
  equal_zero z n h e =
      record {
        position = h;
        near = rw z (parts_le (pos (distance (offset l n) (pattern_value q))) (pos 0) (omega (arith, distance_is (offset l n) (pattern_value q), ap above e, ap below e)));
      }

pub within_ends : (l : List ℕ) (q d room : ℕ) → ReachEnds l q d room (lines_within l q d room)
unfolding lines_within unless
within_ends l q d room =
    checks_end l (finite q and finite d) (λ _. unless (leb count room) (refused 14) (gives count)) (ReachEnds l q d room) (λ x a. outcomes.reach_refused a)
    (λ c g. by c g (leb count room) refl)
  where
    count : ℕ
    count = length (lines_found l q d)

    by : Checked l → finite q and finite d ≡ true → (t : Bool) → leb count room ≡ t → ReachEnds l q d room (unless t (refused 14) (gives count))
    by c g true e = outcomes.reached c g (leb-true count room e)
    by c g false e = outcomes.too_short c g (leb-false count room e)

-- a distance below zero never gives 14: after the checks it finds none
pub below_zero_answers : (l : List ℕ) (q d room : ℕ) → pattern_value d <ℤ pos 0
    → lines_within l q d room ≡ (lines_checked l (finite q and finite d) then λ _. gives 0)
unfolding lines_within
below_zero_answers l q d room h = ap (λ (x : Given ℕ). lines_checked l (finite q and finite d) then (λ _. x)) none
  where
    count : length (lines_found l q d) ≡ 0
    count = ap length (below_zero_none l q d h)

    none : unless (leb (length (lines_found l q d)) room) (refused 14) (gives (length (lines_found l q d))) ≡ gives 0
    none = unless_passed _ _ (le-leb (length (lines_found l q d)) room (omega (arith, count))) ∙ ap gives count
