-- What a list of patterns says of the list of its values: whether it descends or repeats, and what a list that passed the checks has.
use Rattle.theory.proofs.Prelude.{ℕ, ◌≤◌, ◌<◌, suc, true, false, Bool, not, List, ◌∙◌, ◌≡◌, sym, ap₂, arith, pos, length, get_or, lt_z, ℤ, not-true, not-false, add-one}
use Rattle.theory.specs.Lists.{some_neighbours}
use Rattle.theory.proofs.Lists.{neighbours_made, no_neighbours}
use Rattle.std.specs.List.{IsAllAdjacentAnswer}
use Rattle.format.proofs.Signed.{Upto, make_lt}
use Rattle.binary32.specs.Patterns.{pattern_value, pattern_values}
use Rattle.binary32.proofs.PatternValues.{value_at, values_length}
use Rattle.saved_lines.specs.Offsets.{falls, descends, equals, repeats}
use Rattle.saved_lines.specs.Lines.{Checked}
use Rattle.saved_lines.proofs.NearestLaws.{Rising, rises_strictly, rising_upto}

-- no offset is above a later one
abbrev pub Ascending : List ℕ → Type 0
Ascending l = (j k : ℕ) → j ≤ k → k < length l → Upto (pattern_value (get_or l j 0)) (pattern_value (get_or l k 0))

-- a test of each offset and the next that was told: none passes, or some pass does
module _ (l : List ℕ) where
  told_neighbours : (test : ℤ → ℤ → Bool) (r : Bool) → IsAllAdjacentAnswer (λ v w t. t ≡ not (test (pattern_value v) (pattern_value w))) l r
      → not r ≡ some_neighbours test (pattern_values l)
  told_neighbours test true h =
      sym (no_neighbours test (pos 0) (pattern_values l) (λ k m. ap₂ test (value_at l k) (value_at l (suc k)) ∙ not-true _ (sym (rw add-one at (h k 0 (omega (arith, values_length l)))))))
  told_neighbours test false (k, m, h) =
      sym (neighbours_made test (pos 0) (pattern_values l) k (omega (arith, values_length l)) (ap₂ test (value_at l k) (value_at l (suc k)) ∙ not-false _ (sym (rw add-one at (h 0)))))

  pub told_descends : (r : Bool) → IsAllAdjacentAnswer (λ v w t. t ≡ not (falls (pattern_value v) (pattern_value w))) l r → not r ≡ descends (pattern_values l)
  unfolding descends
  told_descends r h = told_neighbours falls r h

  pub told_repeats : (r : Bool) → IsAllAdjacentAnswer (λ v w t. t ≡ not (equals (pattern_value v) (pattern_value w))) l r → not r ≡ repeats (pattern_values l)
  unfolding repeats
  told_repeats r h = told_neighbours equals r h

  -- a list that passed the checks
  module _ (c : Checked l) where
    pub offsets_rise : Rising (pattern_values l)
    offsets_rise = rises_strictly (pattern_values l) c.order c.strict

    pub rising_strictly : (j k : ℕ) → j < k → k < length l → lt_z (pattern_value (get_or l j 0)) (pattern_value (get_or l k 0)) ≡ true
    rising_strictly j k h m =
        make_lt (pattern_value (get_or l j 0)) (pattern_value (get_or l k 0)) (rw (← value_at l j, ← value_at l k) (offsets_rise j k h (omega (arith, values_length l))))

    pub rising : Ascending l
    rising j k h m = rw (← value_at l j, ← value_at l k) (rising_upto (pattern_values l) offsets_rise j k h (omega (arith, values_length l)))
