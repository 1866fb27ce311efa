-- What the checks turn away, in their order: each refusal with what holds where it comes and no earlier one does.
use Rattle.theory.proofs.Prelude.{ℕ, ◌≤◌, ◌<◌, suc, true, false, Bool, not, List, inl, inr, ◌⊎◌, ◌∙◌, ◌≡◌, sym, refl, dec_le, arith, leb, ℤ, pos, length, get_or, lt_z, le-leb, leb-true, leb-false, not-true}
use Rattle.theory.specs.Lists.{first_where, none}
use Rattle.theory.specs.Tests.{◌and◌, unless}
use Rattle.theory.proofs.Integers.{parts_le, parts_lt, parts_eq}
use Rattle.theory.proofs.Lists.{first_before, first_passes, Neighbours, some_neighbours_law, neighbours_fail}
use Rattle.theory.proofs.Tests.{never, and_left, and_right, and_made}
use Rattle.format.specs.Given.{Given, refused, refused_at, ◌then◌}
use Rattle.format.proofs.Signed.{lt_true, lt_false}
use Rattle.binary32.specs.Patterns.{finite, not_finite, pattern_values}
use Rattle.binary32.proofs.PatternValues.{finite_made, finite_fails, all_finite, value_at, values_length}
use Rattle.saved_lines.specs.Offsets.{at, falls, descends, equals, repeats}
use Rattle.saved_lines.specs.Lines.{passed, patterns_checked, ascent_checked, lines_checked, Checked}
pub use Rattle.saved_lines.specs.Outcomes.{offset, Allowed, AllFinite, Descent, Ascends, Repetition, ListRefused, wrong_length, bad_pattern, bad_number, descending, repeating}
use Rattle.saved_lines.proofs.NearestLaws.{descends_made, repeats_made}

module _ (l : List ℕ) where
  wrong : leb 1 (length l) and leb (length l) 4096 ≡ false → (length l ≡ 0) ⊎ (4096 < length l)
  wrong h = by (dec_le 1 (length l)) (dec_le (length l) 4096)
    where
      by : Dec (1 ≤ length l) → Dec (length l ≤ 4096) → (length l ≡ 0) ⊎ (4096 < length l)
      by (no a) b = inl (omega arith)
      by (yes a) (no b) = inr (omega arith)
      by (yes a) (yes b) = absurd (never (sym (and_made (le-leb 1 (length l) a) (le-leb (length l) 4096 b)) ∙ h))

  allowed : leb 1 (length l) and leb (length l) 4096 ≡ true → Allowed l
  allowed h = record { some = leb-true 1 (length l) (and_left _ _ h); most = leb-true (length l) 4096 (and_right _ _ h) }

  pub finite_before : AllFinite l (first_where not_finite l)
  finite_before k h = finite_made (get_or l k 0) (first_before not_finite 0 l k h)

  pub bad_there : none not_finite l ≡ false → first_where not_finite l < length l
  unfolding none
  bad_there h = leb-false (length l) (first_where not_finite l) h

  pub bad_first : none not_finite l ≡ false → finite (get_or l (first_where not_finite l) 0) ≡ false
  bad_first h = finite_fails (get_or l (first_where not_finite l) 0) (first_passes not_finite 0 l (bad_there h))

  -- 13 exactly where some offset is above the next
  pub descent : descends (pattern_values l) ≡ true → Descent l
  unfolding descends falls
  descent h = by (some_neighbours_law falls (pos 0) (pattern_values l) h)
    where
      by : Neighbours falls (pos 0) (pattern_values l) → Descent l
      by n =
          record {
            place = n.place;
            inside = omega (arith, n.inside, values_length l);
            falls =
                rw (← value_at l (suc n.place), ← value_at l n.place)
                (parts_lt (at (pattern_values l) (suc n.place)) (at (pattern_values l) n.place) (lt_true (at (pattern_values l) (suc n.place)) (at (pattern_values l) n.place) n.passes));
          }

  pub descent_descends : Descent l → descends (pattern_values l) ≡ true
  descent_descends d =
      descends_made (pattern_values l) d.place (omega (arith, d.inside, values_length l)) (rw (value_at l (suc d.place), value_at l d.place) d.falls)

  no_descent : descends (pattern_values l) ≡ false → Ascends l
  unfolding descends falls
  no_descent h k m =
      rw (← value_at l (suc k), ← value_at l k)
      (parts_le (at (pattern_values l) k) (at (pattern_values l) (suc k)) (lt_false (at (pattern_values l) (suc k)) (at (pattern_values l) k) (neighbours_fail falls (pos 0) (pattern_values l) h k (omega (arith, values_length l)))))

  -- 15 exactly where none is and two neighbours are equal
  pub repetition : repeats (pattern_values l) ≡ true → Repetition l
  unfolding repeats equals
  repetition h = by (some_neighbours_law equals (pos 0) (pattern_values l) h)
    where
      same : (v w : ℤ) → not (lt_z v w) and not (lt_z w v) ≡ true → v ≡ w
      same v w h = parts_eq v w (omega (arith, lt_false v w (not-true _ (and_left _ _ h)), lt_false w v (not-true _ (and_right _ _ h))))

      by : Neighbours equals (pos 0) (pattern_values l) → Repetition l
      by n =
          record {
            place = n.place;
            inside = omega (arith, n.inside, values_length l);
            equal = sym (value_at l n.place) ∙ same (at (pattern_values l) n.place) (at (pattern_values l) (suc n.place)) n.passes ∙ value_at l (suc n.place);
          }

  pub repetition_repeats : Repetition l → repeats (pattern_values l) ≡ true
  repetition_repeats r =
      repeats_made (pattern_values l) r.place (omega (arith, r.inside, values_length l)) (value_at l r.place ∙ r.equal ∙ sym (value_at l (suc r.place)))

-- what follows the checks, if nothing is turned away
pub checks_end : {A : Type 0} (l : List ℕ) (t : Bool) (next : Unit {0} → Given A) (E : Given A → Type 0)
    → ((x : Given A) → ListRefused l t x → E x) → (Checked l → t ≡ true → E (next tt)) → E (lines_checked l t then next)
unfolding lines_checked patterns_checked ascent_checked unless
checks_end l t next E away go_on = by (leb 1 (length l) and leb (length l) 4096) (none not_finite l) t (descends (pattern_values l)) (repeats (pattern_values l)) refl refl refl refl refl
  where
    by : (a b c d r : Bool) → leb 1 (length l) and leb (length l) 4096 ≡ a → none not_finite l ≡ b → t ≡ c → descends (pattern_values l) ≡ d → repeats (pattern_values l) ≡ r
        → E
        (unless a (refused 12) (unless b (refused_at 9 (first_where not_finite l)) (unless c (refused 9) (unless (not d) (refused 13) (unless (not r) (refused 15) passed))))
        then next)
    by false b c d r e f g h i = away (refused 12) (wrong_length (wrong l e))
    by true false c d r e f g h i =
        away (refused_at 9 (first_where not_finite l)) (bad_pattern (allowed l e) (bad_there l f) (bad_first l f) (finite_before l))
    by true true false d r e f g h i = away (refused 9) (bad_number (allowed l e) (all_finite l f) g)
    by true true true true r e f g h i = away (refused 13) (descending (allowed l e) (all_finite l f) g (descent l h))
    by true true true false true e f g h i = away (refused 15) (repeating (allowed l e) (all_finite l f) g (no_descent l h) (repetition l i))
    by true true true false false e f g h i = go_on (record { some = (allowed l e).some; most = (allowed l e).most; finite = f; order = h; strict = i }) g
