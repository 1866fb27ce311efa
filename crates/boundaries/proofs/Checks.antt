-- The checks of a call on any lists, one after the other, and what `rests` holds after each.
use Rattle.theory.proofs.Prelude.{ℕ, ◌≤◌, ◌<◌, suc, true, false, List, ◌∙◌, ap, ◌≡◌, sym, leb, length, ne_eqb, eq-eqb, le-leb, lt-leb, leb-true}
use Rattle.theory.specs.Tests.{◌and◌}
use Rattle.theory.specs.Lists.{first_where, none}
use Rattle.theory.specs.declared.Direction.{Direction}
use Rattle.theory.proofs.Tests.{and_left, and_right, and_made, refuted, unless_passed, unless_failed}
use Rattle.format.specs.Given.{Given, gives, refused, refused_at}
use Rattle.format.specs.Directions.{is_direction, direction}
use Rattle.binary32.specs.Patterns.{not_finite}
use Rattle.boundaries.specs.Sums.{boundary_steps, last_x, rests_of, first_of, strips_summed, boundary_answer, written_where, boundary_rests}

module _ (d : ℕ) (strips rests : List ℕ) where
  -- both promises of a call that gives g
  pub ends_with : {g : Given ℕ} → g ≡ boundary_answer d strips rests
      → (g ≡ boundary_answer d strips rests) × (written_where g (rests_of (boundary_steps (direction d) strips)) rests ≡ boundary_rests d strips rests)
  unfolding boundary_rests
  ends_with e = (e, ap (λ (g : Given ℕ). written_where g (rests_of (boundary_steps (direction d) strips)) rests) e)

  pub miscounted : ((1 ≤ length strips) × (length strips ≤ 4096) → ⊥) → refused 18 ≡ boundary_answer d strips rests
  unfolding boundary_answer
  miscounted h = sym (unless_failed _ _ (sym (refuted (λ e. h (leb-true _ _ (and_left _ _ e), leb-true _ _ (and_right (leb 1 (length strips)) _ e))))))

  module _ (some : 1 ≤ length strips) (few : length strips ≤ 4096) where
    number : leb 1 (length strips) and leb (length strips) 4096 ≡ true
    number = and_made (le-leb _ _ some) (le-leb _ _ few)

    pub second_differs : (suc (length rests) ≡ length strips → ⊥) → refused 11 ≡ boundary_answer d strips rests
    unfolding boundary_answer
    second_differs h = sym (unless_passed _ _ number ∙ unless_failed _ _ (ne_eqb _ _ h))

    module _ (second : suc (length rests) ≡ length strips) where
      pub no_direction : is_direction d ≡ false → refused 2 ≡ boundary_answer d strips rests
      unfolding boundary_answer
      no_direction h = sym (unless_passed _ _ number ∙ unless_passed _ _ (eq-eqb _ _ second) ∙ unless_failed _ _ h)

      module _ (directed : is_direction d ≡ true) where
        pub not_finite_case : first_where not_finite strips < length strips → refused_at 9 (first_where not_finite strips) ≡ boundary_answer d strips rests
        unfolding boundary_answer none
        not_finite_case h =
            sym (unless_passed _ _ number ∙ unless_passed _ _ (eq-eqb _ _ second) ∙ unless_passed _ _ directed ∙ unless_failed _ _ (lt-leb _ _ h))

        pub checked : none not_finite strips ≡ true → {s : Direction} → s ≡ direction d → strips_summed s strips ≡ boundary_answer d strips rests
        unfolding boundary_answer
        checked h e =
            ap (λ (s : Direction). strips_summed s strips) e
            ∙ sym (unless_passed _ _ number ∙ unless_passed _ _ (eq-eqb _ _ second) ∙ unless_passed _ _ directed ∙ unless_passed _ _ h)

-- where no position passes, none does
pub none_made : (strips : List ℕ) → length strips ≤ first_where not_finite strips → none not_finite strips ≡ true
unfolding none
none_made strips h = le-leb _ _ h

-- ---- after the second pass
module _ (d : Direction) (strips : List ℕ) where
  pub too_large_is : (suc (length (boundary_steps d strips)) ≡ length strips → ⊥) → strips_summed d strips ≡ refused_at 5 (suc (length (boundary_steps d strips)))
  unfolding strips_summed
  too_large_is h = unless_failed _ _ (ne_eqb _ _ h)

  pub sum_is : suc (length (boundary_steps d strips)) ≡ length strips → strips_summed d strips ≡ gives (last_x (first_of strips) (boundary_steps d strips))
  unfolding strips_summed
  sum_is h = unless_passed _ _ (eq-eqb _ _ h)
