-- `binary32_arithmetic::slices::sum_slices` meets its contract.
use Rattle.std.specs.Prelude.{Result, Err}
use Rattle.theory.proofs.Prelude.{ℕ, true, false, List, ◌∙◌, ap, ◌≡◌, sym, refl, eqb, length, ne_eqb, eq-eqb}
use Rattle.theory.specs.Tests.{◌and◌}
use Rattle.theory.specs.declared.Direction.{Direction}
use Rattle.theory.proofs.Directions.{direction_taken, no_direction_taken}
use Rattle.theory.proofs.Results.{err_returned}
use Rattle.theory.proofs.Tests.{and_made, unless_passed, unless_failed}
use Rattle.format.specs.declared.ListRefusal.{ListRefusal}
use Rattle.format.specs.declared.ListRefusal.TheVariants.{Whole, Entry}
use Rattle.format.specs.Given.{Given, gives, refused, given_at, ◌then◌}
use Rattle.format.specs.Directions.{is_direction, direction}
use Rattle.binary32_arithmetic.specs.Slices.{entries, first_refused, sums, inexact_entries, slices_answer, slices_written}
use Rattle.binary32_arithmetic.proofs.slices.sum_slices.Goals as goal

-- ---- the checks on any lists
module _ (d : ℕ) (a b out : List ℕ) where
  lengths_differ : eqb (length a) (length b) and eqb (length a) (length out) ≡ false → refused 11 ≡ slices_answer d a b out
  unfolding slices_answer
  lengths_differ h = sym (unless_failed _ _ h)

  first_differs : (length a ≡ length b → ⊥) → eqb (length a) (length b) and eqb (length a) (length out) ≡ false
  unfolding ◌and◌
  first_differs h = rw (ne_eqb _ _ h, ◌and◌)

  second_differs : length a ≡ length b → (length a ≡ length out → ⊥) → eqb (length a) (length b) and eqb (length a) (length out) ≡ false
  unfolding ◌and◌
  second_differs e h = rw (eq-eqb _ _ e, ne_eqb _ _ h, ◌and◌)

  module _ (e : length a ≡ length b) (g : length a ≡ length out) where
    no_direction : is_direction d ≡ false → refused 2 ≡ slices_answer d a b out
    unfolding slices_answer
    no_direction h = sym (unless_passed _ _ (and_made (eq-eqb _ _ e) (eq-eqb _ _ g)) ∙ unless_failed _ _ h)

    checked : is_direction d ≡ true → {s : Direction} → s ≡ direction d → first_refused (entries s a b) then (λ done. gives (inexact_entries s a b)) ≡ slices_answer d a b out
    unfolding slices_answer
    checked h k =
        ap (λ (t : Direction). first_refused (entries t a b) then (λ done. gives (inexact_entries t a b))) k ∙ sym (unless_passed _ _ (and_made (eq-eqb _ _ e) (eq-eqb _ _ g)) ∙ unless_passed _ _ h)

-- ---- a refusal is handed on, and leaves what was lent
refused_leaves : {r : Result ℕ ListRefusal} {e : ListRefusal} (new old : List ℕ) → r ≡ Err e → old ≡ slices_written (given_at r) new old
refused_leaves {e = Whole why} new old h = rw h
refused_leaves {e = Entry why i} new old h = rw h

handed_on : {r : Result ℕ ListRefusal} {x : Result Unit ListRefusal} {e : ListRefusal} {g : Given Unit} (next : Unit → Given ℕ) → r ≡ Err e → x ≡ Err e → given_at x ≡ g → given_at r ≡ (g then next)
handed_on {e = Whole why} next f h k = rw (f, ← k, h)
handed_on {e = Entry why i} next f h k = rw (f, ← k, h)

pub returns-then-a-b : goal.returns-then-a-b
returns-then-a-b c =
    let s = c.args in record {
      answer = lengths_differ s.direction s.a.now s.b.now s.out.now (first_differs s.direction s.a.now s.b.now s.out.now c.if-a-b.true);
      written = refl;
    }

pub returns-then-a-out : goal.returns-then-a-out
returns-then-a-out c =
    let s = c.args in record {
      answer = lengths_differ s.direction s.a.now s.b.now s.out.now (second_differs s.direction s.a.now s.b.now s.out.now c.if-a-b.false c.if-a-out.true);
      written = refl;
    }

pub returns-in_default : goal.returns-in_default
returns-in_default c =
    let s = c.args in record {
      answer = no_direction s.direction s.a.now s.b.now s.out.now c.if-a-b.false c.if-a-out.false (no_direction_taken s.direction (sym c.try_from.ensures ∙ c.in_default.is));
      written = refl;
    }

pub returns-in_err-first_refused : goal.returns-in_err-first_refused
returns-in_err-first_refused c =
    let s = c.args in
    let is = direction_taken s.direction (sym c.try_from.ensures ∙ c.in-Ok.is) in
    let r = err_returned _ c.from_residual.ensures.1 in
    record {
      answer = handed_on _ r c.in_err-first_refused.was c.first_refused.ensures ∙ checked s.direction s.a.now s.b.now s.out.now c.if-a-b.false c.if-a-out.false is.0 is.1;
      written = refused_leaves _ _ r;
    }

pub returns : goal.returns
returns c =
    let s = c.args in
    let is = direction_taken s.direction (sym c.try_from.ensures ∙ c.in-Ok.is) in
    record {
      answer =
          ap gives c.write_sums.ensures.count
          ∙ ap (λ (g : Given Unit). g then (λ done. gives (inexact_entries c.in-Ok.direction s.a.now s.b.now))) (sym (ap given_at c.in_ok-first_refused.was) ∙ c.first_refused.ensures)
          ∙ checked s.direction s.a.now s.b.now s.out.now c.if-a-b.false c.if-a-out.false is.0 is.1;
      written = c.write_sums.ensures.written ∙ ap (λ (d : Direction). sums d s.a.now s.b.now) is.1;
    }
