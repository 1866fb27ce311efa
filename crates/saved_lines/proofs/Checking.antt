-- The checks of a list in their order, and what a list that passed them has.
use Rattle.theory.proofs.Prelude.{ℕ, ◌≤◌, ◌<◌, true, false, Bool, not, List, ◌∙◌, ap, ◌≡◌, sym, refl, arith, leb, length, le-leb, lt-leb}
use Rattle.theory.specs.Lists.{first_where, none}
use Rattle.theory.specs.Tests.{◌and◌}
use Rattle.theory.proofs.Results.{err_returned}
use Rattle.theory.proofs.Tests.{and_made, unless_passed, unless_failed}
use Rattle.format.specs.Given.{Given, gives, refused, refused_at, ◌then◌, given_at}
use Rattle.binary32.specs.Patterns.{finite, not_finite, pattern_value, pattern_values}
use Rattle.std.specs.Prelude.{Result, Err, IsErrAnd}
use Rattle.format.specs.declared.ListRefusal.{ListRefusal}
use Rattle.format.specs.declared.ListRefusal.TheVariants.{Whole, Entry}
use Rattle.saved_lines.specs.Offsets.{nearest, descends, repeats}
use Rattle.saved_lines.specs.Lines.{Examination, passed, patterns_checked, ascent_checked, lines_checked, Checked, nearest_line}

-- ---- the refusals, one after the other
module _ (l : List ℕ) (t : Bool) where
  pub no_lines : length l ≡ 0 → refused 12 ≡ lines_checked l t
  unfolding lines_checked ◌and◌
  no_lines h = sym (unless_failed _ _ (rw (lt-leb 1 (length l) (omega arith), ◌and◌)))

  pub many_lines : 4096 < length l → refused 12 ≡ lines_checked l t
  unfolding lines_checked ◌and◌
  many_lines h = sym (unless_failed _ _ (rw (le-leb 1 (length l) (omega arith), lt-leb (length l) 4096 h, ◌and◌)))

  module _ (h : 1 ≤ length l) (m : length l ≤ 4096) {n : ℕ} (e : n ≡ first_where not_finite l) where
    length_passed : leb 1 (length l) and leb (length l) 4096 ≡ true
    length_passed = and_made (le-leb 1 (length l) h) (le-leb (length l) 4096 m)

    pub bad_pattern : n < length l → refused_at 9 n ≡ lines_checked l t
    unfolding lines_checked patterns_checked none
    bad_pattern b =
        ap (refused_at 9) e ∙ sym (unless_passed _ _ length_passed ∙ unless_failed _ _ (lt-leb (length l) (first_where not_finite l) (omega arith)))

    module _ (b : length l ≤ n) where
      pub patterns_passed : none not_finite l ≡ true
      unfolding none
      patterns_passed = le-leb (length l) (first_where not_finite l) (omega arith)

      pub bad_number : t ≡ false → refused 9 ≡ lines_checked l t
      unfolding lines_checked patterns_checked
      bad_number f = sym (unless_passed _ _ length_passed ∙ unless_passed _ _ patterns_passed ∙ unless_failed _ _ f)

      -- the order is what is left
      by_order : t ≡ true → ascent_checked l ≡ lines_checked l t
      unfolding lines_checked patterns_checked
      by_order f = sym (unless_passed _ _ length_passed ∙ unless_passed _ _ patterns_passed ∙ unless_passed _ _ f)

      pub bad_order : t ≡ true → descends (pattern_values l) ≡ true → refused 13 ≡ lines_checked l t
      unfolding ascent_checked
      bad_order f d = sym (unless_failed _ _ (ap not d)) ∙ by_order f

      pub bad_neighbours : t ≡ true → descends (pattern_values l) ≡ false → repeats (pattern_values l) ≡ true → refused 15 ≡ lines_checked l t
      unfolding ascent_checked
      bad_neighbours f d r = sym (unless_passed _ _ (ap not d) ∙ unless_failed _ _ (ap not r)) ∙ by_order f

      pub all_passed : t ≡ true → descends (pattern_values l) ≡ false → repeats (pattern_values l) ≡ false → passed ≡ lines_checked l t
      unfolding ascent_checked
      all_passed f d r = sym (unless_passed _ _ (ap not d) ∙ unless_passed _ _ (ap not r)) ∙ by_order f

-- ---- what comes after checks: a refusal of theirs, or what follows where they pass
module _ {B : Type 0} {x : Examination} (next : Unit {0} → Given B) where
  pub refused_by : {A : Type 0} (c : Result A ListRefusal) {why : ListRefusal} (r : Result B ListRefusal) → c ≡ Err why → IsErrAnd r (λ z. z ≡ why)
      → (given_at c then λ _. passed) ≡ x → given_at r ≡ (x then next)
  refused_by {A} c {why} r f h e = ap given_at (err_returned r h) ∙ by why (rw f at e)
    where
      by : (why : ListRefusal) → (given_at {A = A} (Err why) then λ _. passed) ≡ x → given_at {A = B} (Err why) ≡ (x then next)
      by (Whole why) e = ap (λ (y : Examination). y then next) e
      by (Entry why index) e = ap (λ (y : Examination). y then next) e

  pub passed_by : passed ≡ x → next tt ≡ (x then next)
  passed_by e = ap (λ (y : Examination). y then next) e

-- checks that give nothing
pub nothing_given : (x : Examination) → (x then λ _. passed) ≡ x
nothing_given (gives u) = refl
nothing_given (refused number) = refl
nothing_given (refused_at number index) = refl

-- ---- the answer of nearest_line
module _ {A : Type 0} (l : List ℕ) (q : ℕ) {t : Bool} (f : t ≡ finite q) where
  pub nearest_refused : (c : Result A ListRefusal) {why : ListRefusal} (r : Result ℕ ListRefusal) → c ≡ Err why → IsErrAnd r (λ z. z ≡ why)
      → (given_at c then λ _. passed) ≡ lines_checked l t → given_at r ≡ nearest_line l q
  unfolding nearest_line
  nearest_refused c r g h e = refused_by _ c r g h (e ∙ ap (lines_checked l) f)

pub nearest_found : (l : List ℕ) (q : ℕ) {t : Bool} → t ≡ finite q → passed ≡ lines_checked l t → gives (nearest (pattern_values l) (pattern_value q)) ≡ nearest_line l q
unfolding nearest_line
nearest_found l q f e = passed_by _ (e ∙ ap (lines_checked l) f)

-- and of a list that passes them
pub checked_passes : (l : List ℕ) (q : ℕ) → Checked l → finite q ≡ true → nearest_line l q ≡ gives (nearest (pattern_values l) (pattern_value q))
unfolding nearest_line lines_checked patterns_checked ascent_checked
checked_passes l q c f = ap (λ (x : Examination). x then (λ _. gives (nearest (pattern_values l) (pattern_value q)))) all
  where
    all : lines_checked l (finite q) ≡ passed
    all =
        unless_passed _ _ (and_made (le-leb 1 (length l) c.some) (le-leb (length l) 4096 c.most)) ∙ unless_passed _ _ c.finite
        ∙ unless_passed _ _ f ∙ unless_passed _ _ (ap not c.order) ∙ unless_passed _ _ (ap not c.strict)
