-- The checks of a row in their order, and its answers.
use Rattle.theory.proofs.Prelude.{ℕ, ◌≤◌, ◌<◌, refl, true, false, not, List, ◌∙◌, ap, ◌≡◌, sym, arith, length, ne_eqb, eq-eqb, le-leb, lt-leb}
use Rattle.theory.specs.Lists.{first_where, none}
use Rattle.theory.specs.Tests.{◌and◌}
use Rattle.theory.proofs.Tests.{never, and_made, unless_passed, unless_failed}
use Rattle.format.specs.Given.{Given, gives, refused, refused_at, ◌then◌, given_at}
use Rattle.binary32.specs.Patterns.{not_finite, pattern_values}
use Rattle.std.specs.Prelude.{Result, Ok, Err, IsErr, IsErrAnd}
use Rattle.format.specs.declared.ListRefusal.{ListRefusal}
use Rattle.format.specs.declared.ListRefusal.TheVariants.{Whole, Entry}
use Rattle.saved_lines.specs.Offsets.{descends}
use Rattle.saved_lines.specs.Lines.{passed, patterns_checked, lines_checked}
use Rattle.saved_lines.specs.Rows.{row_looked, queries_checked, nearest_lines, row_written}
use Rattle.saved_lines.proofs.Checking.{refused_by, passed_by, nothing_given}

-- ---- the queries
module _ (qs : List ℕ) {n : ℕ} (e : n ≡ first_where not_finite qs) where
  pub queries_bad : n < length qs → refused_at 9 n ≡ queries_checked qs
  unfolding queries_checked patterns_checked none
  queries_bad b = ap (refused_at 9) e ∙ sym (unless_failed _ _ (lt-leb (length qs) (first_where not_finite qs) (omega arith)))

  module _ (b : length qs ≤ n) where
    pub queries_finite : none not_finite qs ≡ true
    unfolding none
    queries_finite = le-leb (length qs) (first_where not_finite qs) (omega arith)

    pub queries_descend : descends (pattern_values qs) ≡ true → refused 16 ≡ queries_checked qs
    unfolding queries_checked patterns_checked
    queries_descend d = sym (unless_passed _ _ queries_finite ∙ unless_failed _ _ (ap not d))

    pub queries_passed : descends (pattern_values qs) ≡ false → passed ≡ queries_checked qs
    unfolding queries_checked patterns_checked
    queries_passed d = sym (unless_passed _ _ queries_finite ∙ unless_passed _ _ (ap not d))

-- ---- the answers of nearest_lines
module _ (l qs : List ℕ) (room : ℕ) where
  pub row_lengths : (length qs ≡ room → ⊥) → refused 11 ≡ nearest_lines l qs room
  unfolding nearest_lines ◌and◌
  row_lengths h = sym (unless_failed _ _ (rw (ne_eqb (length qs) room h, ◌and◌)))

  module _ (h : length qs ≡ room) where
    pub row_many : 4096 < length qs → refused 11 ≡ nearest_lines l qs room
    unfolding nearest_lines ◌and◌
    row_many m = sym (unless_failed _ _ (rw (eq-eqb (length qs) room h, lt-leb (length qs) 4096 m, ◌and◌)))

    module _ (m : length qs ≤ 4096) where
      abbrev looked : Given ℕ
      looked = gives (row_looked (pattern_values l) 0 (pattern_values qs))

      after_lengths : (lines_checked l true then λ _. queries_checked qs then λ _. looked) ≡ nearest_lines l qs room
      unfolding nearest_lines
      after_lengths = sym (unless_passed _ _ (and_made (eq-eqb (length qs) room h) (le-leb (length qs) 4096 m)))

      -- after the checks of the list
      pub row_refused : {A : Type 0} (c : Result A ListRefusal) {why : ListRefusal} (r : Result ℕ ListRefusal) → c ≡ Err why → IsErrAnd r (λ z. z ≡ why)
          → (given_at c then λ _. passed) ≡ lines_checked l true → given_at r ≡ nearest_lines l qs room
      row_refused c r f g e = refused_by (λ _. queries_checked qs then λ _. looked) c r f g e ∙ after_lengths

      module _ (e : passed ≡ lines_checked l true) where
        after_list : (queries_checked qs then λ _. looked) ≡ nearest_lines l qs room
        after_list = passed_by (λ _. queries_checked qs then λ _. looked) e ∙ after_lengths

        -- and after those of the queries
        pub queries_refused : (c : Result (Unit {0}) ListRefusal) {why : ListRefusal} (r : Result ℕ ListRefusal) → c ≡ Err why → IsErrAnd r (λ z. z ≡ why)
            → given_at c ≡ queries_checked qs → given_at r ≡ nearest_lines l qs room
        queries_refused c r f g d = refused_by (λ _. looked) c r f g (nothing_given _ ∙ d) ∙ after_list

        pub row_gives : passed ≡ queries_checked qs → looked ≡ nearest_lines l qs room
        row_gives g = passed_by (λ _. looked) g ∙ after_list

-- a refusal leaves what was lent
pub row_kept : (r : Result ℕ ListRefusal) → IsErr r → (l qs old : List ℕ) → old ≡ row_written (given_at r) l qs old
row_kept (Ok n) h l qs old = absurd (never (sym h))
row_kept (Err (Whole why)) h l qs old = refl
row_kept (Err (Entry why index)) h l qs old = refl
